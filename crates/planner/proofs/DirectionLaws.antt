-- The direction of a move.
use mathlib.Core.Bool.{true, false, true≢false}
use mathlib.Core.Path.{◌≡◌, refl}
use Prim.Native.Nat.{zero, suc}
use native.Mathlib.Nat.{not-suc-le-zero}
use borrow.Author.Tests.{ltb-true}
use lib.Dec.{ltb→lt}
use lib.IntN.{ℤ, pos, negsuc, neg_ℤ, nat_abs, ◌+ℤ◌, neg_ℤ-+ℤ}
use lib.Signed.{lt_z, ◌≤ℤ◌, ◌<ℤ◌}
use Rattle.planner.specs.Quantities.{along}

pub along_negative : (X value : ℤ) → lt_z X (pos 0) ≡ true → along X value ≡ neg_ℤ value
unfolding along
along_negative (pos n) value h = absurd (not-suc-le-zero (ltb-true n 0 h))
along_negative (negsuc n) value h = refl

pub along_positive : (X value : ℤ) → lt_z X (pos 0) ≡ false → along X value ≡ value
unfolding along
along_positive (pos n) value h = refl
along_positive (negsuc n) value h = absurd (true≢false h)

pub along_zero : (X : ℤ) → along X (pos 0) ≡ pos 0
unfolding along
along_zero (pos n) = refl
along_zero (negsuc n) = refl

pub along_sum : (X x y : ℤ) → along X (x +ℤ y) ≡ along X x +ℤ along X y
unfolding along
along_sum (pos n) x y = refl
along_sum (negsuc n) x y = neg_ℤ-+ℤ x y

pub size_along : (X x : ℤ) → nat_abs (along X x) ≡ nat_abs x
unfolding along
size_along (pos n) x = refl
size_along (negsuc n) (pos zero) = refl
size_along (negsuc n) (pos (suc m)) = refl
size_along (negsuc n) (negsuc m) = refl

-- A value that is not negative, forward and backward.
pub along_forward : (X x : ℤ) → pos 0 <ℤ X → pos 0 ≤ℤ x → pos 0 ≤ℤ along X x
unfolding along
along_forward (pos n) x h k = k
along_forward (negsuc n) x h k = absurd h.lt

pub along_backward : (X x : ℤ) → X <ℤ pos 0 → pos 0 ≤ℤ x → along X x ≤ℤ pos 0
unfolding along
along_backward (pos n) x h k = absurd (not-suc-le-zero (ltb→lt n 0 h.lt))
along_backward (negsuc n) (pos zero) h k = record { le = tt }
along_backward (negsuc n) (pos (suc m)) h k = record { le = tt }
along_backward (negsuc n) (negsuc m) h k = absurd k.le
