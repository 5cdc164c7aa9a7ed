-- Values in the direction of a move that may go either way.
use mathlib.Core.Path.{◌≡◌, sym, ap, ◌∙◌}
use Prim.Native.Nat.{ℕ, zero, suc, ◌*◌, ◌≤◌, ◌<◌}
use native.Mathlib.Nat.{not-suc-le-zero}
use native.Mathlib.Omega.{arith}
use lib.Dec.{ltb→lt, leb→le}
use lib.IntN.{ℤ, pos, negsuc, neg_ℤ, nat_abs, ◌*ℤ◌}
use lib.Signed.{◌≤ℤ◌, ◌<ℤ◌, yes_non_neg, pos-nat_abs}
use Rattle.planner.specs.Quantities.{along}
use Rattle.planner.proofs.Sign.{size_negated}
use Rattle.motion.proofs.IntegerLaws.{not_below_zero, pos_below}

-- the value has the direction of X
abbrev pub Along : (X x : ℤ) → Type 0
Along X x = along X x ≡ pos (nat_abs x)

pub not_positive : (x : ℤ) → x ≤ℤ pos 0 → pos 0 ≤ℤ neg_ℤ x
not_positive (pos zero) h = not_below_zero 0
not_positive (pos (suc n)) h = absurd (not-suc-le-zero (leb→le (suc n) 0 h.le))
not_positive (negsuc n) h = not_below_zero (suc n)

-- a value that is not negative for a positive X, nor positive for a negative one, has its direction
pub along_either : (X x : ℤ) → 1 ≤ nat_abs X → (pos 0 <ℤ X → pos 0 ≤ℤ x) → (X <ℤ pos 0 → pos 0 ≤ℤ neg_ℤ x) → Along X x
unfolding along
along_either (pos zero) x moves forward backward = absurd (not-suc-le-zero moves)
along_either (pos (suc i)) x moves forward backward = sym (pos-nat_abs x (yes_non_neg (forward (pos_below 0 (suc i) (omega arith)))))
along_either (negsuc i) x moves forward backward =
    sym (pos-nat_abs (neg_ℤ x) (yes_non_neg (backward (record { lt = tt })))) ∙ ap pos (size_negated x)

-- so with twice its size
pub below_either :
    (X x : ℤ) (n : ℕ)
    → Along X x
    → 1 ≤ nat_abs X
    → (pos 0 <ℤ X → (pos 2 *ℤ x) <ℤ pos n)
    → (X <ℤ pos 0 → (pos 2 *ℤ neg_ℤ x) <ℤ pos n)
    → 2 * nat_abs x < n
unfolding along
below_either (pos zero) x n a moves forward backward = absurd (not-suc-le-zero moves)
below_either (pos (suc i)) x n a moves forward backward =
    let l = forward (pos_below 0 (suc i) (omega arith)) in
    ltb→lt _ n (rw a at l).lt
below_either (negsuc i) x n a moves forward backward =
    let l = backward (record { lt = tt }) in
    ltb→lt _ n (rw a at l).lt
