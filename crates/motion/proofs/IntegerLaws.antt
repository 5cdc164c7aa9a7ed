-- Sizes, differences, the order and the range of signed numbers.
use mathlib.Core.Bool.{Bool, cond}
use mathlib.Core.Path.{◌≡◌, refl, sym, ap, ap₂, ◌∙◌}
use Prim.Native.Nat.{ℕ, zero, suc, ◌+◌, ◌-◌, ◌*◌, ◌^◌, ◌≤◌, ◌<◌, zero-le}
use native.Mathlib.Nat.{mul-zero}
use native.Mathlib.Omega.{arith}
use borrow.Author.Tests.{le-ltb}
use lib.Dec.{le→leb, lt→ltb}
use lib.IntN.{ℤ, pos, negsuc, neg_ℤ, nat_abs, ◌+ℤ◌, ◌-ℤ◌, ◌*ℤ◌, neg_ℤ-+ℤ, neg_ℤ-neg_ℤ, +ℤ_assoc, +ℤ_comm, +ℤ_idl, +ℤ_invr, +ℤ-neg_ℤ_cancel, suc_ℤ-*ℤ, zero-*ℤ}
use lib.Signed.{◌≤ℤ◌, ◌<ℤ◌}
use mir.Syntax.{w64}
use mir.Val.{SFits}
use Rattle.planner.proofs.Sign.{size_negated}
use Rattle.planner.proofs.IntegerSizes.{size_sum, size_fits}

pub negated_difference : (x y : ℤ) → neg_ℤ x -ℤ neg_ℤ y ≡ neg_ℤ (x -ℤ y)
negated_difference x y = sym (neg_ℤ-+ℤ x (neg_ℤ y))

pub multiple_negated : (m : ℕ) (x : ℤ) → pos m *ℤ neg_ℤ x ≡ neg_ℤ (pos m *ℤ x)
multiple_negated m (pos zero) = rw (mul-zero m) refl
multiple_negated m (pos (suc n)) = refl
multiple_negated m (negsuc n) = sym (neg_ℤ-neg_ℤ (pos (m * suc n)))

pub size_doubled : (x : ℤ) → nat_abs (pos 2 *ℤ x) ≡ 2 * nat_abs x
size_doubled (pos n) = refl
size_doubled (negsuc n) = size_negated (pos (2 * suc n))

pub doubled_sum : (x : ℤ) → pos 2 *ℤ x ≡ x +ℤ x
doubled_sum (pos n) = ap pos (omega arith)
doubled_sum (negsuc n) = let twice : 2 * suc n ≡ suc (suc (n + n)) = omega arith in ap (λ (k : ℕ). neg_ℤ (pos k)) twice

pub difference : (m n : ℕ) → n ≤ m → pos m -ℤ pos n ≡ pos (m - n)
difference m zero h = ap pos (omega arith)
difference m (suc n) h = ap (λ (t : Bool). cond t (negsuc (suc n - suc m)) (pos (m - suc n))) (le-ltb m (suc n) h)

pub swapped_difference : (x y : ℤ) → neg_ℤ x -ℤ neg_ℤ y ≡ y -ℤ x
swapped_difference x y = ap (λ z. neg_ℤ x +ℤ z) (neg_ℤ-neg_ℤ y) ∙ +ℤ_comm (neg_ℤ x) y

-- what lies at the distance d from u
pub distance_from : (u d : ℤ) → (u +ℤ d) -ℤ u ≡ d
distance_from u d = ap (λ z. z -ℤ u) (+ℤ_comm u d) ∙ +ℤ-neg_ℤ_cancel d u

pub exchanged : (a b c d : ℤ) → (a +ℤ b) +ℤ (c +ℤ d) ≡ (a +ℤ c) +ℤ (b +ℤ d)
exchanged a b c d = cc (+ℤ_assoc a b (c +ℤ d), +ℤ_assoc b c d, +ℤ_comm b c, +ℤ_assoc c b d, +ℤ_assoc a c (b +ℤ d))

-- the difference of two distances from u
pub shifted_difference : (u x y : ℤ) → (u +ℤ x) -ℤ (u +ℤ y) ≡ x -ℤ y
shifted_difference u x y =
    ap (λ z. (u +ℤ x) +ℤ z) (neg_ℤ-+ℤ u y) ∙ exchanged u x (neg_ℤ u) (neg_ℤ y)
    ∙ ap (λ z. z +ℤ (x -ℤ y)) (+ℤ_invr u) ∙ +ℤ_idl (x -ℤ y)

pub multiple_sum : (n : ℕ) (x y : ℤ) → pos n *ℤ (x +ℤ y) ≡ pos n *ℤ x +ℤ pos n *ℤ y
multiple_sum zero x y = zero-*ℤ (x +ℤ y) ∙ sym (ap₂ (λ (u v : ℤ). u +ℤ v) (zero-*ℤ x) (zero-*ℤ y))
multiple_sum (suc n) x y =
    suc_ℤ-*ℤ (pos n) (x +ℤ y)
    ∙ ap (λ z. z +ℤ (x +ℤ y)) (multiple_sum n x y)
    ∙ exchanged (pos n *ℤ x) (pos n *ℤ y) x y
    ∙ sym (ap₂ (λ (u v : ℤ). u +ℤ v) (suc_ℤ-*ℤ (pos n) x) (suc_ℤ-*ℤ (pos n) y))

-- the order
pub not_below_zero : (n : ℕ) → pos 0 ≤ℤ pos n
not_below_zero n = record { le = le→leb 0 n zero-le }

pub pos_below : (m n : ℕ) → m < n → pos m <ℤ pos n
pos_below m n h = record { lt = lt→ltb m n h }

-- the sum of two that are at most 2^61 in size fits an i64; so does what is at most 2^60
pub small_fits : (x : ℤ) → nat_abs x ≤ 2 ^ 60 → SFits w64 x
small_fits x h = size_fits x (omega arith)

pub wide_sum_fits : (x y : ℤ) → nat_abs x ≤ 2 ^ 61 → nat_abs y ≤ 2 ^ 61 → SFits w64 (x +ℤ y)
wide_sum_fits x y h k = size_fits (x +ℤ y) (omega (arith, size_sum x y))

pub sum_fits : (x y : ℤ) → nat_abs x ≤ 2 ^ 60 → nat_abs y ≤ 2 ^ 60 → SFits w64 (x +ℤ y)
sum_fits x y h k = wide_sum_fits x y (omega arith) (omega arith)

-- whichever is taken from the other
pub differences_fit : (x y : ℤ) → nat_abs x ≤ 2 ^ 60 → nat_abs y ≤ 2 ^ 60 → SFits w64 (x -ℤ y) × SFits w64 (y -ℤ x)
differences_fit x y h k =
    (sum_fits x (neg_ℤ y) h (rw (size_negated y) k), sum_fits y (neg_ℤ x) k (rw (size_negated x) h))
