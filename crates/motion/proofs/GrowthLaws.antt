-- What a number becomes by adding two that are not negative, or two that are not positive.
use mathlib.Core.Path.{sym, ap, subst, ◌∙◌}
use Prim.Native.Nat.{ℕ, zero, suc, ◌+◌}
use native.Mathlib.Omega.{arith}
use lib.Dec.{leb→le, le→leb}
use lib.IntN.{ℤ, pos, negsuc, suc_ℤ, neg_ℤ, ◌+ℤ◌, +ℤ_idr, +ℤ-suc_ℤ, neg_ℤ-+ℤ, +ℤ-neg_ℤ_cancel}
use lib.Signed.{◌≤ℤ◌, ≤ℤ_refl}
use Rattle.motion.proofs.EitherDirection.{not_positive}

below_next : (x y : ℤ) → x ≤ℤ y → x ≤ℤ suc_ℤ y
below_next (pos m) (pos n) h = record { le = le→leb m (suc n) (omega (arith, leb→le m n h.le)) }
below_next (pos m) (negsuc n) h = absurd h.le
below_next (negsuc m) (pos n) h = record { le = tt }
below_next (negsuc m) (negsuc zero) h = record { le = tt }
below_next (negsuc m) (negsuc (suc n)) h = record { le = le→leb n m (omega (arith, leb→le (suc n) m h.le)) }

grown : (x : ℤ) (n : ℕ) → x ≤ℤ (x +ℤ pos n)
grown x zero = subst (λ (y : ℤ). x ≤ℤ y) (sym (+ℤ_idr x)) (≤ℤ_refl x)
grown x (suc n) = subst (λ (y : ℤ). x ≤ℤ y) (sym (+ℤ-suc_ℤ x (pos n))) (below_next x (x +ℤ pos n) (grown x n))

pub grows : (x a b : ℤ) → pos 0 ≤ℤ a → pos 0 ≤ℤ b → x ≤ℤ (x +ℤ (a +ℤ b))
grows x (pos m) (pos n) h k = grown x (m + n)
grows x (pos m) (negsuc n) h k = absurd k.le
grows x (negsuc m) b h k = absurd h.le

pub shrinks : (x a b : ℤ) → a ≤ℤ pos 0 → b ≤ℤ pos 0 → (x +ℤ (a +ℤ b)) ≤ℤ x
shrinks x a b h k =
    let less = x +ℤ (a +ℤ b) in
    subst (λ (y : ℤ). less ≤ℤ y) (ap (λ (y : ℤ). less +ℤ y) (sym (neg_ℤ-+ℤ a b)) ∙ +ℤ-neg_ℤ_cancel x (a +ℤ b))
    (grows less (neg_ℤ a) (neg_ℤ b) (not_positive a h) (not_positive b k))
