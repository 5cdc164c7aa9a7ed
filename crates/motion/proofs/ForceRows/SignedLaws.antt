-- The whole number of a sign and a size: its size, sums and products.
use mathlib.Core.Bool.{Bool, true, false, not, ◌&&◌}
use mathlib.Core.Path.{◌≡◌, refl, sym, ap, ◌∙◌}
use Prim.Native.Nat.{ℕ, zero, suc, ◌+◌, ◌-◌, ◌*◌, ◌≤◌, ◌<◌}
use native.Mathlib.Nat.{zero-mul, mul-zero, mul_comm}
use native.Mathlib.Omega.{arith}
use borrow.Author.Tests.{ltb-false}
use lib.Dec.{ltb}
use lib.IntN.{pos, neg_ℤ, nat_abs, ◌+ℤ◌, ◌*ℤ◌, neg_ℤ-+ℤ, neg_ℤ-neg_ℤ, *ℤ_comm, zero-*ℤ, pos-ne-negsuc}
use lib.Ieee.{unlike}
use Rattle.planner.specs.Quantities.{signed}
use Rattle.planner.proofs.Sign.{size_negated}
use Rattle.motion.proofs.IntegerLaws.{negated_difference, multiple_negated, difference}

pub size_signed : (s : Bool) (a : ℕ) → nat_abs (signed s a) ≡ a
unfolding signed
size_signed false a = refl
size_signed true a = size_negated (pos a)

pub alike_sum : (s : Bool) (a b : ℕ) → signed s a +ℤ signed s b ≡ signed s (a + b)
unfolding signed
alike_sum false a b = refl
alike_sum true a b = sym (neg_ℤ-+ℤ (pos a) (pos b))

pub unlike_sum : (s : Bool) (a b : ℕ) → b ≤ a → signed s a +ℤ signed (not s) b ≡ signed s (a - b)
unfolding signed
unlike_sum false a b h = difference a b h
unlike_sum true a b h =
    ap (λ z. neg_ℤ (pos a) +ℤ z) (sym (neg_ℤ-neg_ℤ (pos b))) ∙ negated_difference (pos a) (pos b) ∙ ap neg_ℤ (difference a b h)

-- zero has either sign
pub signed_zero : (s : Bool) → signed s 0 ≡ pos 0
unfolding signed
signed_zero false = refl
signed_zero true = refl

pub zero_sign : (s : Bool) (a b : ℕ) (t : Bool) → ltb b a ≡ t → signed s (a - b) ≡ signed (s && t) (a - b)
unfolding signed
zero_sign false a b t h = refl
zero_sign true a b true h = refl
zero_sign true a b false h = let e : a - b ≡ 0 = omega (arith, ltb-false b a h) in rw e

pub signed_product : (s t : Bool) (a b : ℕ) → signed s a *ℤ signed t b ≡ signed (unlike s t) (a * b)
unfolding signed
signed_product false false a b = refl
signed_product false true a b = multiple_negated a (pos b)
signed_product true false a b =
    *ℤ_comm (neg_ℤ (pos a)) (pos b) ∙ multiple_negated b (pos a) ∙ ap (λ (n : ℕ). neg_ℤ (pos n)) (mul_comm b a)
signed_product true true zero b = zero-*ℤ (neg_ℤ (pos b)) ∙ ap pos (sym (zero-mul b))
signed_product true true (suc a) zero = rw (mul-zero (suc a)) refl
signed_product true true (suc a) (suc b) = refl

-- a divisor above zero leaves the sign
pub quotient_sign : (s t : Bool) (b c : ℕ) → 0 < c → signed t b ≡ pos c → unlike s t ≡ s
unfolding signed
quotient_sign false false b c h e = refl
quotient_sign true false b c h e = refl
quotient_sign s true zero c h e = absurd (omega (arith, ap nat_abs e))
quotient_sign s true (suc b) c h e = absurd (pos-ne-negsuc c b (sym e))
