-- Up to 2^53 in size, casts to whole floats and their sums, products and halves lose nothing; neither does reading a minus zero.
use mathlib.Core.Bool.{Bool, true, false, cond, or-true, beq}
use mathlib.Core.Logic.{inl, inr}
use mathlib.Core.Path.{◌≡◌, refl, sym, ap, ◌∙◌}
use Prim.Native.Nat.{ℕ, zero, suc, ◌*◌, ◌^◌, ◌≤◌, ◌<◌}
use native.Mathlib.Nat.{zero-mul, eq-or-lt_of_le, mul-pos, mul_assoc, zero-lt-suc, lt_of_lt_of_le}
use native.Mathlib.Omega.{arith}
use borrow.Author.Tests.{ne_eqb}
use lib.Dec.{eqb, eqb-suc-zero, lit<, lit≤}
use lib.Pow.{shl_lt}
use lib.IntN.{ℤ, pos, nat_abs, ◌+ℤ◌, ◌*ℤ◌, *ℤ-one, one}
use lib.Ieee.{Float, fin, binary64, up, down, round, add, mul, of_int, eq}
use lib.Ieee.Fits.{down_pos}
use lib.Ieee.Exact.{HasValue, round_exact}
use lib.Ieee.Back.{round_whole}
use Rattle.planner.specs.Quantities.{signed}
use Rattle.motion.specs.ForceRows.Machine.{Machine, plus_zero, as_read, machine_as_read}
use Rattle.motion.specs.ForceRows.Force.{half}
use Rattle.motion.specs.ForceRows.Claims.{IsFraction, IsWhole, IsHalf, IsRounded, IsWholeMachine}
use Rattle.motion.proofs.ForceRows.SignedLaws.{size_signed, signed_zero}
use Rattle.motion.proofs.ForceRows.RoundedLaws.{by_form, cast_rounded, sum_rounded, product_rounded}

-- Rounding loses nothing of a fraction that a float holds.
exact_of :
    {x : Float} {z : ℤ} {n : ℕ}
    → ((s : Bool) (a : ℕ) → a ≤ 2 ^ 53 → HasValue (round binary64 s a n) s a n)
    → IsRounded x z n
    → nat_abs z ≤ 2 ^ 53
    → IsFraction x z n
exact_of kept h small =
    record {
      negative = h.negative;
      size = h.size;
      whole_is = h.whole_is;
      value = rw h.rounded (kept h.negative h.size (rw (h.whole_is, size_signed h.negative h.size) at small));
    }

pub cast_exact : (z : ℤ) → nat_abs z ≤ 2 ^ 53 → IsWhole (of_int binary64 z) z
cast_exact z = exact_of (round_whole binary64) (cast_rounded z)

pub whole_sum : {x y : Float} {z w : ℤ} → IsWhole x z → IsWhole y w → nat_abs (z +ℤ w) ≤ 2 ^ 53 → IsWhole (add binary64 x y) (z +ℤ w)
whole_sum h k = exact_of (round_whole binary64) (sum_rounded h k)

pub whole_product : {x y : Float} {z w : ℤ} → IsWhole x z → IsWhole y w → nat_abs (z *ℤ w) ≤ 2 ^ 53 → IsWhole (mul binary64 x y) (z *ℤ w)
whole_product h k = exact_of (round_whole binary64) (product_rounded (lit< tt) (lit< tt) h k)

-- halves: 2^53 is one digit more than a float keeps, and a power of two
round_half : (s : Bool) (a : ℕ) → a ≤ 2 ^ 53 → HasValue (round binary64 s a 2) s a 2
round_half s a h =
    elim (eq-or-lt_of_le h) [
      | inl e ↦ rw e (round_exact binary64 s (2 ^ 53) 2 1 1126 (lit< tt) (lit< tt) (lit< tt) refl)
      | inr l ↦ round_exact binary64 s a 2 a 1073 (lit< tt) l (lt_of_lt_of_le (shl_lt 53 1073 l) (lit≤ tt)) (sym (mul_assoc a _ 2))
    ]

pub half_exact : {x : Float} {z : ℤ} → IsWhole x z → nat_abs z ≤ 2 ^ 53 → IsHalf (mul binary64 x half) z
unfolding one signed
half_exact {z} h = exact_of round_half (rw (*ℤ-one z) at (product_rounded (lit< tt) (lit< tt) h is_half))
  where
    is_half : IsHalf half (pos 1)
    is_half = record { negative = false; size = 1; whole_is = refl; value = (refl, refl) }

-- "Minus zero is read as plus zero."
equals_zero : (s : Bool) (m : ℕ) (e : ℤ) (a : ℕ) → m * up e * 1 ≡ a * down e → eq (fin s m e) plus_zero ≡ eqb a 0
unfolding eq
equals_zero s m e zero v = rw (v, zero-mul (down e), or-true (beq s false))
equals_zero s m e (suc a) v =
    let above : 0 < suc a * down e = mul-pos (zero-lt-suc a) (down_pos e) in
    rw (v, zero-mul (down e), ne_eqb (suc a * down e) 0 (omega arith), eqb-suc-zero a)

pub zero_equals : {x : Float} → IsWhole x (pos 0) → eq x plus_zero ≡ true
zero_equals h =
    by_form (λ x z. z ≡ pos 0 → eq x plus_zero ≡ true)
    (λ s m e a v i. equals_zero s m e a v ∙ ap (λ (n : ℕ). eqb n 0) (sym (size_signed s a) ∙ ap nat_abs i)) h refl

read_form :
    (s : Bool) (m : ℕ) (e : ℤ) (a : ℕ) → m * up e * 1 ≡ a * down e → IsWhole (cond (eqb a 0) plus_zero (fin s m e)) (signed s a)
unfolding signed
read_form s m e zero v = record { negative = false; size = 0; whole_is = signed_zero s; value = (refl, refl) }
read_form s m e (suc a) v = rw (eqb-suc-zero a) (record { negative = s; size = suc a; whole_is = refl; value = (refl, v) })

read_whole : {x : Float} {z : ℤ} → IsWhole x z → IsWhole (as_read x) z
unfolding as_read
read_whole h = by_form (λ x z. IsWhole (as_read x) z) (λ s m e a v. rw (equals_zero s m e a v) (read_form s m e a v)) h

pub read_whole_machine : {m : Machine Float} {whole : Machine ℤ} → IsWholeMachine m whole → IsWholeMachine (machine_as_read m) whole
unfolding machine_as_read
read_whole_machine h =
    record {
      m1 = read_whole h.m1;
      m2 = read_whole h.m2;
      k1 = read_whole h.k1;
      k2 = read_whole h.k2;
      k12 = read_whole h.k12;
      c = read_whole h.c;
    }
