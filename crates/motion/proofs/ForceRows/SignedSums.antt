-- The sum of ±a/c and ±b/c is the exact sum rounded once, and a common factor changes nothing.
use mathlib.Core.Bool.{Bool, true, false, not, cond, ◌&&◌, not-not}
use mathlib.Core.Path.{◌≡◌, refl, ◌∙◌}
use Prim.Native.Nat.{ℕ, ◌+◌, ◌-◌, ◌*◌, ◌<◌}
use native.Mathlib.Nat.{le_of_lt, mul-one, mul-add, mul-sub, mul_comm, mul-le-mul_left, mul-lt-mul_of_pos_left}
use borrow.Author.Tests.{ltb-true, ltb-false, lt-ltb, le-ltb}
use lib.Dec.{ltb, lit<}
use lib.IntN.{◌+ℤ◌, +ℤ_comm}
use lib.Ieee.{binary64, round, sum}
use lib.Ieee.Scale.{round_same}
use Rattle.planner.specs.Quantities.{signed}
use Rattle.motion.specs.ForceRows.Claims.{IsRounded}
use Rattle.motion.proofs.ForceRows.SignedLaws.{alike_sum, unlike_sum, zero_sign}

alike_rounded : (s : Bool) (a b c : ℕ) → IsRounded (round binary64 s (a + b) c) (signed s a +ℤ signed s b) c
alike_rounded s a b c = record { negative = s; size = a + b; whole_is = alike_sum s a b; rounded = refl }

unlike_rounded :
    (s : Bool) (a b c : ℕ) (t : Bool)
    → ltb a b ≡ t
    → IsRounded (cond t (round binary64 (not s) (b - a) c) (round binary64 (s && ltb b a) (a - b) c)) (signed s a +ℤ signed (not s) b) c
unlike_rounded s a b c true h =
    let swapped = unlike_sum (not s) b a (le_of_lt (ltb-true a b h)) in
    record {
      negative = not s;
      size = b - a;
      whole_is = +ℤ_comm (signed s a) (signed (not s) b) ∙ (rw (not-not s) at swapped);
      rounded = refl;
    }
unlike_rounded s a b c false h =
    record {
      negative = s && ltb b a;
      size = a - b;
      whole_is = unlike_sum s a b (ltb-false a b h) ∙ zero_sign s a b (ltb b a) refl;
      rounded = refl;
    }

pub signed_sum : (s t : Bool) (a b c : ℕ) → IsRounded (sum binary64 s a t b c) (signed s a +ℤ signed t b) c
unfolding sum
signed_sum false false a b c = alike_rounded false a b c
signed_sum true true a b c = alike_rounded true a b c
signed_sum false true a b c = unlike_rounded false a b c (ltb a b) refl
signed_sum true false a b c = unlike_rounded true a b c (ltb a b) refl

module _ (d : ℕ) (positive : 0 < d) where
  ltb_scaled : (a b : ℕ) (t : Bool) → ltb a b ≡ t → ltb (d * a) (d * b) ≡ t
  ltb_scaled a b true h = lt-ltb (d * a) (d * b) (mul-lt-mul_of_pos_left (ltb-true a b h) positive)
  ltb_scaled a b false h = le-ltb (d * a) (d * b) (mul-le-mul_left d (ltb-false a b h))

  round_scaled : (s : Bool) (n : ℕ) → round binary64 s (d * n) d ≡ round binary64 s n 1
  round_scaled s n = round_same binary64 s (d * n) d n 1 positive (lit< tt) (mul-one (d * n) ∙ mul_comm d n)

  pub sum_scaled : (s t : Bool) (a b : ℕ) → sum binary64 s (d * a) t (d * b) d ≡ sum binary64 s a t b 1
  unfolding sum
  sum_scaled s t a b = simp (← mul-add, ← mul-sub, ltb_scaled a b (ltb a b) refl, ltb_scaled b a (ltb b a) refl, round_scaled)
