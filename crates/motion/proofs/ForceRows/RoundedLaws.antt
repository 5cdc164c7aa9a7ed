-- A cast, and the sum, product and quotient of floats that are fractions, are the exact result rounded once.
use mathlib.Core.Bool.{Bool, true, false}
use mathlib.Core.Path.{◌≡◌, refl, sym, ap, ap₂, subst₂, ◌∙◌}
use Prim.Native.Nat.{ℕ, suc, ◌*◌, ◌<◌}
use native.Mathlib.Nat.{mul-one, mul_comm, mul_assoc, mul_left_comm, mul-mul-mul_comm, mul-pos}
use native.Mathlib.Omega.{arith}
use borrow.Author.Tests.{ne_eqb}
use lib.Dec.{lit<}
use lib.IntN.{ℤ, pos, negsuc, nat_abs, ◌+ℤ◌, ◌*ℤ◌}
use lib.Ieee.{Float, nan, inf, fin, binary64, unlike, up, down, round, sum, add, mul, div, of_int}
use lib.Ieee.Fits.{up_pos, down_pos}
use lib.Ieee.Scale.{round_same}
use lib.Ieee.Positive.{first_pos}
use Rattle.planner.specs.Quantities.{signed}
use Rattle.motion.specs.ForceRows.Claims.{IsFraction, IsWhole, IsHalf, IsRounded}
use Rattle.motion.proofs.ForceRows.SignedLaws.{size_signed, signed_product, quotient_sign}
use Rattle.motion.proofs.ForceRows.SignedSums.{signed_sum, sum_scaled}

pub cast_rounded : (z : ℤ) → IsRounded (of_int binary64 z) z 1
unfolding of_int signed
cast_rounded (pos n) = record { negative = false; size = n; whole_is = refl; rounded = refl }
cast_rounded (negsuc n) = record { negative = true; size = suc n; whole_is = refl; rounded = refl }

-- two finite floats
over : (m a e d : ℕ) → m * 1 ≡ a * e → m * d ≡ e * d * a
over m a e d v = ap (λ (n : ℕ). n * d) (sym (mul-one m) ∙ v) ∙ simp (mul_assoc, mul_comm, mul_left_comm)

crossed : (m n a b e d : ℕ) → m * 2 ≡ a * e → n * 1 ≡ b * d → m * d * (2 * b) ≡ a * (n * e)
crossed m n a b e d v w =
    mul-mul-mul_comm m d 2 b ∙ ap₂ ◌*◌ v (mul_comm d b ∙ sym w) ∙ simp (mul-one, mul_assoc, mul_comm, mul_left_comm)

module _ (s t : Bool) (m n : ℕ) (e d : ℤ) where
  pub opened_sum : add binary64 (fin s m e) (fin t n d) ≡ sum binary64 s (m * up e * down d) t (n * up d * down e) (down e * down d)
  unfolding add
  opened_sum = refl

  pub opened_product : mul binary64 (fin s m e) (fin t n d) ≡ round binary64 (unlike s t) (m * up e * (n * up d)) (down e * down d)
  unfolding mul
  opened_product = refl

  pub opened_quotient : 0 < n → div binary64 (fin s m e) (fin t n d) ≡ round binary64 (unlike s t) (m * up e * down d) (n * up d * down e)
  unfolding div
  opened_quotient h = rw (ne_eqb n 0 (omega arith))

  module _ (a b : ℕ) where
    finite_sum :
        m * up e * 1 ≡ a * down e
        → n * up d * 1 ≡ b * down d
        → IsRounded (add binary64 (fin s m e) (fin t n d)) (signed s a +ℤ signed t b) 1
    finite_sum v w =
        rw (opened_sum, over (m * up e) a (down e) (down d) v, over (n * up d) b (down d) (down e) w, mul_comm (down d) (down e))
        (rw (sum_scaled (down e * down d) (mul-pos (down_pos e) (down_pos d)) s t a b) (signed_sum s t a b 1))

    finite_product :
        {p q : ℕ}
        → 0 < p
        → 0 < q
        → m * up e * p ≡ a * down e
        → n * up d * q ≡ b * down d
        → IsRounded (mul binary64 (fin s m e) (fin t n d)) (signed s a *ℤ signed t b) (p * q)
    finite_product {p} {q} P Q v w =
        let same = mul-mul-mul_comm (m * up e) (n * up d) p q ∙ ap₂ ◌*◌ v w ∙ mul-mul-mul_comm a (down e) b (down d) in
        record {
          negative = unlike s t;
          size = a * b;
          whole_is = signed_product s t a b;
          rounded = opened_product ∙ round_same binary64 (unlike s t) _ _ _ _ (mul-pos (down_pos e) (down_pos d)) (mul-pos P Q) same;
        }

    finite_quotient :
        {c : ℕ}
        → 0 < c
        → m * up e * 2 ≡ a * down e
        → n * up d * 1 ≡ b * down d
        → signed t b ≡ pos c
        → IsRounded (div binary64 (fin s m e) (fin t n d)) (signed s a) (2 * c)
    finite_quotient {c} positive v w h =
        let size : c ≡ b = sym (ap nat_abs h) ∙ size_signed t b in
        let N : 0 < n = first_pos n (up d) (first_pos (n * up d) 1 (rw (w, ← size) (mul-pos positive (down_pos d)))) in
        let same = rw (← size) at (crossed (m * up e) (n * up d) a b (down e) (down d) v w) in
        let D = mul-pos (mul-pos N (up_pos d)) (down_pos e) in
        record {
          negative = s;
          size = a;
          whole_is = refl;
          rounded =
              opened_quotient N
              ∙ rw (quotient_sign s t b c positive h) (round_same binary64 s _ _ _ _ D (mul-pos (lit< tt) positive) same);
        }

-- any two floats that are fractions: they are finite
pub by_form :
    {n : ℕ} (P : Float → ℤ → Type 0)
    → ((s : Bool) (m : ℕ) (e : ℤ) (a : ℕ) → m * up e * n ≡ a * down e → P (fin s m e) (signed s a))
    → {x : Float} {z : ℤ} → IsFraction x z n → P x z
by_form P f {x = nan} h = absurd h.value
by_form P f {x = inf s} h = absurd h.value
by_form P f {x = fin s m e} h =
    subst₂ (λ t z. P (fin t m e) z) (sym h.value.0) (sym h.whole_is) (f h.negative m e h.size h.value.1)

by_forms :
    {p q : ℕ} (P : Float → ℤ → Float → ℤ → Type 0)
    → ((s t : Bool) (m n : ℕ) (e d : ℤ) (a b : ℕ)
    → m * up e * p ≡ a * down e
    → n * up d * q ≡ b * down d
    → P (fin s m e) (signed s a) (fin t n d) (signed t b))
    → {x y : Float} {z w : ℤ} → IsFraction x z p → IsFraction y w q → P x z y w
by_forms P f {y} {w} h k =
    by_form (λ x z. P x z y w) (λ s m e a v. by_form (P (fin s m e) (signed s a)) (λ t n d b. f s t m n e d a b v) k) h

pub sum_rounded : {x y : Float} {z w : ℤ} → IsWhole x z → IsWhole y w → IsRounded (add binary64 x y) (z +ℤ w) 1
sum_rounded = by_forms (λ x z y w. IsRounded (add binary64 x y) (z +ℤ w) 1) finite_sum

pub product_rounded :
    {x y : Float} {z w : ℤ} {p q : ℕ} → 0 < p → 0 < q → IsFraction x z p → IsFraction y w q → IsRounded (mul binary64 x y) (z *ℤ w) (p * q)
product_rounded {p} {q} P Q =
    by_forms (λ x z y w. IsRounded (mul binary64 x y) (z *ℤ w) (p * q)) (λ s t m n e d a b. finite_product s t m n e d a b P Q)

pub quotient_rounded : {x y : Float} {z : ℤ} {c : ℕ} → IsHalf x z → IsWhole y (pos c) → 0 < c → IsRounded (div binary64 x y) z (2 * c)
quotient_rounded {c} h k positive =
    by_forms (λ x z y w. w ≡ pos c → IsRounded (div binary64 x y) z (2 * c))
    (λ s t m n e d a b. finite_quotient s t m n e d a b positive) h k refl
