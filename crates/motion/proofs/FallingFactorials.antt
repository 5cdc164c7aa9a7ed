-- The falling factorials of a sample number as signed numbers, their differences over widths, and that none leaves its range.
use mathlib.Core.List.{List, [], ◌∷◌}
use mathlib.Core.Path.{◌≡◌, refl, ap, ◌∙◌}
use Prim.Native.Nat.{ℕ, zero, suc, ◌+◌, ◌-◌, ◌^◌, ◌≤◌}
use native.Mathlib.Nat.{le_trans, mul-le-mul, pow-suc, pow-zero, pow-le-pow_right}
use native.Mathlib.Omega.{arith}
use native.Mathlib.Decide.{dec_le}
use mir.Syntax.{w64}
use mir.Val.{to_z, of_z, SFits}
use mir.ValLaws.{to_z_pos}
use mir.Facts.{to_z-of_z}
use lib.IntN.{ℤ, pos, neg_ℤ, nat_abs, ◌-ℤ◌, ◌*ℤ◌, zero-*ℤ}
use Rattle.planner.specs.Outcome.{most_samples}
use Rattle.planner.proofs.Sign.{size_negated}
use Rattle.profile.specs.Inner.ClosedForm.{falling, differences}
use Rattle.profile.proofs.Binomials.{falling_none}
use Rattle.motion.specs.declared.closed_form.Products.{Products}
use Rattle.motion.specs.Inner.ClosedForm.{products_over, difference_of, DifferenceFits}
use Rattle.planner.proofs.IntegerSizes.{size_sum}
use Rattle.motion.proofs.IntegerLaws.{small_fits, differences_fit, difference}

-- no product of at bound four factors is above 2^48
falling_bound : (n k : ℕ) → k ≤ most_samples → falling n k ≤ most_samples ^ n
unfolding falling
falling_bound zero k h = omega (arith, pow-zero most_samples)
falling_bound (suc n) k h = let less : k - n ≤ most_samples = omega arith in rw pow-suc (mul-le-mul (falling_bound n k h) less)

falling_small : (n k : ℕ) → n ≤ 4 → k ≤ most_samples → falling n k ≤ 2 ^ 48
falling_small n k l h = let one : 1 ≤ most_samples = omega arith in le_trans (falling_bound n k h) (pow-le-pow_right one l)

-- one factor more; where it is negative, an earlier one is 0
factor : (n k : ℕ) → Dec (n ≤ k) → pos (falling n k) *ℤ (pos k -ℤ pos n) ≡ pos (falling (suc n) k)
unfolding falling
factor n k (yes h) = ap (λ x. pos (falling n k) *ℤ x) (difference k n h)
factor n k (no h) =
    let none = falling_none n k (omega arith) in
    ap (λ (m : ℕ). pos m *ℤ (pos k -ℤ pos n)) none ∙ zero-*ℤ (pos k -ℤ pos n) ∙ ap pos (omega (arith, falling_none (suc n) k (omega arith)))

-- a sample number, and its products as the machine reads them back
module _ (k : ℕ) (h : k ≤ most_samples) where
  pub sample_read : to_z w64 k ≡ pos k
  sample_read = to_z_pos w64 k (omega arith)

  pub factor_fits : (n : ℕ) → n ≤ 4 → SFits w64 (to_z w64 k -ℤ pos n)
  factor_fits n l = rw sample_read (differences_fit (pos k) (pos n) (omega arith) (omega arith)).0

  module _ (n : ℕ) (l : n ≤ 4) (x : ℤ) (is : x ≡ pos (falling n k)) where
    pub product_fits : SFits w64 x
    product_fits = rw is (small_fits (pos (falling n k)) (omega (arith, falling_small n k l h)))

    pub product_read : to_z w64 (of_z w64 x) ≡ pos (falling n k)
    product_read = to_z-of_z product_fits ∙ is

    pub next_product : x *ℤ to_z w64 (of_z w64 (to_z w64 k -ℤ pos n)) ≡ pos (falling (suc n) k)
    next_product = rw (to_z-of_z (factor_fits n l), sample_read, is) (factor n k (dec_le n k))

-- each width doubles the bound on the size
abbrev pub bound : List ℕ → ℕ
bound [] = 2 ^ 48
bound (w ∷ ws) = bound ws + bound ws

pub differences_bound : (ws : List ℕ) (n : ℕ) → n ≤ 4 → (k : ℕ) → k ≤ most_samples → nat_abs (differences ws (falling n) k) ≤ bound ws
unfolding differences
differences_bound [] n l k h = falling_small n k l h
differences_bound (w ∷ ws) n l k h =
    let late = differences ws (falling n) (k - w) in
    omega (
      arith,
      size_sum (differences ws (falling n) k) (neg_ℤ late),
      size_negated late,
      differences_bound ws n l k h,
      differences_bound ws n l (k - w) (omega arith),
    )

-- the same differences at two samples, whichever is taken from the other
module _ (ws : List ℕ) (room : bound ws ≤ 2 ^ 60) (k l : ℕ) (h : k ≤ most_samples) (g : l ≤ most_samples) where
  both_fit :
      (n : ℕ)
      → n ≤ 4
      → SFits w64 (differences ws (falling n) k -ℤ differences ws (falling n) l)
      × SFits w64 (differences ws (falling n) l -ℤ differences ws (falling n) k)
  both_fit n b =
      differences_fit (differences ws (falling n) k) (differences ws (falling n) l) (le_trans (differences_bound ws n b k h) room)
      (le_trans (differences_bound ws n b l g) room)

  products_fit :
      DifferenceFits (products_over ws k) (products_over ws l) × DifferenceFits (products_over ws l) (products_over ws k)
  products_fit =
      let first = both_fit 1 (omega arith) in
      let second = both_fit 2 (omega arith) in
      let third = both_fit 3 (omega arith) in
      let fourth = both_fit 4 (omega arith) in (
        record { first = first.0; second = second.0; third = third.0; fourth = fourth.0 },
        record { first = first.1; second = second.1; third = third.1; fourth = fourth.1 },
      )

-- x and y are the same differences, at samples k and l
pub record Copies (ws : List ℕ) (k l : ℕ) (x y : Products) : Type 0 where
  pub now : x ≡ products_over ws k
  pub late : y ≡ products_over ws l

-- the differences themselves
pub copies_at : (ws : List ℕ) (k l : ℕ) → Copies ws k l (products_over ws k) (products_over ws l)
copies_at ws k l = record { now = refl; late = refl }

module _ {ws : List ℕ} {k l : ℕ} {x y : Products} (both : Copies ws k l x y) where
  pub difference_fits : bound ws ≤ 2 ^ 60 → k ≤ most_samples → l ≤ most_samples → DifferenceFits x y × DifferenceFits y x
  difference_fits room h g = rw (both.now, both.late) (products_fit ws room k l h g)

  -- one width more, where l is w samples late
  pub one_width_more : (w : ℕ) → l ≡ k - w → difference_of x y ≡ products_over (w ∷ ws) k
  unfolding differences
  one_width_more w late = rw (both.now, both.late, late)
