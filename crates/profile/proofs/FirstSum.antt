-- The first sum of the switched value is D times the difference of the ramp of a samples, delayed by all widths.
use mathlib.Core.Path.{◌≡◌, refl, ap, ◌∙◌}
use mathlib.Core.Bool.{Bool, true, false, cond}
use mathlib.Core.List.{List, [], ◌∷◌}
use Prim.Native.Nat.{ℕ, zero, suc, ◌-◌, min}
use native.Mathlib.Nat.{le_trans}
use native.Mathlib.Omega.{arith}
use lib.Dec.{ltb}
use lib.IntN.{ℤ, pos, neg_ℤ, ◌+ℤ◌}
use borrow.Author.Tests.{ltb-true, ltb-false}
use Rattle.profile.specs.Profile.{level, positive, segment, switched_in, sum}
use Rattle.profile.specs.Inner.Widths.{Spread, switched, ramp}
use Rattle.profile.proofs.Differences.{Difference, none_is, one_is, plus, negated, same}
use Rattle.profile.proofs.SumLaws.{sum_of_equal, sum_negated, sum_joined}
use Rattle.profile.proofs.SwitchedLaws.{value_rests, value_switched}
use Rattle.profile.proofs.Delays.{delays}

-- x is D times the difference of the inner ramp delayed by the outer widths
abbrev pub DelayedRamp : (D a : ℕ) (outer inner : List ℕ) (x : ℕ → ℤ) → Type 0
DelayedRamp D a outer inner x =
    (k : ℕ) → Difference D (x k) (delays outer (ramp a inner) (λ _. 0) k) (delays outer (λ _. 0) (ramp a inner) k)

module _ (a D : ℕ) where
  -- one more of the first a samples, or none
  sample_is : (k : ℕ) (t : Bool) → ltb k a ≡ t → Difference D (cond t (pos D) (pos 0)) (min (suc k) a) (min k a)
  sample_is k true e = same one_is (omega (arith, ltb-true k a e))
  sample_is k false e = same none_is (omega (arith, ltb-false k a e))

  first_samples : (k : ℕ) → Difference D (sum (switched_in (segment a positive ∷ []) D) k) (min k a) 0
  unfolding sum switched_in level
  first_samples zero = same none_is (omega arith)
  first_samples (suc k) = same (plus (first_samples k) (sample_is k (ltb k a) refl)) (omega arith)

  pub first_sum : (ws : List ℕ) → Spread a ws → DelayedRamp D a ws [] (sum (switched_in (switched a ws) D))
  unfolding delays switched ramp Spread
  first_sum [] s k = first_samples k
  first_sum (w ∷ ws) s k =
      rw parts (plus (first_sum ws s.1 k) (negated (first_sum ws s.1 (k - w))))
    where
      inner : ℕ → ℤ
      inner = switched_in (switched a ws) D

      parts : sum (switched_in (switched a (w ∷ ws)) D) k ≡ sum inner k +ℤ neg_ℤ (sum inner (k - w))
      parts =
          sum_of_equal (switched_in (switched a (w ∷ ws)) D) (λ (i : ℕ). cond (ltb i w) (inner i) (neg_ℤ (inner (i - w))))
          (value_switched a w ws s D) k
          ∙ sum_joined inner (λ (i : ℕ). neg_ℤ (inner i)) w (λ i h. value_rests a ws s.1 D i (le_trans s.0 h)) k
          ∙ ap (λ (x : ℤ). sum inner k +ℤ x) (sum_negated inner (k - w))
