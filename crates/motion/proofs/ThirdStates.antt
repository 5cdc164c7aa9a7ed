-- The sums of a third-order plan's jerk in the move's direction: the profile's values, and none leaves its range, from any
-- origin within 2^61.
use mathlib.Core.List.{[]}
use mathlib.Core.Path.{◌≡◌, ap, subst, fun_ext}
use Prim.Native.Nat.{ℕ, ◌≤◌, ◌^◌}
use lib.IntN.{ℤ, pos, nat_abs, +ℤ_idr}
use Rattle.planner.specs.Quantities.{along}
use Rattle.planner.specs.Third.{ThirdIntervals}
use Rattle.profile.specs.Profile.{switched_in}
use Rattle.profile.specs.Inner.Repeated.{sums}
use Rattle.profile.specs.Inner.Widths.{product}
use Rattle.profile.proofs.SumSizes as size
use Rattle.motion.specs.Sampling.{Values, third_values_at}
use Rattle.motion.specs.Inner.Steps.{StepFits, sum_from, third_state_from}
use Rattle.motion.specs.Inner.Planned.{ThirdWithinRange, third_widths_of}
use Rattle.motion.specs.Inner.SegmentLists.{third_segments}
use Rattle.motion.proofs.IntegerLaws.{small_fits}
use Rattle.motion.proofs.OrderedLaws.{third_spread, third_jerk, third_jerk_lem}
use Rattle.motion.proofs.DirectedSizes.{along_sums, DirectedOver}
use Rattle.motion.proofs.DirectedSizes as sizes
use Rattle.motion.proofs.TableLaws.{directed_value}

module _ (X : ℤ) (t : ThirdIntervals) (D : ℕ) where
  abbrev pub directed_jerk : ℕ → ℤ
  directed_jerk = directed_value X (third_segments t) D

  sums_are : (n k : ℕ) → sums n directed_jerk k ≡ along X (sums n (switched_in (third_segments t) D) k)
  sums_are n k = along_sums X n (switched_in (third_segments t) D) k

  -- the sums at sample k
  abbrev pub summed_values : ℕ → Values
  summed_values k =
      record {
        snap = pos 0;
        jerk = directed_jerk k;
        acceleration = sums 1 directed_jerk k;
        velocity = sums 2 directed_jerk k;
        position = sums 3 directed_jerk k;
      }

  -- are the values of the profile
  pub third_values : (k : ℕ) → summed_values k ≡ third_values_at X t D k
  unfolding third_values_at sums
  third_values k =
      λ i.
      record { snap = pos 0; jerk = directed_jerk k; acceleration = sums_are 1 k i; velocity = sums_are 2 k i; position = sums_are 3 k i }

  directed_jerk_lem : directed_jerk ≡ (λ k. along X (third_jerk t D k))
  directed_jerk_lem = fun_ext (λ k. ap (λ (f : ℕ → ℤ). along X (f k)) (third_jerk_lem t D))

  module _ (h : ThirdWithinRange t D) where
    pub over : DirectedOver X t.b [] t.c t.e D directed_jerk
    over = record { one = h.ordered.one_b; spread = third_spread h.ordered; is = directed_jerk_lem }

    pub third_step_fits :
        (origin : ℤ) → nat_abs origin ≤ 2 ^ 61 → (k : ℕ) → k ≤ 2 ^ 60 → StepFits (third_state_from origin directed_jerk k) (pos 0)
    unfolding product sum_from
    third_step_fits origin near k l =
        let speed = sizes.reach_speed over h.reach in
        sizes.sums_fit over h.reach origin near k l (pos 0)
        (rw (+ℤ_idr (directed_jerk k))
        (small_fits _ (sizes.jerk_below over (2 ^ 60) speed k)))

    pub third_distance_below : (k : ℕ) → nat_abs (third_values_at X t D k).position ≤ 2 ^ 60
    unfolding product sums
    third_distance_below k =
        subst (λ (v : Values). nat_abs v.position ≤ 2 ^ 60) (third_values k) (sizes.position_below over h.reach k)

    pub jerk_small : D ≤ 2 ^ 60
    unfolding product
    jerk_small =
        size.inner_most t.b D h.ordered.one_b (2 ^ 60) D (third_widths_of t) [] (third_spread h.ordered) h.reach
        (size.one_step t.b D h.ordered.one_b)
