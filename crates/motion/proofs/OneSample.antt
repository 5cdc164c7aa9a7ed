-- One sample of a plan in either order: the sums that its state has, the levels and the values that they give, and what the start adds.
use mathlib.Core.List.{[], ◌∷◌}
use mathlib.Core.Path.{◌≡◌, refl, ap, ap₂, subst, ◌∙◌}
use Prim.Native.Nat.{ℕ, ◌≤◌, ◌^◌}
use native.Mathlib.Omega.{arith}
use mir.Syntax.{w64}
use mir.Val.{SFits}
use mir.Facts.{to_z-of_z}
use lib.IntN.{ℤ, neg_ℤ, nat_abs, ◌+ℤ◌}
use Rattle.planner.specs.Outcome.{most_counts, intervals_in}
use Rattle.planner.specs.Third.{third_intervals_in}
use Rattle.planner.specs.declared.Plan.{Plan}
use Rattle.planner.specs.declared.ThirdPlan.{ThirdPlan}
use Rattle.profile.specs.Inner.Widths.{product, switched_by}
use Rattle.motion.specs.Inner.ClosedForm.{products_over}
use Rattle.motion.specs.Inner.Planned.{PlanInRange, samples_in, widths_of, fourth_values_in}
use Rattle.motion.specs.Inner.Planned.{ThirdPlanInRange, third_samples_in, third_widths_of, third_values_in}
use Rattle.motion.specs.Inner.Steps.{state_at, Sums, sums_at}
use Rattle.motion.specs.Inner.SwitchedLevels.{AreLevels}
use Rattle.motion.specs.Sampling.{Values, third_values_at, units_of, position_from}
use Rattle.motion.specs.declared.state.State.{State}
use Rattle.motion.specs.declared.switched.Levels.{Levels}
use Rattle.motion.specs.declared.closed_form.Products.{Products}
use Rattle.motion.proofs.IntegerLaws.{small_fits}
use Rattle.motion.proofs.StartLaws.{units_fit, position_fits}
use Rattle.motion.proofs.StateLaws.{directed, state_is, snap_small}
use Rattle.motion.proofs.ThirdStates.{directed_jerk, third_values, jerk_small}
use Rattle.motion.proofs.DirectedValue.{signed_levels, level_size, directed_snap_lem, directed_jerk_lem}
use Rattle.motion.proofs.OrderedLaws.{spread, third_spread}
use Rattle.motion.proofs.ClosedStates.{Sampled, read, Scales, three_sums_scale, fourth_sum_scales}

-- The level with + of a direction.
module _ {X : ℤ} {D : ℕ} {levels : Levels} (small : D ≤ 2 ^ 60) (are : AreLevels X D levels) where
  pub positive_size : nat_abs levels.positive ≡ D
  positive_size = level_size are refl

  positive_fits : SFits w64 levels.positive
  positive_fits = small_fits levels.positive (rw positive_size small)

-- The values of a plan at a sample: the snap by the levels of its direction, and each sum by the product found for it.
module _ {X : ℤ} (x : Plan) {k : ℕ} {levels : Levels} (h : PlanInRange x) (l : k ≤ samples_in x) (are : AreLevels X x.snap levels) where
  pub plan_snap :
      switched_by x.a (widths_of (intervals_in x)) levels.positive levels.negative k ≡ (fourth_values_in X x k).snap
  plan_snap = ap (λ (f : ℕ → ℤ). f k) (directed_snap_lem h.ordered are)

  abbrev snap_by : ℕ → ℤ
  snap_by = switched_by x.a (widths_of (intervals_in x)) levels.positive (neg_ℤ levels.positive)

  sums_directed : state_at snap_by k ≡ directed X (intervals_in x) x.snap k
  sums_directed =
      ap (λ (f : ℕ → ℤ). state_at f k) (directed_snap_lem h.ordered (signed_levels are refl)) ∙ state_is X (intervals_in x) x.snap k

  module _ {found : Products} (is : found ≡ products_over (x.e ∷ x.c ∷ x.b ∷ x.a ∷ []) k) where
    sampled : Sampled x.a (widths_of (intervals_in x)) levels.positive k
    unfolding product
    sampled =
        let small = snap_small X (intervals_in x) x.snap h in
        record {
          one = h.ordered.one_a;
          spread = spread h.ordered;
          reach = rw (positive_size small are) h.reach;
          room = omega arith;
          sample = omega (arith, l, h.samples);
          level_fits = positive_fits small are;
        }

    pub plan_scales :
        let v = fourth_values_in X x k in
        Scales levels.positive found.first 1 v.jerk × Scales levels.positive found.second 2 v.acceleration
        × Scales levels.positive found.third 6 v.velocity × Scales levels.positive found.fourth 24 v.position
    plan_scales =
        let three = three_sums_scale sampled is (omega arith) in (
          subst (λ (s : State). Scales levels.positive found.first 1 s.jerk) sums_directed three.0,
          subst (λ (s : State). Scales levels.positive found.second 2 s.acceleration) sums_directed three.1,
          subst (λ (s : State). Scales levels.positive found.third 6 s.velocity) sums_directed three.2,
          subst (λ (s : State). Scales levels.positive found.fourth 24 s.position) sums_directed (fourth_sum_scales sampled is (omega arith)),
        )

-- The same of a third-order plan, by the jerk.
module _
    {X : ℤ} (x : ThirdPlan) {k : ℕ} {levels : Levels} (h : ThirdPlanInRange x) (l : k ≤ third_samples_in x) (are : AreLevels X x.jerk levels)
  where
    pub third_plan_jerk :
        switched_by x.b (third_widths_of (third_intervals_in x)) levels.positive levels.negative k ≡ (third_values_in X x k).jerk
    unfolding third_values_at
    third_plan_jerk = ap (λ (f : ℕ → ℤ). f k) (directed_jerk_lem h.ordered are)

    abbrev jerk_by : ℕ → ℤ
    jerk_by = switched_by x.b (third_widths_of (third_intervals_in x)) levels.positive (neg_ℤ levels.positive)

    third_sums_directed :
        sums_at jerk_by k ≡ sums_at (directed_jerk X (third_intervals_in x) x.jerk) k
    third_sums_directed = ap (λ (f : ℕ → ℤ). sums_at f k) (directed_jerk_lem h.ordered (signed_levels are refl))

    module _ {found : Products} (is : found ≡ products_over (x.e ∷ x.c ∷ x.b ∷ []) k) where
      third_sampled : Sampled x.b (third_widths_of (third_intervals_in x)) levels.positive k
      unfolding product
      third_sampled =
          let small = jerk_small X (third_intervals_in x) x.jerk h in
          record {
            one = h.ordered.one_b;
            spread = third_spread h.ordered;
            reach = rw (positive_size small are) h.reach;
            room = omega arith;
            sample = omega (arith, l, h.samples);
            level_fits = positive_fits small are;
          }

      pub third_plan_scales :
          let v = third_values_in X x k in
          Scales levels.positive found.first 1 v.acceleration × Scales levels.positive found.second 2 v.velocity
          × Scales levels.positive found.third 6 v.position
      third_plan_scales =
          let three = three_sums_scale third_sampled is (omega arith) in
          let values = third_values X (third_intervals_in x) x.jerk k in (
            subst (λ (v : Values). Scales levels.positive found.first 1 v.acceleration) values
                (subst (λ (s : Sums). Scales levels.positive found.first 1 s.acceleration) third_sums_directed three.0),
            subst (λ (v : Values). Scales levels.positive found.second 2 v.velocity) values
                (subst (λ (s : Sums). Scales levels.positive found.second 2 s.velocity) third_sums_directed three.1),
            subst (λ (v : Values). Scales levels.positive found.third 6 v.position) values
                (subst (λ (s : Sums). Scales levels.positive found.third 6 s.position) third_sums_directed three.2),
          )

-- The position at the distance x from a start, with u for G times the start, as they are passed on.
module _ (start x : ℤ) where
  abbrev SampleAsks : Type 0
  SampleAsks = record { start_bound : nat_abs start ≤ most_counts; position_bound : nat_abs x ≤ 2 ^ 60 }

  module _ (h : SampleAsks) {u : ℤ} (is : u ≡ units_of (read start)) where
    start_is : read start ≡ start
    start_is = to_z-of_z (small_fits start (omega (arith, h.start_bound)))

    distance_is : read x ≡ x
    distance_is = to_z-of_z (small_fits x h.position_bound)

    units_are : u ≡ units_of start
    units_are = is ∙ ap units_of start_is

    gained : read u +ℤ read x ≡ position_from start x
    gained = ap₂ ◌+ℤ◌ (rw units_are (to_z-of_z (units_fit start h.start_bound))) distance_is

    pub gained_fits : SFits w64 (read u +ℤ read x)
    gained_fits = rw gained (position_fits start h.start_bound x h.position_bound)

    pub gained_position : read (read u +ℤ read x) ≡ position_from start x
    gained_position = to_z-of_z gained_fits ∙ gained
