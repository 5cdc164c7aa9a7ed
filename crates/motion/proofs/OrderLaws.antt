-- The rows of a plan in either order: no sum leaves its range, and a table of positions is the rule's.
use mathlib.Core.List.{List, [], ◌∷◌}
use mathlib.Core.Path.{◌≡◌, refl, sym, ap, ◌∙◌}
use Prim.Native.Nat.{ℕ, suc, ◌+◌, ◌≤◌, ◌^◌}
use native.Mathlib.Numerals.{add-one}
use native.Mathlib.Omega.{arith}
use lib.IntN.{ℤ, nat_abs, ◌+ℤ◌}
use Rattle.planner.specs.Quantities.{along}
use Rattle.planner.specs.Intervals.{N}
use Rattle.std.specs.Prelude.{Result, Ok, Err}
use Rattle.planner.specs.Outcome.{most_counts, distance_of, plan_of, intervals_of, intervals_in, Plans}
use Rattle.planner.specs.Third.{N₃, third_plan_of, third_intervals_of, third_intervals_in, PlansThird}
use Rattle.planner.specs.declared.Move.{Move}
use Rattle.planner.specs.declared.Plan.{Plan}
use Rattle.planner.specs.declared.ThirdPlan.{ThirdPlan}
use Rattle.planner.proofs.IntegerSizes.{size_sum}
use Rattle.planner.proofs.PlannedFacts.{planned_facts}
use Rattle.planner.proofs.ThirdTheorems.{third_facts}
use Rattle.profile.specs.Profile.{none, segment, Segment, sum, switched_in}
use Rattle.profile.specs.Profile as profile
use Rattle.profile.specs.Inner.Repeated.{sums}
use Rattle.profile.specs.Inner.Widths.{product, span}
use Rattle.profile.proofs.Lookup.{value_rested}
use Rattle.motion.specs.Sampling.{Values, values_at, third_values_at, units_of, fourth_order, third_order}
use Rattle.motion.specs.declared.state.State.{State}
use Rattle.motion.specs.Inner.Steps.{rest_at, sum_from, state_from, Sums, sums_in, sums_from}
use Rattle.motion.specs.Inner.Planned.{PlanInRange, ThirdPlanInRange, directed_snap, positions_from, samples_in, fourth_values_in, third_samples_in, third_values_in}
use Rattle.motion.specs.Inner.SegmentLists.{with_trailing, fourth_segments, third_segments}
use Rattle.motion.specs.Inner.Stretches.{Follows}
use Rattle.motion.specs.Inner.Orders.{PairFits, fourth_step, FourthFits, third_step, ThirdFits, fourth_stretches, third_stretches, RunsAlong, Rests, AsRuled}
use Rattle.motion.proofs.IntegerLaws.{wide_sum_fits}
use Rattle.motion.proofs.StartLaws.{units_size}
use Rattle.motion.proofs.OrderedLaws.{spread, third_spread}
use Rattle.motion.proofs.StepLaws.{next, third_next}
use Rattle.motion.proofs.OriginLaws.{from_origin}
use Rattle.motion.proofs.StateLaws as fourth
use Rattle.motion.proofs.StateLaws.{state_is, step_fits}
use Rattle.motion.proofs.ThirdStates as third
use Rattle.motion.proofs.ThirdStates.{directed_jerk, third_values, third_step_fits}
use Rattle.motion.proofs.DirectedSizes.{position_below}
use Rattle.motion.proofs.ReferenceLaws.{held_all}
use Rattle.motion.proofs.KeptRules as kept
use Rattle.motion.proofs.EntryLaws.{fourth_planned, plan_refused, third_planned, third_plan_refused}
use Rattle.motion.proofs.StretchLaws.{follows}

-- the pair of two positions in a row
pair_fits :
    (origin : ℤ) (f : ℕ → ℤ) → nat_abs origin ≤ 2 ^ 60 → ((k : ℕ) → nat_abs (sum f k) ≤ 2 ^ 60)
    → (k : ℕ) → PairFits (sum_from origin f k) (f k)
unfolding sum_from
pair_fits origin f near below k = wide_sum_fits (sum_from origin f (suc k)) (sum_from origin f k) (size (suc k)) (size k)
  where
    size : (k : ℕ) → nat_abs (sum_from origin f k) ≤ 2 ^ 61
    size k = rw (from_origin origin f k) (omega (arith, size_sum origin (sum f k), near, below k))

module _ (X : ℤ) (xs : List Segment) (D trailing : ℕ) where
  -- with a last segment without a value
  rested : (f : ℕ → ℤ) → ((k : ℕ) → f k ≡ along X (switched_in xs D k)) → (k : ℕ) → f (0 + k) ≡ along X (switched_in (with_trailing xs trailing) D k)
  rested f is k =
      let here : 0 + k ≡ k = omega arith in
      ap f here ∙ is k ∙ ap (along X) (sym (value_rested xs trailing D k))

module _ (m : Move) (x : Plan) where
  abbrev snap : ℕ → ℤ
  snap = directed_snap m.displacement (intervals_in x) x.snap

  abbrev fourth_at : ℕ → State
  fourth_at = state_from (units_of m.start) snap

  fourth_next : (k : ℕ) → fourth_step (snap k) (fourth_at k) ≡ fourth_at (suc k)
  fourth_next k = next (units_of m.start) snap k ∙ ap fourth_at (add-one k)

  pub fourth_follows : (trailing : ℕ) → Follows (fourth_stretches trailing m x) snap 0
  unfolding values_at profile.snap
  fourth_follows trailing =
      follows m.displacement x.snap (with_trailing (fourth_segments (intervals_in x)) trailing) snap 0
      (rested m.displacement (fourth_segments (intervals_in x)) x.snap trailing snap (λ k. refl))

  module _ (h : PlanInRange x) where
    pub fourth_along :
        nat_abs m.start ≤ most_counts →
        RunsAlong (λ (s : State). s.position) FourthFits fourth_step snap (rest_at (units_of m.start)) (N (intervals_in x) + 2)
        (positions_from m.start (values_at m.displacement (intervals_in x) x.snap))
    unfolding product sum sums sum_from
    fourth_along start =
        let near = units_size m.start start in
        record {
          at = fourth_at;
          first = refl;
          next = fourth_next;
          fits = λ k l. (
            step_fits m.displacement (intervals_in x) x.snap h (units_of m.start) (omega (arith, near)) k (omega (arith, l, h.samples)),
            pair_fits (units_of m.start) (sums 3 snap) near (position_below (fourth.over m.displacement (intervals_in x) x.snap h) h.reach) k,
          );
          rows_are = λ k.
              from_origin (units_of m.start) (sums 3 snap) k
              ∙ ap (λ (y : ℤ). units_of m.start +ℤ y) (ap (λ (s : State). s.position) (state_is m.displacement (intervals_in x) x.snap k));
        }

    pub fourth_rests : Rests (N (intervals_in x)) (values_at m.displacement (intervals_in x) x.snap)
    unfolding sum sums span
    fourth_rests =
        record {
          begins = sym (ap (λ (s : State). s.position) (state_is m.displacement (intervals_in x) x.snap 0));
          holds = λ k.
              ap (λ (f : ℕ → ℤ). f k)
              (held_all x.a (x.b ∷ []) x.c x.e x.snap (spread h.ordered) (kept.fourth_follows m.displacement (intervals_in x) x.snap));
        }

-- what the planner promises is what the order's rule says
pub fourth_ruled : {m : Move} {r : Result Plan ℕ} → Plans m r → AsRuled (fourth_order m) samples_in (λ x. fourth_values_in m.displacement x) r
fourth_ruled {m = m} {r = Err n} p = record { plan = plan_of (distance_of m) (intervals_of m); is = plan_refused p refl }
fourth_ruled {r = Ok x} p = fourth_planned (planned_facts p)

module _ (m : Move) (x : ThirdPlan) where
  abbrev jerk : ℕ → ℤ
  jerk = directed_jerk m.displacement (third_intervals_in x) x.jerk

  abbrev third_at : ℕ → Sums
  third_at = sums_from (units_of m.start) jerk

  third_next_lem : (k : ℕ) → third_step (jerk k) (third_at k) ≡ third_at (suc k)
  third_next_lem k = third_next (units_of m.start) jerk k ∙ ap third_at (add-one k)

  pub third_follows : (trailing : ℕ) → Follows (third_stretches trailing m x) jerk 0
  third_follows trailing =
      follows m.displacement x.jerk (with_trailing (third_segments (third_intervals_in x)) trailing) jerk 0
      (rested m.displacement (third_segments (third_intervals_in x)) x.jerk trailing jerk (λ k. refl))

  module _ (h : ThirdPlanInRange x) where
    pub third_along :
        nat_abs m.start ≤ most_counts →
        RunsAlong (λ (s : Sums). s.position) ThirdFits third_step jerk (sums_in (rest_at (units_of m.start))) (N₃ (third_intervals_in x) + 2)
        (positions_from m.start (third_values_at m.displacement (third_intervals_in x) x.jerk))
    unfolding product sum sums sum_from
    third_along start =
        let near = units_size m.start start in
        record {
          at = third_at;
          first = refl;
          next = third_next_lem;
          fits = λ k l. (
            third_step_fits m.displacement (third_intervals_in x) x.jerk h (units_of m.start) (omega (arith, near)) k (omega (arith, l, h.samples)),
            pair_fits (units_of m.start) (sums 2 jerk) near (position_below (third.over m.displacement (third_intervals_in x) x.jerk h) h.reach) k,
          );
          rows_are = λ k.
              from_origin (units_of m.start) (sums 2 jerk) k
              ∙ ap (λ (y : ℤ). units_of m.start +ℤ y) (ap (λ (v : Values). v.position) (third_values m.displacement (third_intervals_in x) x.jerk k));
        }

    pub third_rests : Rests (N₃ (third_intervals_in x)) (third_values_at m.displacement (third_intervals_in x) x.jerk)
    unfolding sum sums span
    third_rests =
        record {
          begins = sym (ap (λ (v : Values). v.position) (third_values m.displacement (third_intervals_in x) x.jerk 0));
          holds = λ k.
              ap (λ (f : ℕ → ℤ). f k)
              (held_all x.b [] x.c x.e x.jerk (third_spread h.ordered) (kept.third_follows m.displacement (third_intervals_in x) x.jerk));
        }

pub third_ruled :
    {m : Move} {r : Result ThirdPlan ℕ} → PlansThird m r → AsRuled (third_order m) third_samples_in (λ x. third_values_in m.displacement x) r
third_ruled {m = m} {r = Err n} p = record { plan = third_plan_of (distance_of m) (third_intervals_of m); is = third_plan_refused p refl }
third_ruled {r = Ok x} p = third_planned (third_facts p)
