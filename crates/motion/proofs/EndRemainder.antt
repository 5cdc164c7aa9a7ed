-- The remainder at the last sample of what the entries give: of a move, and of every axis of a set.
use mathlib.Core.Bool.{true, false}
use mathlib.Core.Path.{◌≡◌, sym, ap, subst, ◌∙◌}
use mathlib.Core.List.{List}
use Prim.Native.Nat.{ℕ, ◌<◌}
use native.Mathlib.Omega.{arith}
use lib.IntN.{neg_ℤ}
use lib.ListN.{length, take, get_or}
use Rattle.planner.specs.Intervals.{N, D}
use Rattle.planner.specs.Refusals.{Each}
use Rattle.std.specs.Prelude.{Ok}
use Rattle.planner.specs.Outcome.{distance_of, intervals_of, intervals_in}
use Rattle.planner.specs.Third.{third_intervals_in}
use Rattle.planner.specs.Axes.{rest_plan, raised, at_rest, axis_plan, common_samples}
use Rattle.planner.specs.AxesClaims.{axis_at, AcceptedAxis}
use Rattle.planner.specs.declared.Move.{Move}
use Rattle.planner.specs.declared.Plan.{Plan}
use Rattle.planner.proofs.AxisLaws.{by_rest}
use Rattle.planner.proofs.DirectionLaws.{along_zero}
use Rattle.planner.proofs.PlannedFacts.{planned_facts}
use Rattle.planner.proofs.ThirdTheorems.{third_facts}
use Rattle.planner.proofs.CountedLaws.{counted_at, within}
use Rattle.planner.proofs.AxesAnswers.{all_accepted}
use Rattle.planner.proofs.AxesAcceptance.{planned_common}
use Rattle.planner.proofs.RaisedLaws.{raised_axis_lem, raised_axis_samples, resting_plan, moving_plan}
use Rattle.profile.specs.Inner.Widths.{span}
use Rattle.motion.specs.Sampling.{Values, Motion, Samples}
use Rattle.motion.specs.Axes.{rest_sample}
use Rattle.motion.specs.EndClaims.{fourth_ends, third_ends, axis_ends, EndRemainder, EndRemainderClaim}
use Rattle.motion.specs.declared.Sample.{Sample}
use Rattle.motion.proofs.RoundedValues.{with_rounding}
use Rattle.motion.specs.Inner.Orders.{PlannedAs}
use Rattle.motion.proofs.EntryLaws.{fourth_planned, third_planned}
use Rattle.motion.proofs.KeptRules.{keeps, third_keeps, fourth_follows, third_follows}
use Rattle.motion.proofs.KeptLaws.{sample_at}
use Rattle.motion.proofs.EndRule.{remainder_end}
use Rattle.motion.proofs.GivenSamples.{rule_sample_lem, rule_row}
use Rattle.motion.proofs.AxisSampling.{axis_row, resting_row, values_by}
use Rattle.motion.proofs.AxesSampleRuns.{most, plan_is}

-- the last sample of a plan
last_sample :
    {x : Motion} {n : ℕ} {v : ℕ → Values} → PlannedAs x n v
    → {last : Sample} → Samples x x.samples (Ok last)
    → last ≡ with_rounding x.start (v n)
last_sample {x} {v = v} f s =
    rule_sample_lem x s
    ∙ ap (with_rounding x.start) (sym (f.values_are x.samples))
    ∙ ap (λ (k : ℕ). with_rounding x.start (v k)) (sym f.samples_are)

-- one axis of accepted ones, at the common duration
module _ (axes : List Move) (h : Each AcceptedAxis axes) (i : ℕ) (d : Move) (l : i < length axes) where
  abbrev axis : Move
  axis = get_or axes i d

  abbrev n : ℕ
  n = common_samples axes

  abbrev AtEnd : (shortfall : ℕ) (last : Sample) → Type 0
  AtEnd = EndRemainder axis.displacement

  resting_end : at_rest axis ≡ true → AtEnd (axis_plan axis n).shortfall (axis_row n axis n)
  resting_end rests =
      let zeros : AtEnd 0 (rest_sample axis.start) =
      record { remainder_is = sym (ap neg_ℤ (along_zero axis.displacement)); below_half = omega arith } in
      subst (λ (x : Plan). AtEnd x.shortfall (axis_row n axis n)) (sym (resting_plan axis n rests))
      (subst (AtEnd 0) (sym (resting_row n axis n rests)) zeros)

  moving_end : at_rest axis ≡ false → AtEnd (axis_plan axis n).shortfall (axis_row n axis n)
  unfolding span
  moving_end moves =
      let t = raised n (intervals_of axis) in
      let values = sample_at axis.start axis.displacement t (D t (distance_of axis)) in
      let row : axis_row n axis n ≡ values (N t) =
      ap (with_rounding axis.start) (values_by n axis moves n) ∙ ap values (sym (raised_axis_samples axes h i d l moves)) in
      subst (λ (x : Plan). AtEnd x.shortfall (axis_row n axis n)) (sym (moving_plan axis n moves))
      (subst (AtEnd _) (sym row)
      (remainder_end (keeps (raised_axis_lem axes h i d l moves)) (fourth_follows axis.displacement t (D t (distance_of axis)))
      axis.start))

  axis_end : AtEnd (axis_plan axis n).shortfall (axis_row n axis n)
  axis_end = by_rest axis resting_end moving_end

pub end_remainder : EndRemainderClaim
unfolding span
end_remainder _ _ _ (fourth_ends m plan h last s) =
    let f = planned_facts h in
    subst (EndRemainder m.displacement plan.shortfall) (sym (last_sample (fourth_planned f) s))
    (remainder_end (keeps f) (fourth_follows m.displacement (intervals_in plan) plan.snap) m.start)
end_remainder _ _ _ (third_ends m plan h last s) =
    let f = third_facts h in
    subst (EndRemainder m.displacement plan.shortfall) (sym (last_sample (third_planned f) s))
    (remainder_end (third_keeps f) (third_follows m.displacement (third_intervals_in plan) plan.jerk) m.start)
end_remainder _ _ _ (axis_ends count moves sent N plans p samples s i c) =
    let axes = take count moves in
    let n = common_samples axes in
    let l = within count moves sent (most sent p) i c in
    let same = counted_at count moves i c in
    let common = planned_common count moves p in
    let row = rule_row sent s c ∙ ap (axis_row n (axis_at moves i)) common in
    subst (EndRemainder (axis_at moves i).displacement (get_or plans i rest_plan).shortfall) (sym row)
    (subst (λ (x : Plan). EndRemainder (axis_at moves i).displacement x.shortfall (axis_row n (axis_at moves i) n)) (sym (plan_is sent p c))
    (subst (λ (m : Move). EndRemainder m.displacement (axis_plan m n).shortfall (axis_row n m n)) same
    (axis_end axes (all_accepted count moves p.outcome_is) i _ l)))
