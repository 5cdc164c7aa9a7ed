-- Demand 2, of a set: which sets are planned, and what an outcome that is no refusal says.
use mathlib.Core.Bool.{false, ◌||◌}
use mathlib.Core.List.{List}
use mathlib.Core.Path.{◌≡◌, sym, ap, subst, ◌∙◌}
use Prim.Native.Nat.{ℕ, ◌<◌}
use lib.Dec.{eqb, ltb}
use lib.ListN.{length, take, get_or}
use Rattle.planner.specs.Refusals.{Each}
use Rattle.std.specs.Prelude.{Result, Ok, Err}
use Rattle.planner.specs.Claims.{IsPlanned}
use Rattle.planner.specs.Axes.{most_axes, rest_plan, axis_plan, all_at_rest, common_samples, axes_checks, axes_result, axes_places, PlansAxes}
use Rattle.planner.specs.AxesClaims.{Moving, AcceptedAxis, axis_at, AcceptedAxes, AxesAcceptanceClaim}
use Rattle.planner.specs.declared.Move.{Move}
use Rattle.planner.specs.declared.Plan.{Plan}
use Rattle.planner.proofs.RefusalLaws.{Passes, passed_range, range_passes, all_pass}
use Rattle.planner.proofs.PaddedLaws.{padded_at}
use Rattle.planner.proofs.AxesLaws.{axes_pass, passed_axes}
use Rattle.planner.proofs.AxesAnswers.{all_passed, common_is}
use Rattle.planner.proofs.CountedLaws.{moves_counted, counted_at, within, counted_each, each_counted}
use Rattle.planner.proofs.MovingLaws.{some_moves, not_all_rest}

module _ (count : ℕ) (moves : List Move) where
  abbrev axes : List Move
  axes = take count moves

  -- no check applies
  pub axes_given :
      (eqb count 0 || ltb most_axes count) ≡ false → all_at_rest axes ≡ false → Each AcceptedAxis axes
      → axes_result count moves ≡ Ok (common_samples axes)
  unfolding axes_result
  axes_given h r e = all_pass (axes_checks count moves) _ (h, (r, axes_pass 1 axes e))

  module _ (sent : length moves ≡ most_axes) where
    -- an accepted set
    pub accepted_each : AcceptedAxes count moves → Each AcceptedAxis axes
    accepted_each h = counted_each count moves sent h.at_most AcceptedAxis h.each_accepted

    accepted_moves : AcceptedAxes count moves → all_at_rest axes ≡ false
    accepted_moves h =
        let s = h.some_moves in
        not_all_rest axes s.axis (within count moves sent h.at_most _ s.counted)
        (subst Moving (sym (counted_at count moves _ s.counted)) s.moves_there)

    pub accepted_axes_result : AcceptedAxes count moves → axes_result count moves ≡ Ok (common_samples axes)
    accepted_axes_result h = axes_given (range_passes most_axes count h.from_one h.at_most) (accepted_moves h) (accepted_each h)

    -- a set whose checks pass
    passed_accepted_axes : Each Passes (axes_checks count moves) → AcceptedAxes count moves
    passed_accepted_axes p =
        let range = passed_range most_axes count p.0 in
        record {
          from_one = range.0;
          at_most = range.1;
          some_moves = moves_counted count moves sent range.1 (some_moves axes p.1.0);
          each_accepted = each_counted count moves sent range.1 AcceptedAxis (passed_axes 1 axes p.1.1);
        }

  -- a set that was planned
  module _ {n : ℕ} {plans : List Plan} (h : PlansAxes count moves (Ok n) plans) where
    pub planned_common : n ≡ common_samples axes
    planned_common = common_is count moves h.outcome_is

    module _ (sent : length moves ≡ most_axes) where
      pub planned_accepted : AcceptedAxes count moves
      planned_accepted = passed_accepted_axes sent (all_passed count moves h.outcome_is)

      pub axis_plan_at : (i : ℕ) → i < count → get_or plans i rest_plan ≡ axis_plan (axis_at moves i) n
      axis_plan_at i l =
          let row : Move → Plan = λ m. axis_plan m (common_samples axes) in
          ap (λ (l : List Plan). get_or l i rest_plan) (h.plans_are ∙ ap (axes_places count moves rest_plan row) (sym h.outcome_is))
          ∙ padded_at row most_axes rest_plan axes rest_plan _ i (within count moves sent planned_accepted.at_most i l)
          ∙ ap row (counted_at count moves i l)
          ∙ ap (axis_plan (axis_at moves i)) (sym planned_common)

pub axes_acceptance : (count : ℕ) (moves : List Move) → AxesAcceptanceClaim count moves
axes_acceptance count moves sent o plans h = (
  planned o h,
  λ k. subst IsPlanned (sym (h.outcome_is ∙ accepted_axes_result count moves sent k)) tt,
)
  where
    planned : (o : Result ℕ (ℕ × ℕ)) → PlansAxes count moves o plans → IsPlanned o → AcceptedAxes count moves
    planned (Err x) h p = absurd p
    planned (Ok n) h p = planned_accepted count moves h sent
