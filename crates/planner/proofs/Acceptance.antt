-- Demand 2: "a move is accepted if its figures are in range and its rule needs at most 4,096 samples, and otherwise not", in either order.
use mathlib.Core.Logic.Iff
use mathlib.Core.Logic.{◌↔◌}
use mathlib.Core.List.{List, [], ◌∷◌}
use mathlib.Core.Path.{◌≡◌, refl}
use Prim.Native.Nat.{ℕ}
use borrow.Author.Tests.{le-ltb, ltb-false}
use lib.Dec.{ltb}
use Rattle.planner.specs.Refusals.{Each, Check, check}
use Rattle.std.specs.Prelude.{Ok}
use Rattle.planner.specs.Outcome.{most_samples, out_of_range, span_check, samples_of, distance_of, intervals_of, plan_of, checks, outcome_of}
use Rattle.planner.specs.Claims.{Accepted, IsPlanned, AcceptanceClaim}
use Rattle.planner.specs.Third.{third_intervals_of, third_samples_of, third_plan_of, third_checks, third_outcome_of}
use Rattle.planner.specs.ThirdClaims.{ThirdInRange, ThirdAccepted, ThirdAcceptanceClaim}
use Rattle.planner.specs.Inner.Undivided.{figure_checks}
use Rattle.planner.specs.declared.Move.{Move}
use Rattle.planner.proofs.EachLaws.{each_joined, each_parts}
use Rattle.planner.proofs.RefusalLaws.{Passes, all_pass, given_passes, bound_in_range, bound_passes}
use Rattle.planner.proofs.EndLaws.{ends_in_span, ends_pass}
use Rattle.planner.proofs.FiguresChecks.{figures_in_range, figures_pass}

module _ (m : Move) where
  -- the figures that both orders read, and what each order asks after them
  abbrev figures : List (Check ℕ)
  figures = figure_checks m.displacement m.velocity m.acceleration m.jerk

  abbrev last : List (Check ℕ)
  last = check 6 (out_of_range m.snap) ∷ span_check m.displacement m.start ∷ check 7 (ltb most_samples (samples_of m)) ∷ []

  abbrev third_last : List (Check ℕ)
  third_last = span_check m.displacement m.start ∷ check 7 (ltb most_samples (third_samples_of m)) ∷ []

  pub passed_accepted : Each Passes (checks m) → Accepted m
  passed_accepted p =
      let parts = each_parts Passes figures last p in
      let i = figures_in_range m parts.0 (ends_in_span m parts.1.1.0) in
      record {
        is_in_range =
            record {
              moves = i.moves;
              near = i.near;
              bounds =
                  record {
                    velocity = i.velocity;
                    acceleration = i.acceleration;
                    jerk = i.jerk;
                    snap = bound_in_range _ parts.1.0;
                  };
              ends = i.ends;
            };
        short_enough = ltb-false most_samples (samples_of m) parts.1.1.1.0;
      }

  pub accepted_figures : Accepted m → ThirdInRange m
  accepted_figures h =
      let i = h.is_in_range in
      record {
        moves = i.moves;
        near = i.near;
        velocity = i.bounds.velocity;
        acceleration = i.bounds.acceleration;
        jerk = i.bounds.jerk;
        ends = i.ends;
      }

  pub accepted_passes : Accepted m → Each Passes (checks m)
  accepted_passes h =
      each_joined Passes figures last (figures_pass m (accepted_figures h)) (
        bound_passes _ h.is_in_range.bounds.snap,
        (ends_pass m h.is_in_range.ends, (le-ltb most_samples (samples_of m) h.short_enough, tt)),
      )

  pub third_passed : Each Passes (third_checks m) → ThirdAccepted m
  third_passed p =
      let parts = each_parts Passes figures third_last p in
      record {
        is_in_range = figures_in_range m parts.0 (ends_in_span m parts.1.0);
        short_enough = ltb-false most_samples (third_samples_of m) parts.1.1.0;
      }

  pub third_passes : ThirdAccepted m → Each Passes (third_checks m)
  third_passes h =
      each_joined Passes figures third_last (figures_pass m h.is_in_range)
      (ends_pass m h.is_in_range.ends, (le-ltb most_samples (third_samples_of m) h.short_enough, tt))

  -- the plan of the rule's own intervals
  pub accepted_outcome : Accepted m → outcome_of m ≡ Ok (plan_of (distance_of m) (intervals_of m))
  unfolding outcome_of
  accepted_outcome h = all_pass (checks m) _ (accepted_passes h)

  pub third_accepted_outcome : ThirdAccepted m → third_outcome_of m ≡ Ok (third_plan_of (distance_of m) (third_intervals_of m))
  unfolding third_outcome_of
  third_accepted_outcome h = all_pass (third_checks m) _ (third_passes h)

pub acceptance : AcceptanceClaim
unfolding outcome_of
acceptance m o h = Iff.trans (given_passes (checks m) _ h.outcome_is) (passed_accepted m, accepted_passes m)

pub third_acceptance : ThirdAcceptanceClaim
unfolding third_outcome_of
third_acceptance m o h = Iff.trans (given_passes (third_checks m) _ h.outcome_is) (third_passed m, third_passes m)

-- of the rule's own outcome
pub rule_accepted : (m : Move) → IsPlanned (outcome_of m) ↔ Accepted m
rule_accepted m = acceptance m (outcome_of m) (record { outcome_is = refl })

pub third_rule_accepted : (m : Move) → IsPlanned (third_outcome_of m) ↔ ThirdAccepted m
third_rule_accepted m = third_acceptance m (third_outcome_of m) (record { outcome_is = refl })
