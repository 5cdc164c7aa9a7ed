-- What demand 3 of a set assumes can be met: the rules' own answers meet the promises of its entries, for every set.
use mathlib.Core.List.{List, [], ◌∷◌}
use mathlib.Core.Path.{refl}
use Prim.Native.Nat.{ℕ, zero, suc, ◌<◌}
use native.Mathlib.Omega.{arith}
use lib.IntN.{pos}
use Rattle.planner.specs.Axes.{rest_plan, axis_plan, common_samples, counted, axes_result, axes_places, PlansAxes}
use Rattle.planner.specs.AxesClaims.{no_move, axis_at, AcceptedAxis, AcceptedAxes}
use Rattle.planner.specs.Claims.{BoundInRange, mirrored}
use Rattle.planner.specs.declared.Move.{Move}
use Rattle.planner.specs.declared.Plan.{Plan}
use Rattle.planner.proofs.Mirror.{mirror}
use Rattle.planner.proofs.StarredMoves.{first_starred, first_accepted, second_starred, second_accepted}
use Rattle.motion.specs.Axes.{rest_sample, axes_sample_result, SamplesAxes}
use Rattle.motion.specs.AxesClaims.{Demand3Axes}
use Rattle.motion.specs.declared.Sample.{Sample}
use Rattle.motion.proofs.AxisSampling.{axis_row}
use Rattle.motion.proofs.AxesSampling.{placed_rows}
use Rattle.motion.proofs.Demand3Axes.{demand_3_axes}

module _ (count : ℕ) (moves : List Move) where
  abbrev pub rule_plans : List Plan
  rule_plans = axes_places count moves rest_plan (λ m. axis_plan m (common_samples (counted count moves))) (axes_result count moves)

  pub rule_plans_axes : PlansAxes count moves (axes_result count moves) rule_plans
  rule_plans_axes = record { outcome_is = refl; plans_are = refl }

  abbrev pub rule_samples : ℕ → List Sample
  rule_samples k = axes_places count moves (rest_sample (pos 0)) (λ m. axis_row (common_samples (counted count moves)) m k)
      (axes_sample_result count moves k)

  pub rule_samples_axes : (k : ℕ) → SamplesAxes count moves k (axes_sample_result count moves k) (rule_samples k)
  rule_samples_axes k = record { outcome_is = refl; placed = placed_rows count moves k refl }

-- a closed instance: the first of document 01's moves, the mirror of the second, to which it is raised, an axis at rest at 5, and five
-- places that are not counted
abbrev resting : Move
resting = record { displacement = pos 0; velocity = 1; acceleration = 1; jerk = 1; snap = 1; start = pos 5 }

abbrev pub three : List Move
three = first_starred ∷ mirrored second_starred ∷ resting ∷ no_move ∷ no_move ∷ no_move ∷ no_move ∷ no_move ∷ []

each_accepted : (i : ℕ) → i < 3 → AcceptedAxis (axis_at three i)
each_accepted zero l = record { moving = λ h. first_accepted; resting = λ h. absurd (omega arith) }
each_accepted (suc zero) l = record { moving = λ h. (mirror second_starred).0 second_accepted; resting = λ h. absurd (omega arith) }
each_accepted (suc (suc zero)) l =
    let one : BoundInRange 1 = record { at_least = omega arith; at_most = omega arith } in
    record {
      moving = λ h. absurd (omega arith);
      resting = λ h. (
        record { velocity = one; acceleration = one; jerk = one; snap = one },
        record { start = omega arith; end = omega arith },
      );
    }
each_accepted (suc (suc (suc i))) l = absurd (omega arith)

pub three_accepted : AcceptedAxes 3 three
three_accepted =
    record {
      from_one = omega arith;
      at_most = omega arith;
      some_moves = record { axis = 0; counted = omega arith; moves_there = omega arith };
      each_accepted = each_accepted;
    }

pub demand_3_of_three : Demand3Axes 3 three (axes_result 3 three) (rule_plans 3 three) (axes_sample_result 3 three) (rule_samples 3 three)
demand_3_of_three =
    demand_3_axes 3 three refl three_accepted (axes_result 3 three) (rule_plans 3 three) (rule_plans_axes 3 three) (axes_sample_result 3 three)
    (rule_samples 3 three) (λ k l. rule_samples_axes 3 three k)
