-- Document 02, request 7: what the start changes in a plan, and what it does not (`start_adds`, `never_fourteen`, `one_plan`).
use Rattle.std.specs.Prelude.{List, map, ◌↔◌, ◌≡◌, ℕ, pos, length, take, Ok, Err}
use Rattle.planner.specs.Outcome.{Plans}
use Rattle.planner.specs.Claims.{EndsInSpan, Accepted}
use Rattle.planner.specs.Third.{PlansThird}
use Rattle.planner.specs.ThirdClaims.{ThirdAccepted}
use Rattle.planner.specs.Axes.{most_axes, PlansAxes}
use Rattle.planner.specs.AxesClaims.{AcceptedAxis}
use Rattle.planner.specs.declared.Move.{Move}
use Rattle.planner.specs.declared.Plan.{Plan}
use Rattle.planner.specs.declared.ThirdPlan.{ThirdPlan}

-- The same move from start 0.
abbrev pub from_zero : Move → Move
from_zero m =
    record {
      displacement = m.displacement;
      velocity = m.velocity;
      acceleration = m.acceleration;
      jerk = m.jerk;
      snap = m.snap;
      start = pos 0;
    }

-- A start asks that it and its end are in the span, and no more.
pub record StartAddsClaim (m : Move) : Type 0 where
  pub fourth : Accepted m ↔ (Accepted (from_zero m) × EndsInSpan m)
  pub third : ThirdAccepted m ↔ (ThirdAccepted (from_zero m) × EndsInSpan m)
  pub axis : AcceptedAxis m ↔ (AcceptedAxis (from_zero m) × EndsInSpan m)

-- "Earlier calls and all sheets mean start 0": no plan is refused with 14 there. The other entries ask what the plan asks, and no other 14.
pub record NeverFourteenClaim : Type 0 where
  pub fourth : (m : Move) → Plans (from_zero m) (Err 14) → ⊥
  pub third : (m : Move) → PlansThird (from_zero m) (Err 14) → ⊥
  pub axes :
      (count : ℕ) (moves : List Move) → length moves ≡ most_axes
      → (place : ℕ) (plans : List Plan) → PlansAxes count (map from_zero moves) (Err (14, place)) plans → ⊥

-- The plan does not depend on the start: moves that differ in it alone have one plan, where both have a plan; and so have sets.
pub record OnePlanClaim : Type 0 where
  pub fourth : (m n : Move) → from_zero m ≡ from_zero n → (x y : Plan) → Plans m (Ok x) → Plans n (Ok y) → x ≡ y
  pub third : (m n : Move) → from_zero m ≡ from_zero n → (x y : ThirdPlan) → PlansThird m (Ok x) → PlansThird n (Ok y) → x ≡ y
  pub axes :
      (count : ℕ) (moves others : List Move) → map from_zero (take count moves) ≡ map from_zero (take count others)
      → (n n' : ℕ) (plans plans' : List Plan)
      → PlansAxes count moves (Ok n) plans → PlansAxes count others (Ok n') plans'
      → (n ≡ n') × (plans ≡ plans')
