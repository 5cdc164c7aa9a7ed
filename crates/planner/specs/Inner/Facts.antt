-- All that holds of a plan of a move. `planned_facts` leads from "planned" to it, and other crates use that in place of the rules' own text.
use Rattle.std.specs.Prelude.{◌≡◌, ℕ, ◌+◌, ◌*◌, ◌^◌, ◌≤◌, ◌<◌}
use Rattle.planner.specs.Intervals.{Intervals, N, P}
use Rattle.planner.specs.Outcome.{most_samples, distance_of, plan_of, intervals_in}
use Rattle.planner.specs.Claims.{Accepted}
use Rattle.planner.specs.declared.Move.{Move}
use Rattle.planner.specs.declared.Plan.{Plan}

-- The intervals follow each other.
pub record Ordered (t : Intervals) : Type 0 where
  pub one_a : 1 ≤ t.a
  pub a_b : t.a ≤ t.b
  pub ab_c : t.a + t.b ≤ t.c
  pub abc_e : t.a + t.b + t.c ≤ t.e

-- The snap D keeps every bound of the move.
pub record KeepsBounds (m : Move) (t : Intervals) (D : ℕ) : Type 0 where
  pub snap : D ≤ m.snap
  pub jerk : D * t.a ≤ m.jerk
  pub acceleration : D * (t.a * t.b) ≤ m.acceleration
  pub velocity : D * (t.a * t.b * t.c) ≤ m.velocity

-- The plan x of an accepted move in the intervals t: the rule's own, or those with a raised e.
pub record PlanFacts (m : Move) (t : Intervals) (x : Plan) : Type 0 where
  pub accepted : Accepted m
  pub plan_rule : x ≡ plan_of (distance_of m) t
  pub ordered : Ordered (intervals_in x)
  pub samples : N (intervals_in x) ≤ most_samples
  pub product : P (intervals_in x) ≤ 2 ^ 39
  pub shortfall_below : x.shortfall < P (intervals_in x)
  pub whole : x.snap * P (intervals_in x) + x.shortfall ≡ distance_of m
  pub bounds : KeepsBounds m (intervals_in x) x.snap
