-- All that holds of a third-order plan of a move. `third_facts` leads from "planned" to it.
use Rattle.std.specs.Prelude.{◌≡◌, ℕ, ◌+◌, ◌*◌, ◌^◌, ◌≤◌, ◌<◌}
use Rattle.planner.specs.Outcome.{most_samples, distance_of}
use Rattle.planner.specs.Third.{ThirdIntervals, N₃, P₃, third_intervals_of, third_plan_of, third_intervals_in}
use Rattle.planner.specs.ThirdClaims.{ThirdAccepted}
use Rattle.planner.specs.declared.Move.{Move}
use Rattle.planner.specs.declared.ThirdPlan.{ThirdPlan}

-- The intervals follow each other.
pub record ThirdOrdered (t : ThirdIntervals) : Type 0 where
  pub one_b : 1 ≤ t.b
  pub b_c : t.b ≤ t.c
  pub bc_e : t.b + t.c ≤ t.e

-- The jerk of size D keeps every bound of the move that is read.
pub record ThirdKeepsBounds (m : Move) (t : ThirdIntervals) (D : ℕ) : Type 0 where
  pub jerk : D ≤ m.jerk
  pub acceleration : D * t.b ≤ m.acceleration
  pub velocity : D * (t.b * t.c) ≤ m.velocity

pub record ThirdFacts (m : Move) (x : ThirdPlan) : Type 0 where
  pub accepted : ThirdAccepted m
  pub plan_rule : x ≡ third_plan_of (distance_of m) (third_intervals_of m)
  pub ordered : ThirdOrdered (third_intervals_in x)
  pub samples : N₃ (third_intervals_in x) ≤ most_samples
  pub product : P₃ (third_intervals_in x) ≤ 2 ^ 31
  pub shortfall_below : x.shortfall < P₃ (third_intervals_in x)
  pub whole : x.jerk * P₃ (third_intervals_in x) + x.shortfall ≡ distance_of m
  pub bounds : ThirdKeepsBounds m (third_intervals_in x) x.jerk
