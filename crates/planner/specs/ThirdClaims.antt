-- Document 02, request 3: what the theorems `third_acceptance` (demand 2), `third_mirror`, `one_third_answer`, `third_plan_order`,
-- `never_six`, `snap_unread` and `third_interval_claim` say of the rules of third-order plans.
use Rattle.std.specs.Prelude.{[], ◌∷◌, ◌↔◌, ◌≡◌, ℕ, ◌+◌, ◌-◌, ◌*◌, ◌^◌, ◌≤◌, nat_abs, Result, Err}
use Rattle.planner.specs.Intervals.{interval_b}
use Rattle.planner.specs.Order.{InOrder}
use Rattle.planner.specs.Outcome.{most_samples, distance_of, outcome}
use Rattle.planner.specs.Claims.{BoundInRange, InSpan, EndsInSpan, IsPlanned, mirrored}
use Rattle.planner.specs.Third.{N₃, P₃, third_intervals_of, third_samples_of, third_checks, PlansThird}
use Rattle.planner.specs.declared.Move.{Move}
use Rattle.planner.specs.declared.ThirdPlan.{ThirdPlan}
use Rattle.planner.specs.declared.Refusal.{Refusal}

-- The figures that are read are in range: none of refusals 1 to 5 and 14 applies.
pub record ThirdInRange (m : Move) : Type 0 where
  pub moves : 1 ≤ nat_abs m.displacement
  pub near : InSpan m.displacement
  pub velocity : BoundInRange m.velocity
  pub acceleration : BoundInRange m.acceleration
  pub jerk : BoundInRange m.jerk
  pub ends : EndsInSpan m

pub record ThirdAccepted (m : Move) : Type 0 where
  pub is_in_range : ThirdInRange m
  pub short_enough : third_samples_of m ≤ most_samples

abbrev pub ThirdAcceptanceClaim : Type 0
ThirdAcceptanceClaim = (m : Move) (o : Result ThirdPlan ℕ) → PlansThird m o → IsPlanned o ↔ ThirdAccepted m

-- As for the fourth order.
abbrev pub ThirdMirrorClaim : Type 0
ThirdMirrorClaim = (m : Move) → ThirdAccepted m ↔ ThirdAccepted (mirrored m)

-- The promise leaves one answer.
abbrev pub OneThirdAnswerClaim : Type 0
OneThirdAnswerClaim = (m : Move) (x y : Result ThirdPlan Refusal) → PlansThird m (outcome x) → PlansThird m (outcome y) → x ≡ y

-- The checks in their order.
abbrev pub ThirdPlanOrderClaim : Type 0
ThirdPlanOrderClaim = (m : Move) → InOrder (third_checks m) (1 ∷ 2 ∷ 3 ∷ 4 ∷ 5 ∷ 14 ∷ 7 ∷ [])

-- "refusal 6 is never given there"
abbrev pub NeverSixClaim : Type 0
NeverSixClaim = (m : Move) → PlansThird m (Err 6) → ⊥

-- The same move with another bound on the snap, whichever it is.
abbrev pub with_snap : (S₀ : ℕ) → Move → Move
with_snap S₀ m =
    record {
      displacement = m.displacement;
      velocity = m.velocity;
      acceleration = m.acceleration;
      jerk = m.jerk;
      snap = S₀;
      start = m.start;
    }

-- "S is not read": what is promised of a move is promised of it with every S.
abbrev pub SnapUnreadClaim : Type 0
SnapUnreadClaim = (m : Move) (S₀ : ℕ) (o : Result ThirdPlan ℕ) → PlansThird m o → PlansThird (with_snap S₀ m) o

module _ (m : Move) where
  -- b is what the base's rule gives for a = 0 and J1 = J; the seven segments take N samples; and where N is at most 4,096, P is at most
  -- 2^31, which no rule asks.
  pub record ThirdIntervalClaim : Type 0 where
    pub base_b : (third_intervals_of m).b ≡ interval_b (distance_of m) m.velocity m.acceleration m.jerk 0
    pub durations : let t = third_intervals_of m in N₃ t ≡ 4 * t.b + 2 * (t.c - t.b) + (t.e - t.b - t.c)
    pub product : N₃ (third_intervals_of m) ≤ most_samples → P₃ (third_intervals_of m) ≤ 2 ^ 31
