-- What the theorems `acceptance` (demand 2), `one_plan_answer`, `mirror`, `least_is` and `interval_claim` say of the rules.
use Rattle.std.specs.Prelude.{◌↔◌, ◌≡◌, ℕ, ◌+◌, ◌*◌, ◌^◌, ◌≤◌, ℤ, nat_abs, neg_ℤ, ◌+ℤ◌, Result, Ok, Err}
use Rattle.planner.specs.Least.{least, IsLeast}
use Rattle.planner.specs.Intervals.{p, q, r, s, N, P, J₁, A₁, V₁, from_b}
use Rattle.planner.specs.Outcome.{most_samples, most_counts, most_bound, distance_of, intervals_of, samples_of, Plans, outcome}
use Rattle.planner.specs.declared.Move.{Move}
use Rattle.planner.specs.declared.Plan.{Plan}
use Rattle.planner.specs.declared.Refusal.{Refusal}

-- A bound that may be sent.
pub record BoundInRange (x : ℕ) : Type 0 where
  pub at_least : 1 ≤ x
  pub at_most : x ≤ most_bound

pub record BoundsInRange (V₀ A₀ J₀ S₀ : ℕ) : Type 0 where
  pub velocity : BoundInRange V₀
  pub acceleration : BoundInRange A₀
  pub jerk : BoundInRange J₀
  pub snap : BoundInRange S₀

-- A count within ±1,048,576.
abbrev pub InSpan : (count : ℤ) → Type 0
InSpan count = nat_abs count ≤ most_counts

-- Document 02, request 7: the start, and the end, "start plus X", are in the span.
pub record EndsInSpan (m : Move) : Type 0 where
  pub start : InSpan m.start
  pub end : InSpan (m.start +ℤ m.displacement)

-- The figures of a move are in range: none of refusals 1 to 6 and 14 applies.
pub record InRange (m : Move) : Type 0 where
  pub moves : 1 ≤ nat_abs m.displacement
  pub near : InSpan m.displacement
  pub bounds : BoundsInRange m.velocity m.acceleration m.jerk m.snap
  pub ends : EndsInSpan m

-- "A move is accepted if its figures are in range and its rule needs at most 4,096 samples, and otherwise not."
pub record Accepted (m : Move) : Type 0 where
  pub is_in_range : InRange m
  pub short_enough : samples_of m ≤ most_samples

-- The outcome is a plan, or of a set its duration: no refusal.
abbrev pub IsPlanned : {R A : Type 0} → Result A R → Type 0
IsPlanned (Err x) = ⊥
IsPlanned (Ok x) = Unit {0}

abbrev pub AcceptanceClaim : Type 0
AcceptanceClaim = (m : Move) (o : Result Plan ℕ) → Plans m o → IsPlanned o ↔ Accepted m

-- The promise leaves one answer.
abbrev pub OneAnswerClaim : Type 0
OneAnswerClaim = (m : Move) (x y : Result Plan Refusal) → Plans m (outcome x) → Plans m (outcome y) → x ≡ y

-- The same move the other way, as seen from the rail's zero.
abbrev pub mirrored : Move → Move
mirrored m =
    record {
      displacement = neg_ℤ m.displacement;
      velocity = m.velocity;
      acceleration = m.acceleration;
      jerk = m.jerk;
      snap = m.snap;
      start = neg_ℤ m.start;
    }

-- X from the start is accepted exactly where −X from −start is.
abbrev pub MirrorClaim : Type 0
MirrorClaim = (m : Move) → Accepted m ↔ Accepted (mirrored m)

-- What `least` gives is the least number, for every target and every reach with n ≤ reach n. Each of the ten searches of a move in range has
-- such a reach (`ten_least`), and so has each of the third order's six (`six_least`), since its factor is at least 1: S, J or a bound that is
-- carried on.
abbrev pub LeastClaim : Type 0
LeastClaim = (target : ℕ) (reach : ℕ → ℕ) → ((n : ℕ) → n ≤ reach n) → IsLeast target reach (least target reach)

module _ (m : Move) where
  -- What a rule gives for the numbers of the move.
  abbrev pub of_move : (ℕ → ℕ → ℕ → ℕ → ℕ → ℕ) → ℕ
  of_move rule = rule (distance_of m) m.velocity m.acceleration m.jerk m.snap

  -- "N = a+b+c+e = 8p+4q+2r+s", and "With N ≤ 4,096, P is at most 2^39", for every move; and the bounds carried on, of a move in range.
  pub record IntervalClaim : Type 0 where
    pub durations : N (intervals_of m) ≡ 8 * p (intervals_of m) + 4 * q (intervals_of m) + 2 * r (intervals_of m) + s (intervals_of m)
    pub product : N (intervals_of m) ≤ most_samples → P (intervals_of m) ≤ 2 ^ 39
    pub one_J₁ : InRange m → 1 ≤ of_move J₁
    pub one_A₁ : InRange m → 1 ≤ of_move (from_b A₁)
    pub one_V₁ : InRange m → 1 ≤ of_move (from_b V₁)
