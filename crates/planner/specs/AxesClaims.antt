-- What the theorems say of a set of axes, over any answer that meets the promise: when it is planned (`axes_acceptance`, demand 2), and
-- why and where it is refused (`axes_refused`); that the promise leaves one answer (`one_axes_answer`), and reads the counted moves alone
-- (`counted_alone`); that the checks of an axis rise (`axis_order`); what the common duration is (`common_duration`);
-- and that a move alone is the set of one (`set_of_one`).
use Rattle.std.specs.Prelude.{◌||◌, cond, List, [], ◌∷◌, ◌↔◌, ◌≡◌, ℕ, suc, ◌≤◌, ◌<◌, eqb, pos, nat_abs, length, get_or, take, Result, Ok, Err}
use Rattle.planner.specs.Intervals.{N}
use Rattle.planner.specs.Refusals.{padded}
use Rattle.planner.specs.Order.{FirstToApply, Rising}
use Rattle.planner.specs.Outcome.{samples_of, intervals_in, Plans}
use Rattle.planner.specs.Claims.{BoundsInRange, EndsInSpan, Accepted, IsPlanned}
use Rattle.planner.specs.Axes.{most_axes, rest_plan, axis_checks, PlansAxes, axes_outcome, axes_plans}
use Rattle.planner.specs.declared.Move.{Move}
use Rattle.planner.specs.declared.Plan.{Plan}
use Rattle.planner.specs.declared.Refusal.{Refusal}
use Rattle.planner.specs.declared.AxesPlan.{AxesPlan}
use Rattle.planner.specs.declared.AxisRefusal.{AxisRefusal}

abbrev pub Moving : Move → Type 0
Moving m = 1 ≤ nat_abs m.displacement

abbrev pub Resting : Move → Type 0
Resting m = nat_abs m.displacement ≡ 0

-- A moving axis is accepted by itself; one at rest has its bounds and its start in range.
pub record AcceptedAxis (m : Move) : Type 0 where
  pub moving : Moving m → Accepted m
  pub resting : Resting m → BoundsInRange m.velocity m.acceleration m.jerk m.snap × EndsInSpan m

-- Axis i, from 0. Eight moves are sent, so `no_move` is never meant.
abbrev pub no_move : Move
no_move = record { displacement = pos 0; velocity = 0; acceleration = 0; jerk = 0; snap = 0; start = pos 0 }

abbrev pub axis_at : List Move → ℕ → Move
axis_at moves i = get_or moves i no_move

-- Some axis before `count` moves.
pub record SomeMoves (count : ℕ) (moves : List Move) : Type 0 where
  pub axis : ℕ
  pub counted : axis < count
  pub moves_there : Moving (axis_at moves axis)

pub record AcceptedAxes (count : ℕ) (moves : List Move) : Type 0 where
  pub from_one : 1 ≤ count
  pub at_most : count ≤ most_axes
  pub some_moves : SomeMoves count moves
  pub each_accepted : (i : ℕ) → i < count → AcceptedAxis (axis_at moves i)

module _ (count : ℕ) (moves : List Move) where
  -- Demand 2, of a set.
  abbrev pub AxesAcceptanceClaim : Type 0
  AxesAcceptanceClaim =
      length moves ≡ most_axes
      → (o : Result ℕ (ℕ × ℕ)) (plans : List Plan) → PlansAxes count moves o plans → IsPlanned o ↔ AcceptedAxes count moves

  -- Why a set is refused, with this number and this place.
  pub data Reason : (number place : ℕ) → Type 0 where
    not_a_count : (1 ≤ count → count ≤ most_axes → ⊥) → Reason 13 0
    all_rest : 1 ≤ count → count ≤ most_axes → ((i : ℕ) → i < count → Resting (axis_at moves i)) → Reason 1 0
    axis_refused :
        1 ≤ count → count ≤ most_axes → SomeMoves count moves
        → (i n : ℕ) → i < count
        → ((j : ℕ) → j < i → AcceptedAxis (axis_at moves j))
        → FirstToApply n (axis_checks (axis_at moves i))
        → Reason n (suc i)

  abbrev pub AxesRefusedClaim : Type 0
  AxesRefusedClaim =
      length moves ≡ most_axes
      → (o : Result ℕ (ℕ × ℕ)) (plans : List Plan) → PlansAxes count moves o plans
      → (number place : ℕ) → (o ≡ Err (number, place)) ↔ Reason number place

  -- The promise leaves one answer, in every place.
  abbrev pub OneAxesAnswerClaim : Type 0
  OneAxesAnswerClaim =
      (x y : Result AxesPlan (AxisRefusal Refusal))
      → PlansAxes count moves (axes_outcome x) (axes_plans x)
      → PlansAxes count moves (axes_outcome y) (axes_plans y)
      → x ≡ y

  -- Only the first `count` moves are read.
  abbrev pub CountedAloneClaim : Type 0
  CountedAloneClaim =
      (others : List Move) → take count moves ≡ take count others
      → (o : Result ℕ (ℕ × ℕ)) (plans : List Plan) → PlansAxes count moves o plans → PlansAxes count others o plans

  -- "The common duration is the largest N": some moving axis's own, and none needs more; and every moving axis is planned to end there.
  pub record CommonDuration (plans : List Plan) (n : ℕ) : Type 0 where
    pub longest : ℕ
    pub longest_counted : longest < count
    pub longest_moves : Moving (axis_at moves longest)
    pub longest_is : samples_of (axis_at moves longest) ≡ n
    pub none_longer : (i : ℕ) → i < count → Moving (axis_at moves i) → samples_of (axis_at moves i) ≤ n
    pub same_end : (i : ℕ) → i < count → Moving (axis_at moves i) → N (intervals_in (get_or plans i rest_plan)) ≡ n

  abbrev pub CommonDurationClaim : Type 0
  CommonDurationClaim =
      length moves ≡ most_axes
      → (n : ℕ) (plans : List Plan) → PlansAxes count moves (Ok n) plans → CommonDuration plans n

-- The checks of an axis rise, so that it is refused with "its own lowest number", where 14 stands between 6 and 7 (`lowest_given`).
abbrev pub AxisOrderClaim : Type 0
AxisOrderClaim = (m : Move) → Rising (axis_checks m)

-- "A move alone is the set of one": the number of its refusal and what it gives are the set's. The place is 1, but 0 for 1 and 9, since
-- these refuse the set as a whole.
abbrev pub place_of_one : (number : ℕ) → ℕ
place_of_one number = cond (eqb number 1 || eqb number 9) 0 1

abbrev pub outcome_of_one : {A O : Type 0} → (A → O) → Result A ℕ → Result O (ℕ × ℕ)
outcome_of_one f (Err number) = Err (number, place_of_one number)
outcome_of_one f (Ok x) = Ok (f x)

abbrev pub places_of_one : {A : Type 0} (zeros : A) → Result A ℕ → List A
places_of_one zeros (Err number) = padded most_axes zeros []
places_of_one zeros (Ok x) = padded most_axes zeros (x ∷ [])

abbrev pub SetOfOneClaim : Type 0
SetOfOneClaim =
    (m : Move) (others : List Move) (o : Result Plan ℕ) → Plans m o
    → PlansAxes 1 (m ∷ others) (outcome_of_one (λ x. N (intervals_in x)) o) (places_of_one rest_plan o)
