-- Document 02, request 1, "Rail, lift and gripper arrive together": one to eight axes, each with its own move.
use Rattle.std.specs.Prelude.{Bool, true, ◌||◌, ◌&&◌, cond, List, [], ◌∷◌, ◌++◌, map, ◌≡◌, ℕ, suc, ◌+◌, ◌-◌, max, eqb, ltb, nat_abs, take, replicate, Result, Ok, Err}
use Rattle.planner.specs.Intervals.{Intervals, N}
use Rattle.planner.specs.Refusals.{Check, check, first_refusal, padded}
use Rattle.planner.specs.Outcome.{distance_of, intervals_of, samples_of, bound_checks, span_check, checks, plan_of, number}
use Rattle.planner.specs.declared.Move.{Move}
use Rattle.planner.specs.declared.Plan.{Plan}
use Rattle.planner.specs.declared.Refusal.{Refusal}
use Rattle.planner.specs.declared.AxesPlan.{AxesPlan}
use Rattle.planner.specs.declared.AxisRefusal.{AxisRefusal}

abbrev pub most_axes : ℕ
most_axes = 8

-- "Each shorter axis raises its e by the difference": the intervals of an axis where the common duration is n.
abbrev pub raised : (n : ℕ) → Intervals → Intervals
raised n t = record { a = t.a; b = t.b; c = t.c; e = t.e + (n - N t) }

-- "all six 0 for an axis at rest"
abbrev pub rest_plan : Plan
rest_plan = record { a = 0; b = 0; c = 0; e = 0; snap = 0; shortfall = 0 }

-- One axis.
module _ (m : Move) where
  -- "An axis with X = 0 stays at rest"
  abbrev pub at_rest : Bool
  at_rest = eqb (nat_abs m.displacement) 0

  -- "though its bounds must be in range": refusals 3 to 6, and 14, "in a set too". A moving axis has those of its move, of which 1 does not
  -- apply.
  abbrev pub rest_checks : List (Check ℕ)
  rest_checks = bound_checks m.velocity m.acceleration m.jerk m.snap ++ (span_check m.displacement m.start ∷ [])

  abbrev pub axis_checks : List (Check ℕ)
  axis_checks = cond at_rest rest_checks (checks m)

  -- Its own N.
  abbrev pub own_samples : ℕ
  own_samples = cond at_rest 0 (samples_of m)

  -- ".. and finds D again": its plan where the common duration is n.
  unfoldable pub axis_plan : (n : ℕ) → Plan
  axis_plan n = cond at_rest rest_plan (plan_of (distance_of m) (raised n (intervals_of m)))

-- "all X are 0"
unfoldable pub all_at_rest : List Move → Bool
all_at_rest [] = true
all_at_rest (m ∷ ms) = at_rest m && all_at_rest ms

-- "The common duration is the largest N."
unfoldable pub common_samples : List Move → ℕ
common_samples [] = 0
common_samples (m ∷ ms) = max (own_samples m) (common_samples ms)

-- A refusal of a set is a number and a place: "its place, counted from 1", or 0 for the set as a whole.
abbrev pub with_place : (place : ℕ) → Check ℕ → Check (ℕ × ℕ)
with_place place (check number applies) = check (number, place) applies

-- "the first axis that is refused refuses the set, with its place, .. and its own lowest number": the checks of axis after axis.
unfoldable pub checks_from : (place : ℕ) → List Move → List (Check (ℕ × ℕ))
checks_from place [] = []
checks_from place (m ∷ ms) = map (with_place place) (axis_checks m) ++ checks_from (suc place) ms

-- A set: the first `count` of the moves that are sent. No later one is read.
module _ (count : ℕ) (moves : List Move) where
  abbrev pub counted : List Move
  counted = take count moves

  -- 13, "before all others"; then 1, "before any axis is looked at"; then the axes.
  abbrev pub axes_checks : List (Check (ℕ × ℕ))
  axes_checks =
      with_place 0 (check 13 (eqb count 0 || ltb most_axes count))
      ∷ with_place 0 (check 1 (all_at_rest counted))
      ∷ checks_from 1 counted

  -- The common N, or the refusal.
  unfoldable pub axes_result : Result ℕ (ℕ × ℕ)
  axes_result = first_refusal axes_checks (Ok (common_samples counted))

  -- Eight places: a row for each axis of the set, and zeros in the others; zeros in all at a refusal.
  abbrev pub axes_places : {O A : Type 0} (zeros : A) (row : Move → A) → Result O (ℕ × ℕ) → List A
  axes_places zeros row (Err x) = replicate most_axes zeros
  axes_places zeros row (Ok x) = padded most_axes zeros (map row counted)

  -- What the planner of a set promises of the outcome of its answer, and of the plans beside it.
  pub record PlansAxes (o : Result ℕ (ℕ × ℕ)) (plans : List Plan) : Type 0 where
    pub outcome_is : o ≡ axes_result
    pub plans_are : plans ≡ axes_places rest_plan (λ m. axis_plan m (common_samples counted)) axes_result

-- Every field of every case is read.
abbrev pub axes_outcome : Result AxesPlan (AxisRefusal Refusal) → Result ℕ (ℕ × ℕ)
axes_outcome (Ok x) = Ok x.samples
axes_outcome (Err x) = Err (number x.refusal, x.place)

-- The plans of an answer: none at a refusal, so zeros in all places.
abbrev pub axes_plans : Result AxesPlan (AxisRefusal Refusal) → List Plan
axes_plans (Ok x) = x.plans
axes_plans (Err x) = replicate most_axes rest_plan
