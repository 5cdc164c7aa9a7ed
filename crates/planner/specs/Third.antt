-- Document 02, request 3, "Third-order plans for the old drives": the three intervals, the jerk and the shortfall; the refusals; the plan.
-- The bound S on the snap is not read.
use Rattle.std.specs.Prelude.{List, [], ◌∷◌, ◌++◌, ◌≡◌, ℕ, ◌+◌, ◌-◌, ◌*◌, ◌/◌, ◌^◌, min, ltb, Result, Ok}
use Rattle.planner.specs.Least.{least}
use Rattle.planner.specs.Intervals.{c, e}
use Rattle.planner.specs.Refusals.{Check, check, first_refusal}
use Rattle.planner.specs.Outcome.{most_samples, displacement_checks, bound_checks_to_jerk, span_check, distance_of}
use Rattle.planner.specs.declared.Move.{Move}
use Rattle.planner.specs.declared.ThirdPlan.{ThirdPlan}

pub record ThirdIntervals : Type 0 where
  pub b : ℕ
  pub c : ℕ
  pub e : ℕ

module _ (W V₀ A₀ J₀ : ℕ) where
  -- "b is the smallest of least n with 2·J·n^3 ≥ W, with J·n^2 ≥ V and with J·n ≥ A"
  unfoldable pub third_interval_b : ℕ
  third_interval_b = min (least W (λ n. 2 * J₀ * n ^ 3)) (min (least V₀ (λ n. J₀ * n ^ 2)) (least A₀ (λ n. J₀ * n)))

  -- "From there c and e follow the base rules with a = 0 and J1 = J."
  abbrev pub third_intervals_by : ThirdIntervals
  third_intervals_by = record { b = third_interval_b; c = c W V₀ A₀ J₀ 0 third_interval_b; e = e W V₀ A₀ J₀ 0 third_interval_b }

module _ (t : ThirdIntervals) where
  -- "N = b+c+e, P = b·c·e"
  abbrev pub N₃ : ℕ
  N₃ = t.b + t.c + t.e

  abbrev pub P₃ : ℕ
  P₃ = t.b * t.c * t.e

  -- "the jerk is W divided by P, rounded down", and what the last position lacks of W.
  abbrev pub jerk_size : (W : ℕ) → ℕ
  jerk_size W = W / P₃

  abbrev pub third_shortfall : (W : ℕ) → ℕ
  third_shortfall W = W - jerk_size W * P₃

-- The plan of three intervals for the distance W; and the intervals of a plan.
abbrev pub third_plan_of : (W : ℕ) (t : ThirdIntervals) → ThirdPlan
third_plan_of W t = record { b = t.b; c = t.c; e = t.e; jerk = jerk_size t W; shortfall = third_shortfall t W }

abbrev pub third_intervals_in : ThirdPlan → ThirdIntervals
third_intervals_in x = record { b = x.b; c = x.c; e = x.e }

module _ (m : Move) where
  -- The move's intervals by the rules, and its N.
  unfoldable pub third_intervals_of : ThirdIntervals
  third_intervals_of = third_intervals_by (distance_of m) m.velocity m.acceleration m.jerk

  unfoldable pub third_samples_of : ℕ
  third_samples_of = N₃ third_intervals_of

  -- Refusals 1 to 5, 14 and 7: "S is not read, so refusal 6 is never given there."
  abbrev pub third_checks : List (Check ℕ)
  third_checks =
      displacement_checks m.displacement
      ++ (bound_checks_to_jerk m.velocity m.acceleration m.jerk
      ++ (span_check m.displacement m.start ∷ check 7 (ltb most_samples third_samples_of) ∷ []))

  unfoldable pub third_outcome_of : Result ThirdPlan ℕ
  third_outcome_of = first_refusal third_checks (Ok (third_plan_of (distance_of m) third_intervals_of))

  -- What the planner promises of the outcome of its answer.
  pub record PlansThird (o : Result ThirdPlan ℕ) : Type 0 where
    pub outcome_is : o ≡ third_outcome_of
