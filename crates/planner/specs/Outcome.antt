-- Document 01, "Why a move or sheet is turned away", refusals 1 to 7: the outcome of a move, and the planner's answer as the paper
-- has it. Document 02, request 7: refusal 14.
use Rattle.std.specs.Prelude.{Bool, ◌||◌, List, [], ◌∷◌, ◌++◌, ◌≡◌, ℕ, ◌^◌, eqb, ltb, ℤ, nat_abs, ◌+ℤ◌, Result, Ok, Err}
use Rattle.planner.specs.Quantities.{distance}
use Rattle.planner.specs.Intervals.{Intervals, intervals_by, N, D, shortfall}
use Rattle.planner.specs.Refusals.{Check, check, first_refusal}
use Rattle.planner.specs.declared.Move.{Move}
use Rattle.planner.specs.declared.Plan.{Plan}
use Rattle.planner.specs.declared.Refusal.{Refusal}
use Rattle.planner.specs.declared.Refusal.TheVariants.{NoDisplacement, DisplacementRange, VelocityRange, AccelerationRange, JerkRange, SnapRange, TooManySamples, AxisCount, StartOrEndRange}

-- The most samples that a move may take, and the ends of what may be sent.
abbrev pub most_samples : ℕ
most_samples = 4096

abbrev pub most_counts : ℕ
most_counts = 1048576

abbrev pub most_bound : ℕ
most_bound = 2 ^ 50

-- "not in 1 to 2^50"
abbrev pub out_of_range : ℕ → Bool
out_of_range x = eqb x 0 || ltb most_bound x

-- Beyond ±1,048,576.
abbrev pub out_of_span : (count : ℤ) → Bool
out_of_span count = ltb most_counts (nat_abs count)

-- Refusals 1 and 2; 3 to 5, and 3 to 6.
abbrev pub displacement_checks : (X : ℤ) → List (Check ℕ)
displacement_checks X = check 1 (eqb (nat_abs X) 0) ∷ check 2 (out_of_span X) ∷ []

abbrev pub bound_checks_to_jerk : (V₀ A₀ J₀ : ℕ) → List (Check ℕ)
bound_checks_to_jerk V₀ A₀ J₀ = check 3 (out_of_range V₀) ∷ check 4 (out_of_range A₀) ∷ check 5 (out_of_range J₀) ∷ []

abbrev pub bound_checks : (V₀ A₀ J₀ S₀ : ℕ) → List (Check ℕ)
bound_checks V₀ A₀ J₀ S₀ = bound_checks_to_jerk V₀ A₀ J₀ ++ (check 6 (out_of_range S₀) ∷ [])

-- Refusal 14: "start or end outside the span", where the end is "start plus X".
abbrev pub ends_outside : (X start : ℤ) → Bool
ends_outside X start = out_of_span start || out_of_span (start +ℤ X)

abbrev pub span_check : (X start : ℤ) → Check ℕ
span_check X start = check 14 (ends_outside X start)

-- The plan of four intervals for the distance W; and the intervals of a plan.
abbrev pub plan_of : (W : ℕ) (t : Intervals) → Plan
plan_of W t = record { a = t.a; b = t.b; c = t.c; e = t.e; snap = D t W; shortfall = shortfall t W }

abbrev pub intervals_in : Plan → Intervals
intervals_in x = record { a = x.a; b = x.b; c = x.c; e = x.e }

module _ (m : Move) where
  -- The move's W, its intervals by the rules, and its N.
  abbrev pub distance_of : ℕ
  distance_of = distance m.displacement

  unfoldable pub intervals_of : Intervals
  intervals_of = intervals_by distance_of m.velocity m.acceleration m.jerk m.snap

  unfoldable pub samples_of : ℕ
  samples_of = N intervals_of

  -- Refusals 1 to 7, with 14 "after 6 and before 7".
  abbrev pub checks : List (Check ℕ)
  checks =
      displacement_checks m.displacement
      ++ (bound_checks m.velocity m.acceleration m.jerk m.snap
      ++ (span_check m.displacement m.start ∷ check 7 (ltb most_samples samples_of) ∷ []))

  unfoldable pub outcome_of : Result Plan ℕ
  outcome_of = first_refusal checks (Ok (plan_of distance_of intervals_of))

  -- What the planner promises of the outcome of its answer.
  pub record Plans (o : Result Plan ℕ) : Type 0 where
    pub outcome_is : o ≡ outcome_of

-- Document 01's table, column "No.", and 13 and 14 of document 02, requests 1 and 7.
abbrev pub number : Refusal → ℕ
number NoDisplacement = 1
number DisplacementRange = 2
number VelocityRange = 3
number AccelerationRange = 4
number JerkRange = 5
number SnapRange = 6
number TooManySamples = 7
number AxisCount = 13
number StartOrEndRange = 14

-- An answer of the planner as the paper has it. Every field of every case is read, so different answers have different outcomes (the theorem
-- `outcome_injective`).
abbrev pub outcome : {A : Type 0} → Result A Refusal → Result A ℕ
outcome (Ok x) = Ok x
outcome (Err x) = Err (number x)
