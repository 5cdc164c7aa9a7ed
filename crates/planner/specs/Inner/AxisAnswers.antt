-- The answers of the private functions of a set, and what they need.
use Rattle.std.specs.Prelude.{false, cond, List, map, ◌≡◌, ℕ, ◌≤◌, eqb, length, Result, Ok, Err}
use Rattle.planner.specs.Intervals.{N}
use Rattle.planner.specs.Refusals.{first_refusal, Each, padded}
use Rattle.planner.specs.Outcome.{most_samples, distance_of, intervals_of, intervals_in, plan_of}
use Rattle.planner.specs.Axes.{most_axes, rest_plan, raised, at_rest, axis_checks, common_samples, checks_from, axes_outcome}
use Rattle.planner.specs.Inner.Facts.{Ordered}
use Rattle.planner.specs.Inner.Undivided.{undivided}
use Rattle.planner.specs.declared.Move.{Move}
use Rattle.planner.specs.declared.Plan.{Plan}
use Rattle.planner.specs.declared.AxesPlan.{AxesPlan}
use Rattle.planner.specs.declared.AxisRefusal.{AxisRefusal}
use Rattle.planner.specs.declared.Refusal.{Refusal}

-- An axis by itself, with D still to be found, or its own refusal.
abbrev pub undivided_axis : Move → Plan
undivided_axis m = cond (at_rest m) rest_plan (undivided (distance_of m) (intervals_of m))

unfoldable pub axis_result : Move → Result Plan ℕ
axis_result m = first_refusal (axis_checks m) (Ok (undivided_axis m))

abbrev pub each_places : List Move → List Plan
each_places axes = padded most_axes rest_plan (map undivided_axis axes)

-- Where nothing is refused the places hold the axes.
abbrev pub EachPlaced : List Move → Result AxesPlan (AxisRefusal Refusal) → Type 0
EachPlaced axes (Ok x) = x.plans ≡ each_places axes
EachPlaced axes (Err x) = Unit {0}

pub record FindsEach (axes : List Move) (r : Result AxesPlan (AxisRefusal Refusal)) : Type 0 where
  pub outcome_is : axes_outcome r ≡ first_refusal (checks_from 1 axes) (Ok (common_samples axes))
  pub placed : EachPlaced axes r

-- The axis at the common duration n. One at rest has no intervals.
abbrev pub raised_plan : (n : ℕ) → Plan → Plan
raised_plan n x = cond (eqb x.a 0) x (plan_of x.shortfall (raised n (intervals_in x)))

pub record Raisable (n : ℕ) (x : Plan) : Type 0 where
  pub ordered : eqb x.a 0 ≡ false → Ordered (intervals_in x)
  pub not_longer : N (intervals_in x) ≤ n
  pub samples : n ≤ most_samples

pub record EachRaisable (n : ℕ) (xs : List Plan) : Type 0 where
  pub places : length xs ≡ most_axes
  pub each : Each (Raisable n) xs
