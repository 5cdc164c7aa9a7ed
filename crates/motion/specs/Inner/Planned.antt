-- What the functions below the entries need of a plan, and what they give.
use Rattle.std.specs.Prelude.{List, [], ◌∷◌, ◌++◌, ◌≡◌, ℕ, ◌*◌, ◌^◌, ◌≤◌, ltb, ℤ, length, drop, Float, Result, Ok}
use Rattle.planner.specs.Intervals.{Intervals, N, P}
use Rattle.planner.specs.Refusals.{Check, check, first_refusal}
use Rattle.planner.specs.Outcome.{most_samples, intervals_in}
use Rattle.planner.specs.Inner.Facts.{Ordered}
use Rattle.planner.specs.Third.{ThirdIntervals, N₃, P₃, third_intervals_in}
use Rattle.planner.specs.Inner.ThirdFacts.{ThirdOrdered}
use Rattle.planner.specs.declared.Plan.{Plan}
use Rattle.planner.specs.declared.ThirdPlan.{ThirdPlan}
use Rattle.motion.specs.Sampling.{Values, values_at, third_values_at, position_from, sample_of, Rounding}
use Rattle.motion.specs.Tables.{rows_from, table_of}
use Rattle.motion.specs.ForceRows.Machine.{Machine, machine_as_read}
use Rattle.motion.specs.ForceRows.Doubled.{Doubled, doubled_values}
use Rattle.motion.specs.ForceRows.Force.{force_row}
use Rattle.motion.specs.declared.Sample.{Sample}
use Rattle.motion.specs.declared.one_sample.Derivatives.{Derivatives}

-- The widths of the intervals around a, the outermost first; in the third order around b.
abbrev pub widths_of : Intervals → List ℕ
widths_of t = t.e ∷ t.c ∷ t.b ∷ []

abbrev pub third_widths_of : ThirdIntervals → List ℕ
third_widths_of t = t.e ∷ t.c ∷ []

-- The intervals follow each other, and the way from the first to the last sample fits, as does the velocity.
pub record WithinRange (t : Intervals) (D : ℕ) : Type 0 where
  pub ordered : Ordered t
  pub samples : N t ≤ most_samples
  pub reach : D * P t ≤ 2 ^ 60
  pub speed : D * (t.a * t.b * t.c) ≤ 2 ^ 50

pub record ThirdWithinRange (t : ThirdIntervals) (D : ℕ) : Type 0 where
  pub ordered : ThirdOrdered t
  pub samples : N₃ t ≤ most_samples
  pub reach : D * P₃ t ≤ 2 ^ 60

-- The five values v from this start, with a rounding of their distance.
pub record IsSampleOf (start : ℤ) (v : Values) (r : Sample) : Type 0 where
  pub rounding : Rounding v.position
  pub sample_is : r ≡ sample_of start v rounding

-- The values that the code has of a sample.
abbrev pub values_in : Derivatives → Values
values_in x =
    record { snap = x.snap; jerk = x.jerk; acceleration = x.acceleration; velocity = x.velocity; position = x.distance }

module _ (X : ℤ) (t : Intervals) (D : ℕ) where
  -- The snap as a function of the sample.
  abbrev pub directed_snap : ℕ → ℤ
  directed_snap k = (values_at X t D k).snap

  abbrev pub directed_position : ℕ → ℤ
  directed_position k = (values_at X t D k).position

  -- The five values at sample k from this start, and the distance rounded.
  abbrev pub IsSample : (start : ℤ) (k : ℕ) (r : Sample) → Type 0
  IsSample start k r = IsSampleOf start (values_at X t D k) r

  -- The doubled numbers of a plan's rows.
  abbrev pub planned_numbers : ℕ → Doubled ℤ
  planned_numbers = doubled_values (N t) (values_at X t D)

  abbrev pub planned_force : Machine Float → ℕ → Float
  planned_force machine = force_row (machine_as_read machine) planned_numbers

-- The table holds so many rows and keeps every later place.
pub record RowsIn {A : Type 0} (rows : ℕ) (row : ℕ → A) (old new : List A) : Type 0 where
  pub table_is : new ≡ rows_from row 0 rows ++ drop rows old

-- The same where the table has room for the rows, else refusal 8; and the entry's own refusals.
pub record WritesRows {A : Type 0} (own : List (Check ℕ)) (rows : ℕ) (row : ℕ → A) (old : List A) (o : Result ℕ ℕ) (new : List A) : Type 0 where
  pub outcome_is : o ≡ first_refusal (check 8 (ltb (length old) rows) ∷ own) (Ok rows)
  pub table_is : new ≡ table_of o (rows_from row 0 rows) old

-- The same of a plan as the code has it.
abbrev pub PlanInRange : Plan → Type 0
PlanInRange x = WithinRange (intervals_in x) x.snap

abbrev pub samples_in : Plan → ℕ
samples_in x = N (intervals_in x)

abbrev pub fourth_values_in : ℤ → Plan → ℕ → Values
fourth_values_in X x = values_at X (intervals_in x) x.snap

-- The same of a third-order plan.
abbrev pub ThirdPlanInRange : ThirdPlan → Type 0
ThirdPlanInRange x = ThirdWithinRange (third_intervals_in x) x.jerk

abbrev pub third_samples_in : ThirdPlan → ℕ
third_samples_in x = N₃ (third_intervals_in x)

abbrev pub third_values_in : ℤ → ThirdPlan → ℕ → Values
third_values_in X x = third_values_at X (third_intervals_in x) x.jerk

-- The positions of these values from this start.
abbrev pub positions_from : (start : ℤ) (values : ℕ → Values) → ℕ → ℤ
positions_from start values k = position_from start (values k).position
