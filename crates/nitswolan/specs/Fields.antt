-- The structs of the C interface: how an outcome of the library's entry fills each, field by field.
use Rattle.std.specs.Prelude.{List, ◌≡◌, ℕ, pos, Result, Ok, Err, replicate}
use Rattle.planner.specs.Intervals.{N}
use Rattle.planner.specs.Outcome.{intervals_in}
use Rattle.planner.specs.Axes.{PlansAxes}
use Rattle.planner.specs.Third.{third_intervals_in, N₃}
use Rattle.planner.specs.declared.Plan.{Plan}
use Rattle.planner.specs.declared.ThirdPlan.{ThirdPlan}
use Rattle.motion.specs.Axes.{rest_sample, SamplesAxes}
use Rattle.motion.specs.declared.Sample.{Sample}
use Rattle.route_sheet.specs.Sheet.{most_sets, most_moves}
use Rattle.route_sheet.specs.Answer.{number_and_line, zero_set, zero_move}
use Rattle.route_sheet.specs.declared.SheetRefusal.{SheetRefusal}
use Rattle.route_sheet.specs.declared.SheetReading.{SheetReading}
use Rattle.nitswolan.specs.declared.axes.Axes.{Axes}
use Rattle.nitswolan.specs.declared.axes.AxesPlanResult.{AxesPlanResult}
use Rattle.nitswolan.specs.declared.axes.AxesSampleResult.{AxesSampleResult}
use Rattle.nitswolan.specs.declared.plan.PlanResult.{PlanResult}
use Rattle.nitswolan.specs.declared.sample.SampleResult.{SampleResult}
use Rattle.nitswolan.specs.declared.table.TableResult.{TableResult}
use Rattle.nitswolan.specs.declared.sheet.SheetResult.{SheetResult}
use Rattle.nitswolan.specs.declared.third.ThirdPlanResult.{ThirdPlanResult}

-- What a C entry promises: its struct r is filled by an outcome that the library's entry promises.
pub record Answers {O R : Type 0} (fields : O → R) (Promise : O → Type 0) (r : R) : Type 0 where
  pub outcome : O
  pub promised : Promise outcome
  pub fields_are : r ≡ fields outcome

-- The refusal is 0 where there is none; at a refusal every other field is 0.
abbrev pub plan_fields : Result Plan ℕ → PlanResult
plan_fields (Err number) =
    record { refusal = number; samples = 0; a = 0; b = 0; c = 0; e = 0; snap = 0; shortfall = 0 }
plan_fields (Ok x) =
    record {
      refusal = 0;
      samples = N (intervals_in x);
      a = x.a;
      b = x.b;
      c = x.c;
      e = x.e;
      snap = x.snap;
      shortfall = x.shortfall;
    }

abbrev pub third_plan_fields : Result ThirdPlan ℕ → ThirdPlanResult
third_plan_fields (Err number) = record { refusal = number; samples = 0; b = 0; c = 0; e = 0; jerk = 0; shortfall = 0 }
third_plan_fields (Ok x) =
    record {
      refusal = 0;
      samples = N₃ (third_intervals_in x);
      b = x.b;
      c = x.c;
      e = x.e;
      jerk = x.jerk;
      shortfall = x.shortfall;
    }

abbrev pub sample_fields_of : (refusal : ℕ) → Sample → SampleResult
sample_fields_of refusal x =
    record {
      refusal = refusal;
      snap = x.snap;
      jerk = x.jerk;
      acceleration = x.acceleration;
      velocity = x.velocity;
      position = x.position;
      count = x.count;
      remainder = x.remainder;
    }

-- The zeros at a refusal are those of a sample at rest at 0.
abbrev pub sample_fields : Result Sample ℕ → SampleResult
sample_fields (Err number) = sample_fields_of number (rest_sample (pos 0))
sample_fields (Ok x) = sample_fields_of 0 x

-- What the entries of a set promise of their answer and of the eight places beside it.
abbrev pub PlansSet : Axes → Result ℕ (ℕ × ℕ) × List Plan → Type 0
PlansSet x o = PlansAxes x.count x.moves o.0 o.1

abbrev pub SamplesSet : Axes → (k : ℕ) → Result (Unit {0}) (ℕ × ℕ) × List Sample → Type 0
SamplesSet x k o = SamplesAxes x.count x.moves k o.0 o.1

-- The answer of a set, and the eight places beside it. The place of a refused axis stands in `place`.
abbrev pub axes_plan_fields : Result ℕ (ℕ × ℕ) × List Plan → AxesPlanResult
axes_plan_fields (Err (number, place), plans) = record { refusal = number; place = place; samples = 0; plans = plans }
axes_plan_fields (Ok samples, plans) = record { refusal = 0; place = 0; samples = samples; plans = plans }

abbrev pub axes_sample_fields : Result (Unit {0}) (ℕ × ℕ) × List Sample → AxesSampleResult
axes_sample_fields (Err (number, place), values) = record { refusal = number; place = place; values = values }
axes_sample_fields (Ok x, values) = record { refusal = 0; place = 0; values = values }

abbrev pub table_fields : Result ℕ ℕ → TableResult
table_fields (Err number) = record { refusal = number; rows = 0 }
table_fields (Ok rows) = record { refusal = 0; rows = rows }

-- At 11 its line stands in `line`.
abbrev pub sheet_fields : Result SheetReading SheetRefusal → SheetResult
sheet_fields (Ok r) =
    record { refusal = 0; line = 0; set_count = r.set_count; move_count = r.move_count; sets = r.sets; moves = r.moves }
sheet_fields (Err x) =
    record {
      refusal = (number_and_line x).0;
      line = (number_and_line x).1;
      set_count = 0;
      move_count = 0;
      sets = replicate most_sets zero_set;
      moves = replicate most_moves zero_move;
    }
