-- Each promise leaves one answer, in every field.
use mathlib.Core.List.{List}
use mathlib.Core.Path.{◌≡◌, sym, ◌∙◌}
use Prim.Native.Nat.{ℕ}
use Rattle.planner.specs.Refusals.{Check}
use Rattle.planner.specs.Outcome.{Plans}
use Rattle.planner.specs.Third.{PlansThird}
use Rattle.planner.specs.declared.Move.{Move}
use Rattle.motion.specs.Sampling.{Motion, Samples}
use Rattle.motion.specs.Tables.{Fills, FillsPositions, FillsReference, FillsForce}
use Rattle.motion.proofs.AnswerLaws.{one_sample_outcome, one_table_outcome}
use Rattle.route_sheet.specs.Answer.{ReadsSheet}
use Rattle.route_sheet.proofs.AnswerLaws.{one_reading}
use Rattle.motion.proofs.AxesTheorems.{same_places}
use Rattle.nitswolan.specs.Fields.{Answers, PlansSet, SamplesSet, axes_plan_fields, axes_sample_fields, plan_fields, third_plan_fields, sample_fields, table_fields, sheet_fields}
use Rattle.nitswolan.specs.Claims.{OneStruct, OneAnswerClaim}
use Rattle.nitswolan.specs.AxesClaims.{OneAxesStructClaim}
use Rattle.nitswolan.specs.declared.axes.Axes.{Axes}
use Rattle.nitswolan.specs.declared.axes.AxesPlanResult.{AxesPlanResult}
use Rattle.nitswolan.specs.declared.axes.AxesSampleResult.{AxesSampleResult}
use Rattle.nitswolan.specs.declared.plan.PlanResult.{PlanResult}
use Rattle.nitswolan.specs.declared.sample.SampleResult.{SampleResult}
use Rattle.nitswolan.specs.declared.table.TableResult.{TableResult}
use Rattle.nitswolan.specs.declared.sheet.SheetResult.{SheetResult}
use Rattle.nitswolan.specs.declared.third.ThirdPlanResult.{ThirdPlanResult}
use Rattle.nitswolan.proofs.StructLaws.{same_struct}

one_plan : {m : Move} {x y : PlanResult} → Answers plan_fields (Plans m) x → Answers plan_fields (Plans m) y → x ≡ y
one_plan h l = same_struct h l (h.promised.outcome_is ∙ sym l.promised.outcome_is)

one_third_plan :
    {m : Move} {x y : ThirdPlanResult} → Answers third_plan_fields (PlansThird m) x → Answers third_plan_fields (PlansThird m) y → x ≡ y
one_third_plan h l = same_struct h l (h.promised.outcome_is ∙ sym l.promised.outcome_is)

one_sample : {x : Motion} {k : ℕ} {y z : SampleResult} → Answers sample_fields (Samples x k) y → Answers sample_fields (Samples x k) z → y ≡ z
one_sample h l = same_struct h l (one_sample_outcome h.promised l.promised)

-- for all three tables
one_table :
    {A : Type 0} {x : Motion} {rows : ℕ} {own : List (Check ℕ)} {row : ℕ → A} {old new new' : List A} {y z : TableResult}
    → Answers table_fields (λ o. Fills x own rows row old o new) y
    → Answers table_fields (λ o. Fills x own rows row old o new') z
    → (y ≡ z) × (new ≡ new')
one_table h l = let same = one_table_outcome h.promised l.promised in (same_struct h l same.0, same.1)

one_set_plan : {axes : Axes} {x y : AxesPlanResult} → Answers axes_plan_fields (PlansSet axes) x
    → Answers axes_plan_fields (PlansSet axes) y → x ≡ y
one_set_plan h l =
    same_struct h l
    (λ i. (
      (h.promised.outcome_is ∙ sym l.promised.outcome_is) i,
      (h.promised.plans_are ∙ sym l.promised.plans_are) i,
    ))

one_set_sample :
    {axes : Axes} {k : ℕ} {x y : AxesSampleResult}
    → Answers axes_sample_fields (SamplesSet axes k) x → Answers axes_sample_fields (SamplesSet axes k) y → x ≡ y
one_set_sample h l =
    same_struct h l
    (λ i. (
      (h.promised.outcome_is ∙ sym l.promised.outcome_is) i,
      same_places h.promised.placed l.promised.placed i,
    ))

pub one_axes_struct : (axes : Axes) → OneAxesStructClaim axes
one_axes_struct axes = record { plan = λ x y. one_set_plan; sample = λ k x y. one_set_sample }

one_sheet : {text : List ℕ} {x y : SheetResult} → Answers sheet_fields (ReadsSheet text) x → Answers sheet_fields (ReadsSheet text) y → x ≡ y
one_sheet {text} h l = same_struct h l (one_reading text h.outcome l.outcome h.promised l.promised)

one_struct_of : (x : Motion) → OneStruct x
unfolding FillsPositions FillsReference
one_struct_of x =
    record {
      sample = λ k y z. one_sample;
      positions = λ old new new' y z. one_table;
      reference = λ old new new' y z. one_table;
    }

pub one_struct : OneAnswerClaim
unfolding FillsForce
one_struct =
    record {
      plan = λ m x y. one_plan;
      third_plan = λ m x y. one_third_plan;
      either_order = one_struct_of;
      force = λ m machine old new new' x y. one_table;
      sheet = λ text x y. one_sheet;
    }
