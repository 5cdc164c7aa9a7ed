-- What the promises of the C entries come to for their caller, over any answers that meet them.
use Rattle.std.specs.Prelude.{List, ◌↔◌, ◌≡◌, ℕ, ◌+◌, ◌≤◌, ◌<◌, ℤ, length, Result}
use Rattle.planner.specs.Outcome.{samples_of, Plans}
use Rattle.planner.specs.Claims.{Accepted}
use Rattle.planner.specs.Third.{PlansThird}
use Rattle.planner.specs.ThirdClaims.{ThirdAccepted}
use Rattle.planner.specs.declared.Move.{Move}
use Rattle.motion.specs.Demand3.{Demand3, ThirdDemand3}
use Rattle.motion.specs.Sampling.{Motion, fourth_order, third_order, Samples}
use Rattle.motion.specs.Tables.{FillsPositions, FillsReference, FillsForce}
use Rattle.motion.specs.Answer.{machine_of}
use Rattle.motion.specs.Claims.{TablePromise, Only, TableReason, ForceReason}
use Rattle.motion.specs.declared.Machine.{Machine}
use Rattle.motion.specs.declared.Sample.{Sample}
use Rattle.route_sheet.specs.Answer.{ReadsSheet}
use Rattle.nitswolan.specs.Fields.{Answers, plan_fields, third_plan_fields, sample_fields, table_fields, sheet_fields}
use Rattle.nitswolan.specs.declared.plan.PlanResult.{PlanResult}
use Rattle.nitswolan.specs.declared.sample.SampleResult.{SampleResult}
use Rattle.nitswolan.specs.declared.table.TableResult.{TableResult}
use Rattle.nitswolan.specs.declared.sheet.SheetResult.{SheetResult}
use Rattle.nitswolan.specs.declared.third.ThirdPlanResult.{ThirdPlanResult}

-- Demand 2: the plan's refusal is 0 if and only if the move is accepted.
pub record AcceptedClaim : Type 0 where
  pub fourth : (m : Move) (plan : PlanResult) → Answers plan_fields (Plans m) plan → (plan.refusal ≡ 0) ↔ Accepted m
  pub third : (m : Move) (plan : ThirdPlanResult) → Answers third_plan_fields (PlansThird m) plan → (plan.refusal ≡ 0) ↔ ThirdAccepted m

-- Demand 1: each promise leaves one answer, in every field, and one table at exit. A report's promise is the library's own.
abbrev pub CallerOneFilling : {A : Type 0} → TablePromise A → Type 0
CallerOneFilling {A} Promise =
    (old new new' : List A) (x y : TableResult)
    → Answers table_fields (λ o. Promise old o new) x
    → Answers table_fields (λ o. Promise old o new') y
    → (x ≡ y) × (new ≡ new')

pub record OneStruct (x : Motion) : Type 0 where
  pub sample : (k : ℕ) (y z : SampleResult) → Answers sample_fields (Samples x k) y → Answers sample_fields (Samples x k) z → y ≡ z
  pub positions : CallerOneFilling (FillsPositions x)
  pub reference : CallerOneFilling (FillsReference x)

pub record OneAnswerClaim : Type 0 where
  pub plan : (m : Move) (x y : PlanResult) → Answers plan_fields (Plans m) x → Answers plan_fields (Plans m) y → x ≡ y
  pub third_plan :
      (m : Move) (x y : ThirdPlanResult) → Answers third_plan_fields (PlansThird m) x → Answers third_plan_fields (PlansThird m) y → x ≡ y
  pub either_order : (x : Motion) → OneStruct x
  pub force : (m : Move) (machine : Machine) → CallerOneFilling (FillsForce m (machine_of machine))
  pub sheet : (text : List ℕ) (x y : SheetResult) → Answers sheet_fields (ReadsSheet text) x → Answers sheet_fields (ReadsSheet text) y → x ≡ y

-- What is at hand where a move of N samples was planned, asked for at each of them, and filled into a table. `samples` is the plan's field,
-- and Demand is demand 3 of the move.
pub record CallerFacts
    (N samples : ℕ) (Demand : (ℕ → Result Sample ℕ) → List ℤ → Type 0)
    (sample : ℕ → SampleResult) (filled : TableResult) (table : List ℤ) : Type 0 where
  pub samples_are : samples ≡ N
  pub sampled : (k : ℕ) → k ≤ samples → (sample k).refusal ≡ 0
  pub not_refused : filled.refusal ≡ 0
  pub rows_are : filled.rows ≡ samples + 1
  -- The outcomes that fill the structs of the samples.
  pub outcome : ℕ → Result Sample ℕ
  pub filled_by_outcome : (k : ℕ) → k ≤ samples → sample k ≡ sample_fields (outcome k)
  pub demand_3 : Demand outcome table

-- A caller that sees no refusal of the plan and lends more places than its samples gets no other refusal, and demand 3. In one order, whose
-- plan's struct is R.
abbrev pub CallerFor :
    {R : Type 0} (refusal samples : R → ℕ) (Promise : Move → R → Type 0) (order : Move → Motion)
    (Demand : Move → (ℕ → Result Sample ℕ) → List ℤ → Type 0) → Type 0
CallerFor {R} refusal samples Promise order Demand =
    (m : Move) (plan : R)
    → Promise m plan
    → refusal plan ≡ 0
    → (sample : ℕ → SampleResult)
    → ((k : ℕ) → k ≤ samples plan → Answers sample_fields (Samples (order m) k) (sample k))
    → (old new : List ℤ) (filled : TableResult)
    → samples plan < length old
    → Answers table_fields (λ o. FillsPositions (order m) old o new) filled
    → CallerFacts (order m).samples (samples plan) (Demand m) sample filled new

pub record CallerClaim : Type 0 where
  pub fourth : CallerFor (λ (r : PlanResult). r.refusal) (λ r. r.samples) (λ m. Answers plan_fields (Plans m)) fourth_order Demand3
  pub third :
      CallerFor (λ (r : ThirdPlanResult). r.refusal) (λ r. r.samples) (λ m. Answers third_plan_fields (PlansThird m)) third_order ThirdDemand3

-- Demand 2, "A call with an accepted move may still be refused, but only for the rest of what it sends": the field `refusal` has a number
-- above 0 exactly where there is this reason for it.
abbrev pub FieldRefusedBy : ℕ → (Reason : ℕ → Type 0) → Type 0
FieldRefusedBy refusal Reason = (n : ℕ) → 0 < n → (refusal ≡ n) ↔ Reason n

abbrev pub CallerTableRefusals : {A : Type 0} → TablePromise A → (Reason : (places : ℕ) → ℕ → Type 0) → Type 0
CallerTableRefusals {A} Promise Reason =
    (old new : List A) (r : TableResult) → Answers table_fields (λ o. Promise old o new) r → FieldRefusedBy r.refusal (Reason (length old))

pub record CallerRefusals (x : Motion) : Type 0 where
  pub sample : (k : ℕ) (r : SampleResult) → Answers sample_fields (Samples x k) r → FieldRefusedBy r.refusal (Only 9 (x.samples < k))
  pub positions : CallerTableRefusals (FillsPositions x) (TableReason (x.samples + 1))
  pub reference : CallerTableRefusals (FillsReference x) (TableReason (x.samples + 2))

pub record CallerRefusalsClaim : Type 0 where
  pub fourth : (m : Move) → Accepted m → CallerRefusals (fourth_order m)
  pub force :
      (m : Move) → Accepted m
      → (machine : Machine) → CallerTableRefusals (FillsForce m (machine_of machine)) (ForceReason (machine_of machine) (samples_of m + 2))
  pub third : (m : Move) → ThirdAccepted m → CallerRefusals (third_order m)

-- Demand 1, "A refusal writes no place of any lent table".
abbrev pub CallerUntouched : {A : Type 0} → TablePromise A → Type 0
CallerUntouched {A} Promise = (old new : List A) (r : TableResult) → Answers table_fields (λ o. Promise old o new) r → 0 < r.refusal → new ≡ old

pub record CallerUntouchedClaim : Type 0 where
  pub positions : (x : Motion) → CallerUntouched (FillsPositions x)
  pub reference : (x : Motion) → CallerUntouched (FillsReference x)
  pub force : (m : Move) (machine : Machine) → CallerUntouched (FillsForce m (machine_of machine))
