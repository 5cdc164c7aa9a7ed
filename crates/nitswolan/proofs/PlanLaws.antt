-- The plans of either order in their structs: when one holds a plan, and that N is then in `samples` and at most 4,096.
use mathlib.Core.List.{List}
use mathlib.Core.Logic.Iff
use mathlib.Core.Logic.{◌↔◌}
use mathlib.Core.Path.{◌≡◌, refl, sym, ◌∙◌}
use Prim.Native.Nat.{ℕ, ◌≤◌}
use lib.IntN.{ℤ}
use Rattle.planner.specs.Refusals.{Each}
use Rattle.std.specs.Prelude.{Result, Ok, Err, IfOk}
use Rattle.planner.specs.Outcome.{samples_of, outcome, Plans}
use Rattle.planner.specs.Claims.{Accepted}
use Rattle.planner.specs.Third.{third_samples_of, PlansThird}
use Rattle.planner.specs.ThirdClaims.{ThirdAccepted}
use Rattle.planner.specs.declared.Move.{Move}
use Rattle.planner.specs.declared.Plan.{Plan}
use Rattle.planner.specs.declared.Refusal.{Refusal}
use Rattle.planner.specs.declared.ThirdPlan.{ThirdPlan}
use Rattle.planner.proofs.Acceptance.{acceptance, accepted_passes, third_acceptance, third_passes}
use Rattle.planner.proofs.PlannedFacts.{planned_facts}
use Rattle.planner.proofs.RefusalLaws.{Passes}
use Rattle.planner.proofs.RuleRefusals.{refused_most, third_not_six}
use Rattle.planner.proofs.ThirdTheorems.{third_facts}
use Rattle.motion.specs.Demand3.{Demand3For, Demand3, ThirdDemand3}
use Rattle.motion.specs.Sampling.{Motion, fourth_order, third_order}
use Rattle.motion.specs.declared.Sample.{Sample}
use Rattle.motion.proofs.Demand3.{demand_3, third_demand_3}
use Rattle.motion.proofs.EntryLaws.{within_range, fourth_planned, third_within_range, third_planned}
use Rattle.nitswolan.specs.Fields.{Answers, plan_fields, third_plan_fields}
use Rattle.nitswolan.specs.Claims.{AcceptedClaim}
use Rattle.motion.specs.Inner.Planned.{PlanInRange, ThirdPlanInRange}
use Rattle.nitswolan.specs.declared.plan.PlanResult.{PlanResult}
use Rattle.nitswolan.specs.declared.third.ThirdPlanResult.{ThirdPlanResult}
use Rattle.nitswolan.proofs.StructLaws.{field_zero, field_given}

pub plan_in_range : {m : Move} (r : Result Plan Refusal) → Plans m (outcome r) → IfOk r PlanInRange
plan_in_range (Ok x) h = within_range (planned_facts h)
plan_in_range (Err x) h = tt

pub third_plan_in_range : {m : Move} (r : Result ThirdPlan Refusal) → PlansThird m (outcome r) → IfOk r ThirdPlanInRange
third_plan_in_range (Ok x) h = third_within_range (third_facts h)
third_plan_in_range (Err x) h = tt

-- no refusal has the number 0
pub from_one : {m : Move} (o : Result Plan ℕ) → Plans m o → (n : ℕ) → o ≡ Err n → 1 ≤ n
from_one {m} o h n q = (refused_most m n (sym h.outcome_is ∙ q)).0

pub third_from_one : {m : Move} (o : Result ThirdPlan ℕ) → PlansThird m o → (n : ℕ) → o ≡ Err n → 1 ≤ n
third_from_one {m} o h n q = (third_not_six m n (sym h.outcome_is ∙ q)).0

-- an order as a caller meets it: the struct R of its plans with the refusal and N, their promise, acceptance, the motion and demand 3; and
-- what the theorems for a caller need of it
pub record CallerOrder (R : Type 0) : Type 1 where
  pub refusal : R → ℕ
  pub samples : R → ℕ
  pub Promise : Move → R → Type 0
  pub Accepts : Move → Type 0
  pub order : Move → Motion
  pub Demand : Move → (ℕ → Result Sample ℕ) → List ℤ → Type 0
  pub accepts : (m : Move) (plan : R) → Promise m plan → (refusal plan ≡ 0) ↔ Accepts m
  pub samples_are : (m : Move) (plan : R) → Promise m plan → refusal plan ≡ 0 → samples plan ≡ (order m).samples
  pub passes : (m : Move) → Accepts m → Each Passes (order m).plan_checks
  pub demand : Demand3For Accepts order Demand

abbrev pub fourth : CallerOrder PlanResult
fourth =
    record {
      refusal = λ r. r.refusal;
      samples = λ r. r.samples;
      Promise = λ m. Answers plan_fields (Plans m);
      Accepts = Accepted;
      order = fourth_order;
      Demand = Demand3;
      accepts = λ m x h.
          Iff.trans (field_zero plan_fields (λ (r : PlanResult). r.refusal) (λ n. refl) (λ x. refl) from_one h)
          (acceptance m h.outcome h.promised);
      samples_are = λ m x h.
          field_given plan_fields (λ (r : PlanResult). r.refusal) (λ n. refl) (λ x. refl) from_one h (λ (r : PlanResult). r.samples)
          (samples_of m) (λ x p. (fourth_planned (planned_facts p)).samples_are);
      passes = accepted_passes;
      demand = demand_3;
    }

abbrev pub third : CallerOrder ThirdPlanResult
third =
    record {
      refusal = λ r. r.refusal;
      samples = λ r. r.samples;
      Promise = λ m. Answers third_plan_fields (PlansThird m);
      Accepts = ThirdAccepted;
      order = third_order;
      Demand = ThirdDemand3;
      accepts = λ m x h.
          Iff.trans (field_zero third_plan_fields (λ (r : ThirdPlanResult). r.refusal) (λ n. refl) (λ x. refl) third_from_one h)
          (third_acceptance m h.outcome h.promised);
      samples_are = λ m x h.
          field_given third_plan_fields (λ (r : ThirdPlanResult). r.refusal) (λ n. refl) (λ x. refl) third_from_one h
          (λ (r : ThirdPlanResult). r.samples) (third_samples_of m) (λ x p. (third_planned (third_facts p)).samples_are);
      passes = third_passes;
      demand = third_demand_3;
    }

pub accepted_claim : AcceptedClaim
accepted_claim = record { fourth = fourth.accepts; third = third.accepts }
