-- What `caller_facts` assumes can be met: the structs that the rules' own answers fill meet the promises, for every accepted move.
use mathlib.Core.Path.{refl}
use native.Mathlib.Omega.{arith}
use Rattle.planner.specs.Outcome.{outcome_of, Plans}
use Rattle.planner.specs.Claims.{mirrored}
use Rattle.planner.specs.Third.{third_outcome_of, PlansThird}
use Rattle.planner.specs.declared.Move.{Move}
use Rattle.planner.proofs.Mirror.{mirror, third_mirror}
use Rattle.planner.proofs.StarredMoves.{first_starred, first_accepted, first_third_accepted}
use Rattle.motion.specs.Sampling.{Motion}
use Rattle.motion.proofs.SamplingLaws.{rule_sample, rule_samples_lem}
use Rattle.motion.proofs.RuleAnswers.{rule_positions, zeros, positions, positions_fill, room}
use Rattle.nitswolan.specs.Fields.{Answers, plan_fields, third_plan_fields, sample_fields, table_fields}
use Rattle.nitswolan.specs.Claims.{CallerFacts}
use Rattle.nitswolan.proofs.StructLaws.{filled_by}
use Rattle.nitswolan.proofs.PlanLaws.{CallerOrder, fourth, third}
use Rattle.nitswolan.proofs.CallerTheorems.{caller_by}

-- the facts of the rule's own samples and table
abbrev FactsOfRule : {R : Type 0} → CallerOrder R → (m : Move) (plan : R) → Type 0
FactsOfRule p m plan =
    let x : Motion = p.order m in
    CallerFacts x.samples (p.samples plan) (p.Demand m) (λ k. sample_fields (rule_sample x k)) (table_fields (rule_positions x)) (positions x)

pub rule_caller_facts : {R : Type 0} (p : CallerOrder R) (m : Move) (plan : R) → p.Promise m plan → p.Accepts m → FactsOfRule p m plan
rule_caller_facts p m plan h a =
    let x : Motion = p.order m in
    let r = (p.accepts m plan h).1 a in
    caller_by p m plan h r (λ k. sample_fields (rule_sample x k)) (λ k l. filled_by sample_fields (rule_samples_lem x k refl)) (zeros x)
    (positions x) (table_fields (rule_positions x)) (omega (arith, p.samples_are m plan h r, room x)) (filled_by table_fields (positions_fill x))

rule_plans_lem : (m : Move) → Answers plan_fields (Plans m) (plan_fields (outcome_of m))
rule_plans_lem m = filled_by plan_fields (record { outcome_is = refl })

rule_plans_third : (m : Move) → Answers third_plan_fields (PlansThird m) (third_plan_fields (third_outcome_of m))
rule_plans_third m = filled_by third_plan_fields (record { outcome_is = refl })

-- closed instances, forward and backward: the first of document 01's moves, and its mirror, in either order
pub caller_facts_forward : FactsOfRule fourth first_starred (plan_fields (outcome_of first_starred))
caller_facts_forward = rule_caller_facts fourth first_starred _ (rule_plans_lem first_starred) first_accepted

pub caller_facts_backward : FactsOfRule fourth (mirrored first_starred) (plan_fields (outcome_of (mirrored first_starred)))
caller_facts_backward =
    rule_caller_facts fourth (mirrored first_starred) _ (rule_plans_lem (mirrored first_starred)) ((mirror first_starred).0 first_accepted)

pub third_caller_facts_forward : FactsOfRule third first_starred (third_plan_fields (third_outcome_of first_starred))
third_caller_facts_forward = rule_caller_facts third first_starred _ (rule_plans_third first_starred) first_third_accepted

pub third_caller_facts_backward : FactsOfRule third (mirrored first_starred) (third_plan_fields (third_outcome_of (mirrored first_starred)))
third_caller_facts_backward =
    rule_caller_facts third (mirrored first_starred) _ (rule_plans_third (mirrored first_starred))
    ((third_mirror first_starred).0 first_third_accepted)
