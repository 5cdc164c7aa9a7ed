-- What the promises of the C entries for a set come to for their caller.
use mathlib.Core.List.{List}
use mathlib.Core.Logic.Iff
use mathlib.Core.Logic.{◌↔◌}
use mathlib.Core.Path.{◌≡◌, refl, sym, ap, subst, ◌∙◌}
use Prim.Native.Nat.{ℕ, ◌<◌}
use native.Mathlib.Nat.{le_trans, le_of_eq}
use native.Mathlib.Omega.{arith}
use lib.ListN.{take}
use Rattle.std.specs.Prelude.{Result, Ok, Err}
use Rattle.planner.specs.Claims.{IsPlanned}
use Rattle.planner.specs.Axes.{common_samples, axes_result, PlansAxes}
use Rattle.planner.specs.declared.Plan.{Plan}
use Rattle.planner.specs.AxesClaims.{Reason}
use Rattle.planner.proofs.ResultLaws.{refused_or_given, same_refused}
use Rattle.planner.proofs.AxesLaws.{refused_from_one}
use Rattle.planner.proofs.AxesRefused.{axes_refused}
use Rattle.planner.proofs.AxesAcceptance.{axes_acceptance, accepted_axes_result, planned_common}
use Rattle.motion.specs.Axes.{axes_sample_result, SamplesAxes, SamplesPlaced}
use Rattle.motion.specs.declared.Sample.{Sample}
use Rattle.motion.proofs.AxesSampling.{result_given, result_past}
use Rattle.motion.proofs.AxesRuleAnswers.{three, three_accepted, rule_plans, rule_samples, rule_plans_axes, rule_samples_axes}
use Rattle.motion.proofs.Demand3Axes.{demand_3_axes}
use Rattle.nitswolan.specs.Fields.{Answers, PlansSet, SamplesSet, axes_plan_fields, axes_sample_fields}
use Rattle.nitswolan.specs.AxesClaims.{AxesAcceptedClaim, CallerAxesRefusedClaim, AxesSampleRefusalsClaim, CallerAxesFacts, CallerAxesClaim}
use Rattle.nitswolan.specs.declared.axes.Axes.{Axes}
use Rattle.nitswolan.specs.declared.axes.AxesPlanResult.{AxesPlanResult}
use Rattle.nitswolan.specs.declared.axes.AxesSampleResult.{AxesSampleResult}

-- a struct with refusal 0 holds a duration, and the plans as they were given
record PlannedSet (axes : Axes) (r : AxesPlanResult) : Type 0 where
  promised : PlansAxes axes.count axes.moves (Ok r.samples) r.plans
  fields_are : r ≡ axes_plan_fields (Ok r.samples, r.plans)

planned_set :
    {axes : Axes} (o : Result ℕ (ℕ × ℕ)) (plans : List Plan) → PlansAxes axes.count axes.moves o plans
    → (axes_plan_fields (o, plans)).refusal ≡ 0 → PlannedSet axes (axes_plan_fields (o, plans))
planned_set {axes} (Err x) plans h q =
    absurd (omega (arith, q, refused_from_one axes.count axes.moves x (sym h.outcome_is)))
planned_set (Ok n) plans h q = record { promised = h; fields_are = refl }

not_refused : (o : Result ℕ (ℕ × ℕ)) (plans : List Plan) → IsPlanned o → (axes_plan_fields (o, plans)).refusal ≡ 0
not_refused (Err x) plans p = absurd p
not_refused (Ok n) plans p = refl

module _ {axes : Axes} {r : AxesPlanResult} (a : Answers axes_plan_fields (PlansSet axes) r) where
  refusal_is : r.refusal ≡ (axes_plan_fields a.outcome).refusal
  refusal_is = ap (λ (x : AxesPlanResult). x.refusal) a.fields_are

  planned : r.refusal ≡ 0 → PlannedSet axes r
  planned q =
      subst (PlannedSet axes) (sym a.fields_are) (planned_set a.outcome.0 a.outcome.1 a.promised (sym refusal_is ∙ q))

-- a refusal in the struct is the outcome's
struct_refused :
    (o : Result ℕ (ℕ × ℕ)) (plans : List Plan) (n p : ℕ) → 0 < n
    → (((axes_plan_fields (o, plans)).refusal ≡ n) × ((axes_plan_fields (o, plans)).place ≡ p)) ↔ (o ≡ Err (n, p))
struct_refused (Err x) plans n p l = (
  λ q. ap Err (λ i. (q.0 i, q.1 i)),
  λ q. (ap (λ (x : ℕ × ℕ). x.0) (same_refused q), ap (λ (x : ℕ × ℕ). x.1) (same_refused q)),
)
struct_refused (Ok m) plans n p l = (λ q. absurd (omega (arith, l, q.0)), λ q. absurd (refused_or_given (n, p) m (sym q)))

pub axes_refused_claim : (axes : Axes) → CallerAxesRefusedClaim axes
axes_refused_claim axes sent r a n p l =
    subst (λ (r : AxesPlanResult). ((r.refusal ≡ n) × (r.place ≡ p)) ↔ Reason axes.count axes.moves n p) (sym a.fields_are)
    (Iff.trans (struct_refused a.outcome.0 a.outcome.1 n p l)
    (axes_refused axes.count axes.moves sent a.outcome.0 a.outcome.1 a.promised n p))

pub axes_accepted_claim : (axes : Axes) → AxesAcceptedClaim axes
axes_accepted_claim axes sent r a =
    let accepts = axes_acceptance axes.count axes.moves sent in (
      λ q. (accepts (Ok r.samples) r.plans (planned a q).promised).0 tt,
      λ h. refusal_is a ∙ not_refused a.outcome.0 a.outcome.1 ((accepts a.outcome.0 a.outcome.1 a.promised).1 h),
    )

-- the samples stand in their places whatever the outcome is
samples_are : (o : Result (Unit {0}) (ℕ × ℕ)) (samples : List Sample) → (axes_sample_fields (o, samples)).values ≡ samples
samples_are (Err x) samples = refl
samples_are (Ok x) samples = refl

module _ {axes : Axes} {k : ℕ} {r : AxesSampleResult} (a : Answers axes_sample_fields (SamplesSet axes k) r) where
  -- the fields by the rule's own outcome
  fields_by : {o : Result (Unit {0}) (ℕ × ℕ)} → o ≡ axes_sample_result axes.count axes.moves k → r ≡ axes_sample_fields (o, a.outcome.1)
  fields_by q = a.fields_are ∙ ap (λ (o : Result (Unit {0}) (ℕ × ℕ)). axes_sample_fields (o, a.outcome.1)) (a.promised.outcome_is
      ∙ sym q)

  own_fields : Ok tt ≡ axes_sample_result axes.count axes.moves k → r ≡ axes_sample_fields (Ok tt, r.values)
  own_fields q =
      let by_rule = fields_by q in
      by_rule ∙ ap (λ (l : List Sample). axes_sample_fields (Ok tt, l)) (sym (ap (λ (x : AxesSampleResult). x.values) by_rule))

  sampled_set :
      Ok tt ≡ axes_sample_result axes.count axes.moves k → SamplesAxes axes.count axes.moves k (Ok tt) r.values
  sampled_set q =
      record {
        outcome_is = q;
        placed =
            subst (SamplesPlaced axes.count axes.moves k (axes_sample_result axes.count axes.moves k))
            (sym (ap (λ (x : AxesSampleResult). x.values) a.fields_are ∙ samples_are a.outcome.0 a.outcome.1))
            a.promised.placed;
      }

pub axes_sample_refusals : (axes : Axes) → AxesSampleRefusalsClaim axes
axes_sample_refusals axes sent h k r a =
    let result = sym (accepted_axes_result axes.count axes.moves sent h) in
    record {
      within = λ l. ap (λ (x : AxesSampleResult). x.refusal) (fields_by a (result_given axes.count axes.moves k result l));
      past = λ l.
          let q = fields_by a (result_past axes.count axes.moves k result l) in
          (ap (λ (x : AxesSampleResult). x.refusal) q, ap (λ (x : AxesSampleResult). x.place) q);
    }

pub caller_axes : (axes : Axes) → CallerAxesClaim axes
caller_axes axes sent r a q sample promised =
    let p = (planned a q).promised in
    let h = (axes_acceptance axes.count axes.moves sent (Ok r.samples) r.plans p).0 tt in
    let n : r.samples ≡ common_samples (take axes.count axes.moves) = planned_common axes.count axes.moves p in
    let result = p.outcome_is in
    record {
      planned = (planned a q).fields_are;
      sampled = λ k l. own_fields (promised k l) (result_given axes.count axes.moves k result l);
      demand_3 =
          demand_3_axes axes.count axes.moves sent h (Ok r.samples) r.plans p (λ k. Ok tt) (λ k. (sample k).values)
          (λ k l.
          let within = le_trans l (le_of_eq (sym n)) in
          sampled_set (promised k within) (result_given axes.count axes.moves k result within));
    }

-- what `caller_axes` assumes can be met: the rules' own answers fill such structs, and for a closed instance the set is accepted
abbrev three_axes : Axes
three_axes = record { count = 3; moves = three }

rule_plan_lem : Answers axes_plan_fields (PlansSet three_axes) (axes_plan_fields (axes_result 3 three, rule_plans 3 three))
rule_plan_lem = record { outcome = _; promised = rule_plans_axes 3 three; fields_are = refl }

rule_sample_lem : (k : ℕ)
    → Answers axes_sample_fields (SamplesSet three_axes k) (axes_sample_fields (axes_sample_result 3 three k, rule_samples 3 three k))
rule_sample_lem k = record { outcome = _; promised = rule_samples_axes 3 three k; fields_are = refl }

pub caller_axes_of_three :
    CallerAxesFacts three_axes (axes_plan_fields (axes_result 3 three, rule_plans 3 three))
    (λ k. axes_sample_fields (axes_sample_result 3 three k, rule_samples 3 three k))
caller_axes_of_three =
    caller_axes three_axes refl _ rule_plan_lem ((axes_accepted_claim three_axes refl _ rule_plan_lem).1 three_accepted) _ (λ k l. rule_sample_lem k)
