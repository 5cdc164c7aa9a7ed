-- What the promises of the C entries come to for their caller, in either order.
use mathlib.Core.List.{List}
use mathlib.Core.Path.{◌≡◌, refl, ap, ◌∙◌}
use Prim.Native.Nat.{ℕ, ◌+◌, ◌≤◌}
use native.Mathlib.Nat.{le_refl, le_of_eq}
use native.Mathlib.Omega.{arith}
use lib.IntN.{ℤ, ◌+ℤ◌}
use lib.ListN.{length}
use Rattle.planner.specs.Refusals.{Each}
use Rattle.std.specs.Prelude.{Result, Ok}
use Rattle.planner.specs.declared.Move.{Move}
use Rattle.planner.proofs.RefusalLaws.{Passes}
use Rattle.motion.specs.Demand3.{Demand3Of}
use Rattle.motion.specs.Sampling.{Motion}
use Rattle.motion.specs.Tables.{FillsPositions}
use Rattle.motion.specs.declared.Sample.{Sample}
use Rattle.motion.proofs.Demand3.{sampled}
use Rattle.motion.proofs.FillLaws.{filled_outcome}
use Rattle.motion.proofs.SamplingLaws.{rule_sample, rule_samples_lem, only_sample}
use Rattle.nitswolan.specs.Fields.{Answers, sample_fields, table_fields}
use Rattle.nitswolan.specs.Claims.{CallerFacts, CallerFor, CallerClaim}
use Rattle.nitswolan.specs.declared.sample.SampleResult.{SampleResult}
use Rattle.nitswolan.specs.declared.table.TableResult.{TableResult}
use Rattle.nitswolan.proofs.PlanLaws.{CallerOrder, fourth, third}

-- a table with room is filled whole
filled_all :
    (x : Motion) (old new : List ℤ) {t : TableResult}
    → Each Passes x.plan_checks
    → x.samples + 1 ≤ length old
    → Answers table_fields (λ o. FillsPositions x old o new) t
    → t ≡ table_fields (Ok (x.samples + 1))
unfolding FillsPositions
filled_all x old new p l f = f.fields_are ∙ ap table_fields (filled_outcome p l tt f.promised)

pub caller_by : {R : Type 0} (p : CallerOrder R) → CallerFor p.refusal p.samples p.Promise p.order p.Demand
caller_by p m plan h r sample promised old new t room f =
    let x : Motion = p.order m in
    let a = (p.accepts m plan h).0 r in
    let n = p.samples_are m plan h r in
    let room' : x.samples + 1 ≤ length old = omega (arith, n, room) in
    let fields : (k : ℕ) → k ≤ x.samples → sample k ≡ sample_fields (rule_sample x k) =
    λ k l.
    let answer = promised k (omega (arith, l, n)) in
    answer.fields_are ∙ ap sample_fields (only_sample x k answer.promised) in
    let given_at : (k : ℕ) → k ≤ x.samples → (sample k).refusal ≡ 0 =
    λ k l.
    ap (λ (y : SampleResult). y.refusal)
    (fields k l ∙ ap sample_fields (sampled x (p.passes m a) l (rule_samples_lem x k refl))) in
    let rows = filled_all x old new (p.passes m a) room' f in
    record {
      samples_are = n;
      sampled = λ k l. given_at k (omega (arith, l, n));
      not_refused = ap (λ (y : TableResult). y.refusal) rows;
      rows_are = omega (arith, n, ap (λ (y : TableResult). y.rows) rows);
      outcome = rule_sample x;
      filled_by_outcome = λ k l. fields k (omega (arith, l, n));
      demand_3 = p.demand m a (rule_sample x) (λ k l. rule_samples_lem x k refl) old new f.outcome room' f.promised;
    }

pub caller_facts : CallerClaim
caller_facts = record { fourth = caller_by fourth; third = caller_by third }

-- The last sample's struct has the count asked for.
pub last_count :
    {m : Move} {x : Motion} {n : ℕ} {Demand : (ℕ → Result Sample ℕ) → List ℤ → Type 0}
    {sample : ℕ → SampleResult} {t : TableResult} {table : List ℤ}
    → (f : CallerFacts x.samples n Demand sample t table)
    → Demand3Of m x f.outcome table
    → (sample n).count ≡ m.start +ℤ m.displacement
last_count {n = n} f d =
    ap (λ (y : SampleResult). y.count)
    (f.filled_by_outcome n (le_refl n) ∙ ap sample_fields (d.answered n (le_of_eq f.samples_are)))
    ∙ ap (λ (k : ℕ). (d.at k).count) f.samples_are
    ∙ d.kept.count_end
