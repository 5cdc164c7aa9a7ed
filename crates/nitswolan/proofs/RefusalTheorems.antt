-- What a refusal of the C entries means: motion's theorems, for the field `refusal` of a struct.
use mathlib.Core.Path.{refl, subst}
use Prim.Native.Nat.{ℕ}
use Rattle.std.specs.Prelude.{Result}
use Rattle.motion.specs.Sampling.{Motion}
use Rattle.motion.specs.Answer.{machine_of}
use Rattle.motion.specs.Claims.{TablePromise, RefusedBy, AcceptedRefusals, Untouched}
use Rattle.motion.specs.Tables.{FillsPositions, FillsReference, FillsForce}
use Rattle.motion.proofs.RefusalTheorems.{accepted_refusals, untouched}
use Rattle.nitswolan.specs.Fields.{Answers, sample_fields, table_fields}
use Rattle.nitswolan.specs.Claims.{FieldRefusedBy, CallerRefusals, CallerRefusalsClaim, CallerUntouched, CallerUntouchedClaim}
use Rattle.nitswolan.specs.declared.sample.SampleResult.{SampleResult}
use Rattle.nitswolan.specs.declared.table.TableResult.{TableResult}
use Rattle.nitswolan.proofs.StructLaws.{field_refused_by, refused_outcome}

abbrev refusal_of : TableResult → ℕ
refusal_of r = r.refusal

table_by :
    {Promise : Result ℕ ℕ → Type 0} {Reason : ℕ → Type 0} {r : TableResult}
    → ((o : Result ℕ ℕ) → Promise o → RefusedBy o Reason)
    → Answers table_fields Promise r
    → FieldRefusedBy r.refusal Reason
table_by = field_refused_by table_fields refusal_of (λ n. refl) (λ x. refl)

refusals_of : {x : Motion} → AcceptedRefusals x → CallerRefusals x
refusals_of h =
    record {
      sample = λ k r. field_refused_by sample_fields (λ (r : SampleResult). r.refusal) (λ n. refl) (λ x. refl) (h.sample k);
      positions = λ old new r. table_by (h.positions old new);
      reference = λ old new r. table_by (h.reference old new);
    }

pub caller_refusals : CallerRefusalsClaim
caller_refusals =
    record {
      fourth = λ m h. refusals_of (accepted_refusals.fourth m h);
      force = λ m h machine old new r. table_by (accepted_refusals.force m h (machine_of machine) old new);
      third = λ m h. refusals_of (accepted_refusals.third m h);
    }

leaves : {A : Type 0} (Promise : TablePromise A) → Untouched Promise → CallerUntouched Promise
leaves Promise kept old new r a l =
    kept r.refusal old new
    (subst (λ o. Promise old o new) (refused_outcome table_fields refusal_of (λ n. refl) (λ x. refl) a l) a.promised)

pub caller_untouched : CallerUntouchedClaim
caller_untouched =
    record {
      positions = λ x. leaves (FillsPositions x) (untouched.positions x);
      reference = λ x. leaves (FillsReference x) (untouched.reference x);
      force = λ m machine. leaves (FillsForce m (machine_of machine)) (untouched.force m (machine_of machine));
    }
