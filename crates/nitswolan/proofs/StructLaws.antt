-- A struct that an outcome fills: its refusal is the outcome's number, and 0 where there is none.
use mathlib.Core.Logic.Iff
use mathlib.Core.Logic.{◌↔◌}
use mathlib.Core.Path.{◌≡◌, refl, sym, ap, ◌∙◌}
use Prim.Native.Nat.{ℕ, ◌≤◌, ◌<◌}
use native.Mathlib.Omega.{arith}
use Rattle.std.specs.Prelude.{Result, Ok, Err}
use Rattle.planner.specs.Claims.{IsPlanned}
use Rattle.planner.proofs.ResultLaws.{refused_or_given, same_refused}
use Rattle.motion.specs.Claims.{RefusedBy}
use Rattle.nitswolan.specs.Fields.{Answers}
use Rattle.nitswolan.specs.Claims.{FieldRefusedBy}

-- one outcome fills one struct
pub same_struct :
    {O R : Type 0} {fields : O → R} {P Q : O → Type 0} {x y : R}
    → (h : Answers fields P x) (l : Answers fields Q y)
    → h.outcome ≡ l.outcome
    → x ≡ y
same_struct {fields = fields} h l q = h.fields_are ∙ ap fields q ∙ sym l.fields_are

-- a struct that is filled by an outcome which the promise allows
pub filled_by : {O R : Type 0} (fields : O → R) {P : O → Type 0} {o : O} → P o → Answers fields P (fields o)
filled_by fields {o = o} p = record { outcome = o; promised = p; fields_are = refl }

module _
    {A R : Type 0}
    (fields : Result A ℕ → R)
    (number : R → ℕ)
    (at-refusal : (n : ℕ) → number (fields (Err n)) ≡ n)
    (else-zero : (x : A) → number (fields (Ok x)) ≡ 0)
  where
    outcome_refused : (o : Result A ℕ) (n : ℕ) → 0 < n → (number (fields o) ≡ n) ↔ (o ≡ Err n)
    outcome_refused (Err i) n l = (
      λ h. ap Err (sym (at-refusal i) ∙ h),
      λ h. at-refusal i ∙ same_refused h,
    )
    outcome_refused (Ok x) n l = (
      λ h. absurd (omega (arith, h, else-zero x)),
      λ h. absurd (refused_or_given n x (sym h)),
    )

    pub field_refused_by :
        {Promise : Result A ℕ → Type 0} {Reason : ℕ → Type 0} {r : R}
        → ((o : Result A ℕ) → Promise o → RefusedBy o Reason)
        → Answers fields Promise r
        → FieldRefusedBy (number r) Reason
    field_refused_by by a n l =
        rw a.fields_are (Iff.trans (outcome_refused a.outcome n l) (by a.outcome a.promised n))

    pub refused_outcome : {Promise : Result A ℕ → Type 0} {r : R} (a : Answers fields Promise r) → 0 < number r → a.outcome ≡ Err (number r)
    refused_outcome {r} a l = (outcome_refused a.outcome (number r) l).0 (sym (ap number a.fields_are))

    -- where no refusal has the number 0, the field is 0 exactly where something is given
    module _ {Promise : Result A ℕ → Type 0} (from_one : (o : Result A ℕ) → Promise o → (n : ℕ) → o ≡ Err n → 1 ≤ n) where
      not_refused : (o : Result A ℕ) → Promise o → (number (fields o) ≡ 0) ↔ IsPlanned o
      not_refused (Err n) h = (λ q. absurd (omega (arith, q, at-refusal n, from_one (Err n) h n refl)), λ p. absurd p)
      not_refused (Ok x) h = (λ q. tt, λ p. else-zero x)

      module _ {r : R} (a : Answers fields Promise r) where
        pub field_zero : (number r ≡ 0) ↔ IsPlanned a.outcome
        field_zero = rw a.fields_are (not_refused a.outcome a.promised)

        -- and another field is then what it is where something is given
        pub field_given :
            (value : R → ℕ) (n : ℕ)
            → ((x : A) → Promise (Ok x) → value (fields (Ok x)) ≡ n)
            → number r ≡ 0
            → value r ≡ n
        field_given value n is q = ap value a.fields_are ∙ go a.outcome a.promised (field_zero.0 q)
          where
            go : (o : Result A ℕ) → Promise o → IsPlanned o → value (fields o) ≡ n
            go (Err i) h p = absurd p
            go (Ok x) h p = is x h
