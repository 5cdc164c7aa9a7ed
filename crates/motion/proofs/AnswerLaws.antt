-- Different answers of the entries have different outcomes, so each promise leaves one answer.
use mathlib.Core.List.{List}
use mathlib.Core.Path.{◌≡◌, refl, sym, ap, ap₂, ◌∙◌}
use Prim.Native.Nat.{ℕ}
use native.Mathlib.Omega.{arith}
use lib.Ieee.{Float}
use Rattle.planner.specs.Refusals.{Check}
use Rattle.std.specs.Prelude.{Result, Ok, Err}
use Rattle.planner.proofs.Clash.{clash}
use Rattle.planner.proofs.ResultLaws.{refused_or_given, same_refused, same_given}
use Rattle.planner.proofs.AnswerLaws as planner
use Rattle.motion.specs.Sampling.{Motion, Samples}
use Rattle.motion.specs.ForceRows.Force.{rigid, filtered}
use Rattle.motion.specs.Tables.{Fills, FillsPositions, FillsReference, FillsForce}
use Rattle.motion.specs.Answer.{number, outcome}
use Rattle.motion.specs.Claims.{OneAnswer, OneAnswerClaim}
use Rattle.motion.specs.Inner.Rows.{drive_kind}
use Rattle.motion.proofs.SamplingLaws.{only_sample}
use Rattle.motion.specs.declared.Sample.{Sample}
use Rattle.motion.specs.declared.force.drive.Drive.{Drive}
use Rattle.motion.specs.declared.force.drive.Drive.TheVariants.{Rigid, Filtered}
use Rattle.motion.specs.declared.MotionRefusal.{MotionRefusal}
use Rattle.motion.specs.declared.MotionRefusal.TheVariants.{Unplanned, ShortTable, PastEnd, MachineRange}

pub number_injective : (x y : MotionRefusal) → number x ≡ number y → x ≡ y
number_injective (Unplanned x) (Unplanned y) h = ap Unplanned (planner.number_injective x y h)
number_injective (Unplanned x) ShortTable h = absurd (planner.number_not_8_to_10 x (omega (arith, h)) (omega (arith, h)))
number_injective (Unplanned x) PastEnd h = absurd (planner.number_not_8_to_10 x (omega (arith, h)) (omega (arith, h)))
number_injective ShortTable (Unplanned y) h = absurd (planner.number_not_8_to_10 y (omega (arith, h)) (omega (arith, h)))
number_injective ShortTable ShortTable h = refl
number_injective ShortTable PastEnd h = absurd (omega (arith, h))
number_injective PastEnd (Unplanned y) h = absurd (planner.number_not_8_to_10 y (omega (arith, h)) (omega (arith, h)))
number_injective PastEnd ShortTable h = absurd (omega (arith, h))
number_injective PastEnd PastEnd h = refl
number_injective (Unplanned x) MachineRange h = absurd (planner.number_not_8_to_10 x (omega (arith, h)) (omega (arith, h)))
number_injective ShortTable MachineRange h = absurd (omega (arith, h))
number_injective PastEnd MachineRange h = absurd (omega (arith, h))
number_injective MachineRange (Unplanned y) h = absurd (planner.number_not_8_to_10 y (omega (arith, h)) (omega (arith, h)))
number_injective MachineRange ShortTable h = absurd (omega (arith, h))
number_injective MachineRange PastEnd h = absurd (omega (arith, h))
number_injective MachineRange MachineRange h = refl

pub outcome_injective : {A : Type 0} (x y : Result A MotionRefusal) → outcome x ≡ outcome y → x ≡ y
outcome_injective (Ok x) (Ok y) h = ap Ok (same_given h)
outcome_injective (Ok x) (Err y) h = absurd (refused_or_given (number y) x (sym h))
outcome_injective (Err x) (Ok y) h = absurd (refused_or_given (number x) y h)
outcome_injective (Err x) (Err y) h = ap Err (number_injective x y (same_refused h))

-- the checked drive: different drives are of different kinds
kinds_apart : (c alpha beta : Float) → rigid c ≡ filtered alpha beta → ⊥
kinds_apart c alpha beta h = clash cc

same_stiffness : (x y : Float) → rigid x ≡ rigid y → x ≡ y
same_stiffness x y h = cc

same_filter : (a b c d : Float) → filtered a b ≡ filtered c d → (a ≡ c) × (b ≡ d)
same_filter a b c d h = (cc, cc)

pub drive_injective : (x y : Drive) → drive_kind x ≡ drive_kind y → x ≡ y
drive_injective (Rigid x) (Rigid y) h = ap Rigid (same_stiffness x y h)
drive_injective (Rigid x) (Filtered c d) h = absurd (kinds_apart x c d h)
drive_injective (Filtered a b) (Rigid y) h = absurd (kinds_apart y a b (sym h))
drive_injective (Filtered a b) (Filtered c d) h = let same = same_filter a b c d h in ap₂ Filtered same.0 same.1

-- so a promise leaves one answer
module _ {x : Motion} {k : ℕ} where
  pub one_sample_outcome : {o p : Result Sample ℕ} → Samples x k o → Samples x k p → o ≡ p
  one_sample_outcome h l = only_sample x k h ∙ sym (only_sample x k l)

  pub one_sample_answer : (y z : Result Sample MotionRefusal) → Samples x k (outcome y) → Samples x k (outcome z) → y ≡ z
  one_sample_answer y z h l = outcome_injective y z (one_sample_outcome h l)

module _ {A : Type 0} {x : Motion} {rows : ℕ} {own : List (Check ℕ)} {row : ℕ → A} {old new new' : List A} where
  pub one_table_outcome :
      {o p : Result ℕ ℕ} → Fills x own rows row old o new → Fills x own rows row old p new' → (o ≡ p) × (new ≡ new')
  one_table_outcome h l = (h.outcome_is ∙ sym l.outcome_is, h.table_is ∙ sym l.table_is)

  pub one_table_answer :
      (y z : Result ℕ MotionRefusal)
      → Fills x own rows row old (outcome y) new
      → Fills x own rows row old (outcome z) new'
      → (y ≡ z) × (new ≡ new')
  one_table_answer y z h l = let same = one_table_outcome h l in (outcome_injective y z same.0, same.1)

one_answer : (x : Motion) → OneAnswer x
unfolding FillsPositions FillsReference
one_answer x =
    record {
      sample = λ k y z. one_sample_answer y z;
      positions = λ old new new' y z. one_table_answer y z;
      reference = λ old new new' y z. one_table_answer y z;
    }

pub one_motion_answer : OneAnswerClaim
unfolding FillsForce
one_motion_answer = record { either_order = one_answer; force = λ m machine old new new' y z. one_table_answer y z }
