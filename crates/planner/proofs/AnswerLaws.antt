-- Different answers of the planner have different outcomes, so its promise leaves one.
use mathlib.Core.Bool.{cond}
use mathlib.Core.Path.{◌≡◌, refl, sym, ap, ◌∙◌}
use Prim.Native.Nat.{ℕ, zero, suc, ◌≤◌}
use native.Mathlib.Omega.{arith}
use lib.Dec.{eqb}
use Rattle.std.specs.Prelude.{Result, Ok, Err}
use Rattle.planner.specs.Outcome.{number, outcome}
use Rattle.planner.specs.Claims.{OneAnswerClaim}
use Rattle.planner.specs.declared.Refusal.{Refusal}
use Rattle.planner.specs.declared.Refusal.TheVariants.{NoDisplacement, DisplacementRange, VelocityRange, AccelerationRange, JerkRange, SnapRange, TooManySamples, AxisCount, StartOrEndRange}
use Rattle.planner.proofs.ResultLaws.{refused_or_given, same_refused, same_given}

-- the refusal that a number names
refusal : ℕ → Refusal
refusal zero = NoDisplacement
refusal (suc zero) = NoDisplacement
refusal (suc (suc zero)) = DisplacementRange
refusal (suc (suc (suc zero))) = VelocityRange
refusal (suc (suc (suc (suc zero)))) = AccelerationRange
refusal (suc (suc (suc (suc (suc zero))))) = JerkRange
refusal (suc (suc (suc (suc (suc (suc zero)))))) = SnapRange
refusal (suc (suc (suc (suc (suc (suc (suc zero))))))) = TooManySamples
refusal (suc (suc (suc (suc (suc (suc (suc (suc n)))))))) = cond (eqb n 5) AxisCount StartOrEndRange

named : (x : Refusal) → refusal (number x) ≡ x
unfolding refusal
named NoDisplacement = refl
named DisplacementRange = refl
named VelocityRange = refl
named AccelerationRange = refl
named JerkRange = refl
named SnapRange = refl
named TooManySamples = refl
named AxisCount = refl
named StartOrEndRange = refl

pub number_injective : (x y : Refusal) → number x ≡ number y → x ≡ y
number_injective x y h = sym (named x) ∙ ap refusal h ∙ named y

-- the numbers are 1 to 7, 13 and 14
pub number_not_8_to_10 : (x : Refusal) → 8 ≤ number x → number x ≤ 10 → ⊥
number_not_8_to_10 NoDisplacement h l = omega arith
number_not_8_to_10 DisplacementRange h l = omega arith
number_not_8_to_10 VelocityRange h l = omega arith
number_not_8_to_10 AccelerationRange h l = omega arith
number_not_8_to_10 JerkRange h l = omega arith
number_not_8_to_10 SnapRange h l = omega arith
number_not_8_to_10 TooManySamples h l = omega arith
number_not_8_to_10 AxisCount h l = omega arith
number_not_8_to_10 StartOrEndRange h l = omega arith

pub outcome_injective : {A : Type 0} (x y : Result A Refusal) → outcome x ≡ outcome y → x ≡ y
outcome_injective (Ok x) (Ok y) h = ap Ok (same_given h)
outcome_injective (Ok x) (Err y) h = absurd (refused_or_given (number y) x (sym h))
outcome_injective (Err x) (Ok y) h = absurd (refused_or_given (number x) y h)
outcome_injective (Err x) (Err y) h = ap Err (number_injective x y (same_refused h))

pub one_plan_answer : OneAnswerClaim
one_plan_answer m x y h l = outcome_injective x y (h.outcome_is ∙ sym l.outcome_is)
