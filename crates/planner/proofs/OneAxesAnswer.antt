-- The promise of a set leaves one answer.
use mathlib.Core.List.{List}
use mathlib.Core.Path.{◌≡◌, sym, ap, ap₂, ◌∙◌}
use Prim.Native.Nat.{ℕ}
use Rattle.std.specs.Prelude.{Result, Ok, Err}
use Rattle.planner.specs.Outcome.{number}
use Rattle.planner.specs.Axes.{axes_outcome, axes_plans}
use Rattle.planner.specs.AxesClaims.{OneAxesAnswerClaim}
use Rattle.planner.specs.declared.Move.{Move}
use Rattle.planner.specs.declared.Plan.{Plan}
use Rattle.planner.specs.declared.Refusal.{Refusal}
use Rattle.planner.specs.declared.AxesPlan.{AxesPlan}
use Rattle.planner.specs.declared.AxisRefusal.{AxisRefusal}
use Rattle.planner.proofs.ResultLaws.{refused_or_given, same_refused, same_given}
use Rattle.planner.proofs.AnswerLaws.{number_injective}

pub axes_outcome_injective : (x y : Result AxesPlan (AxisRefusal Refusal)) → axes_outcome x ≡ axes_outcome y → axes_plans x ≡ axes_plans y → x ≡ y
axes_outcome_injective (Ok x) (Ok y) h p = ap₂ (λ (n : ℕ) (plans : List Plan). Ok (record { samples = n; plans = plans })) (same_given h) p
axes_outcome_injective (Ok x) (Err y) h p = absurd (refused_or_given (number y.refusal, y.place) x.samples (sym h))
axes_outcome_injective (Err x) (Ok y) h p = absurd (refused_or_given (number x.refusal, x.place) y.samples h)
axes_outcome_injective (Err x) (Err y) h p =
    let same = same_refused h in
    ap₂ (λ (place : ℕ) (refusal : Refusal). Err (record { place = place; refusal = refusal }))
    (ap (λ (z : ℕ × ℕ). z.1) same) (number_injective x.refusal y.refusal (ap (λ (z : ℕ × ℕ). z.0) same))

pub one_axes_answer : (count : ℕ) (moves : List Move) → OneAxesAnswerClaim count moves
one_axes_answer count moves x y h l = axes_outcome_injective x y (h.outcome_is ∙ sym l.outcome_is) (h.plans_are ∙ sym l.plans_are)
