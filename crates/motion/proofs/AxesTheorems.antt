-- What else the promise of a set's one-sample entry comes to: when an accepted set is refused, one answer, and the counted moves alone.
use mathlib.Core.Logic.Iff
use mathlib.Core.Path.{◌≡◌, refl, sym, ap, ap₂, ◌∙◌}
use mathlib.Core.List.{List, [], ◌∷◌}
use Prim.Native.Nat.{ℕ, ◌<◌}
use borrow.Author.Tests.{ltb-true, lt-ltb}
use lib.Dec.{ltb}
use lib.IntN.{pos}
use lib.ListN.{take}
use Rattle.planner.specs.Refusals.{check, first_refusal}
use Rattle.std.specs.Prelude.{Result, Ok, Err}
use Rattle.planner.specs.Axes.{common_samples}
use Rattle.planner.specs.declared.Move.{Move}
use Rattle.planner.proofs.ResultLaws.{refused_or_given, same_refused}
use Rattle.planner.proofs.OrderLaws.{first_given}
use Rattle.planner.proofs.CountedAlone.{places_for, same_places_for}
use Rattle.planner.proofs.AxesAcceptance.{accepted_axes_result}
use Rattle.motion.specs.Answer.{number}
use Rattle.motion.specs.Axes.{rest_sample, axes_sample_result, SamplesPlaced, axes_sample_outcome, axes_samples}
use Rattle.motion.specs.AxesClaims.{AxesRefusalsClaim, RefusedAtSampleClaim, OneAxesSampleClaim, SamplesCountedAloneClaim}
use Rattle.motion.specs.declared.Sample.{Sample}
use Rattle.planner.specs.declared.AxisRefusal.{AxisRefusal}
use Rattle.motion.specs.declared.MotionRefusal.{MotionRefusal}
use Rattle.motion.proofs.AnswerLaws.{number_injective}
use Rattle.motion.proofs.RefusalTheorems.{only_reason}
use Rattle.motion.proofs.AxisSampling.{axis_row}
use Rattle.motion.proofs.AxesSampling.{placed_rows, only_rows, own_check, samples_refused}

pub axes_refusals : (count : ℕ) (moves : List Move) → AxesRefusalsClaim count moves
axes_refusals count moves sent h k o samples p n =
    let longest = common_samples (take count moves) in
    let left : o ≡ first_refusal (check (9, 0) (ltb longest k) ∷ []) (Ok tt) =
    p.outcome_is ∙ sym (own_check count moves k (sym (accepted_axes_result count moves sent h)) refl) in
    Iff.trans (λ q. sym left ∙ q, λ q. left ∙ q)
    (Iff.trans (first_given (ℕ × ℕ) (Unit {0}) (check (9, 0) (ltb longest k) ∷ []) tt n)
    (only_reason (9, 0) (ltb longest k) (longest < k) (ltb-true longest k) (lt-ltb longest k) n))

pub refused_at_sample : (count : ℕ) (moves : List Move) → RefusedAtSampleClaim count moves
refused_at_sample count moves x plans h k o samples p = p.outcome_is ∙ sym (samples_refused count moves k h.outcome_is).outcome_is

-- different answers have different outcomes or samples
outcome_injective :
    (x y : Result (List Sample) (AxisRefusal MotionRefusal)) → axes_sample_outcome x ≡ axes_sample_outcome y → axes_samples x ≡ axes_samples y
    → x ≡ y
outcome_injective (Ok x) (Ok y) h p = ap Ok p
outcome_injective (Ok x) (Err y) h p = absurd (refused_or_given (number y.refusal, y.place) tt (sym h))
outcome_injective (Err x) (Ok y) h p = absurd (refused_or_given (number x.refusal, x.place) tt h)
outcome_injective (Err x) (Err y) h p =
    let q = same_refused h in
    ap₂ (λ (place : ℕ) (refusal : MotionRefusal). Err (record { place = place; refusal = refusal })) (ap (λ (z : ℕ × ℕ). z.1) q)
    (number_injective x.refusal y.refusal (ap (λ (z : ℕ × ℕ). z.0) q))

-- the places are one list, whatever rounds the positions
pub same_places :
    {count : ℕ} {moves : List Move} {k : ℕ} {o : Result (Unit {0}) (ℕ × ℕ)} {xs ys : List Sample}
    → SamplesPlaced count moves k o xs → SamplesPlaced count moves k o ys → xs ≡ ys
same_places p q = only_rows _ _ _ p ∙ sym (only_rows _ _ _ q)

pub one_axes_sample : (count : ℕ) (moves : List Move) → OneAxesSampleClaim count moves
one_axes_sample count moves k x y p q =
    outcome_injective x y (p.outcome_is ∙ sym q.outcome_is) (same_places p.placed q.placed)

-- the rule reads `take count moves`, and no more
pub samples_counted_alone : (count : ℕ) (moves : List Move) → SamplesCountedAloneClaim count moves
unfolding axes_sample_result
samples_counted_alone count moves others q k o samples p =
    let same : axes_sample_result count moves k ≡ axes_sample_result count others k = rw q refl in
    let row : ℕ → Move → Sample = λ n m. axis_row n m k in
    record {
      outcome_is = p.outcome_is ∙ same;
      placed =
          placed_rows count others k
          (only_rows count moves k p.placed
          ∙ ap (places_for count moves (rest_sample (pos 0)) row) same
          ∙ same_places_for count moves others q (rest_sample (pos 0)) row (axes_sample_result count others k));
    }
