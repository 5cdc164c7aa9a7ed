-- Demand 3 of every axis of a set: the theorem `demand_3_axes` proves the claim of specs/AxesClaims.antt. A moving axis keeps the lines by
-- the laws of a move, with its raised intervals.
use mathlib.Core.Bool.{true, false, true≢false}
use mathlib.Core.Path.{◌≡◌, sym, ap, subst, ◌∙◌}
use mathlib.Core.List.{List}
use Prim.Native.Nat.{ℕ, ◌≤◌, ◌<◌}
use borrow.Author.Tests.{eq-eqb}
use lib.IntN.{ℤ, ◌-ℤ◌, +ℤ_invr}
use lib.ListN.{length, take, get_or}
use Rattle.planner.specs.Intervals.{Intervals, N, P, D}
use Rattle.planner.specs.Refusals.{Each}
use Rattle.std.specs.Prelude.{Result, Ok}
use Rattle.planner.specs.Outcome.{distance_of, intervals_of}
use Rattle.planner.specs.Axes.{raised, at_rest, common_samples, axes_result, PlansAxes}
use Rattle.planner.specs.AxesClaims.{axis_at, AcceptedAxis}
use Rattle.planner.specs.declared.Move.{Move}
use Rattle.planner.proofs.AxisLaws.{by_rest, rest_resting}
use Rattle.planner.proofs.RaisedLaws.{raised_axis_lem, raised_axis_samples}
use Rattle.planner.proofs.CountedLaws.{counted_at, within}
use Rattle.planner.proofs.AxesAcceptance.{accepted_each, accepted_axes_result}
use Rattle.planner.proofs.CommonDuration.{common_duration}
use Rattle.motion.specs.Sampling.{units_of}
use Rattle.motion.specs.Axes.{rest_sample, axis_exact}
use Rattle.motion.specs.AxesClaims.{KeptAxis, Demand3AxesClaim}
use Rattle.motion.specs.Demand3.{KeptSnap, Kept}
use Rattle.motion.specs.Inner.Planned.{directed_position}
use Rattle.motion.specs.declared.Sample.{Sample}
use Rattle.motion.proofs.RoundedValues.{with_rounding}
use Rattle.motion.proofs.KeptRules.{KeepsFourth, keeps}
use Rattle.motion.proofs.KeptLaws.{sample_at, kept_snap, kept}
use Rattle.motion.proofs.AxisSampling.{axis_row, resting_row, values_by, exact_by}
use Rattle.motion.proofs.AxesSampling.{result_given, sampled_row}
use Rattle.motion.proofs.RestAxis.{rest_kept_snap, rest_kept}

-- one axis, by its rows
module _ (n : ℕ) (m : Move) where
  abbrev row : ℕ → Sample
  row k = axis_row n m k

  abbrev t : Intervals
  t = raised n (intervals_of m)

  resting_kept : at_rest m ≡ true → KeptAxis n m row
  resting_kept h =
      let rests = rest_resting m h in
      let rows : row ≡ (λ k. rest_sample m.start) = λ i k. resting_row n m k h i in
      let exact = exact_by n m h in
      record {
        kept_snap = subst (KeptSnap m n) (sym rows) (rest_kept_snap m rests n);
        kept =
            subst (Kept m n (P t) (axis_exact n m)) (sym rows)
            (subst (λ (E : ℕ → ℤ). Kept m n (P t) E (λ k. rest_sample m.start)) (sym exact) (rest_kept m rests n (P t)));
        at_rest = λ _ k. (
          resting_row n m k h,
          ap (λ (E : ℕ → ℤ). E k) exact
              ∙ sym (ap (λ (x : Sample). x.position -ℤ units_of m.start) (resting_row n m k h) ∙ +ℤ_invr (units_of m.start)),
        );
      }

  -- a moving axis with the facts of its raised intervals
  module _
      (h : at_rest m ≡ false) {short : ℕ} (f : KeepsFourth m t (D t (distance_of m)) short) (slow : D t (distance_of m) ≤ m.snap) (last : N t ≡ n)
    where
      abbrev values : ℕ → Sample
      values = sample_at m.start m.displacement t (D t (distance_of m))

      abbrev exact : ℕ → ℤ
      exact = directed_position m.displacement t (distance_of m)

      rows : row ≡ values
      rows = λ i k. with_rounding m.start (values_by n m h k i)

      moving_kept : KeptAxis n m row
      moving_kept =
          record {
            kept_snap =
                subst (KeptSnap m n) (sym rows)
                (subst (λ (n : ℕ). KeptSnap m n values) last (kept_snap m.start m.displacement t (D t (distance_of m)) slow));
            kept =
                subst (Kept m n (P t) (axis_exact n m)) (sym rows)
                (subst (λ (E : ℕ → ℤ). Kept m n (P t) E values) (sym (exact_by n m h))
                (subst (λ (n : ℕ). Kept m n (P t) exact values) last (kept f)));
            at_rest = λ q k. absurd (true≢false (sym (eq-eqb _ _ q) ∙ h));
          }

-- axis i of accepted ones
pub axis_kept :
    (axes : List Move) → Each AcceptedAxis axes → (i : ℕ) (d : Move) → i < length axes
    → KeptAxis (common_samples axes) (get_or axes i d) (axis_row (common_samples axes) (get_or axes i d))
axis_kept axes h i d l =
    by_rest (get_or axes i d) (resting_kept (common_samples axes) (get_or axes i d))
    (λ moves.
    let f = raised_axis_lem axes h i d l moves in
    moving_kept (common_samples axes) (get_or axes i d) moves (keeps f) f.bounds.snap (raised_axis_samples axes h i d l moves))

pub demand_3_axes : (count : ℕ) (moves : List Move) → Demand3AxesClaim count moves
demand_3_axes count moves sent h o plans planned sample samples promised =
    let axes = take count moves in
    let n = common_samples axes in
    let result : Ok n ≡ axes_result count moves = sym (accepted_axes_result count moves sent h) in
    let given_n : o ≡ Ok n = planned.outcome_is ∙ sym result in
    let kept_at = axis_kept axes (accepted_each count moves sent h) in
    record {
      N = n;
      planned = given_n;
      duration = common_duration count moves sent n plans (subst (λ (o : Result ℕ (ℕ × ℕ)). PlansAxes count moves o plans) given_n planned);
      at = λ i k. axis_row n (axis_at moves i) k;
      answered = λ k l. (promised k l).outcome_is ∙ sym (result_given count moves k result l);
      placed = λ i k c l.
          sampled_row count moves k result (promised k l) l i _ (within count moves sent h.at_most i c)
          ∙ ap (λ (m : Move). axis_row n m k) (counted_at count moves i c);
      each_kept = λ i c.
          subst (λ (m : Move). KeptAxis n m (λ k. axis_row n m k)) (counted_at count moves i c)
          (kept_at i _ (within count moves sent h.at_most i c));
    }
