-- A sample that an entry gives is the rule's own, and its move or its set passed every check: of a move in either order, and of an axis.
use mathlib.Core.List.{List, [], ◌∷◌}
use mathlib.Core.Path.{◌≡◌, sym, ap, subst, ◌∙◌}
use Prim.Native.Nat.{ℕ, ◌<◌}
use borrow.Author.Tests.{ltb-false}
use lib.Dec.{ltb}
use lib.IntN.{pos}
use lib.ListN.{length, take, get_or}
use Rattle.planner.specs.Refusals.{Each, Check, check}
use Rattle.std.specs.Prelude.{Ok}
use Rattle.planner.specs.Axes.{most_axes, common_samples, axes_checks, axes_result}
use Rattle.planner.specs.AxesClaims.{axis_at, AcceptedAxis}
use Rattle.planner.specs.declared.Move.{Move}
use Rattle.planner.proofs.AxesAnswers.{all_accepted, count_most}
use Rattle.planner.proofs.CountedLaws.{counted_at, within}
use Rattle.planner.proofs.EachLaws.{each_parts, each_at}
use Rattle.planner.proofs.RefusalLaws.{Passes, all_pass, passed, passed_same}
use Rattle.motion.specs.Sampling.{Motion, sample_checks, sample_with, Samples}
use Rattle.motion.specs.Axes.{rest_sample, axes_sample_checks, axes_sample_result, SamplesAxes}
use Rattle.motion.specs.AxesClaims.{KeptAxis}
use Rattle.motion.specs.declared.Sample.{Sample}
use Rattle.motion.proofs.RoundedValues.{with_rounding}
use Rattle.motion.proofs.SamplingLaws.{only_sample}
use Rattle.motion.proofs.AxisSampling.{axis_row}
use Rattle.motion.proofs.AxesSampling.{sampled_row}
use Rattle.motion.proofs.Demand3Axes.{axis_kept}

module _ (x : Motion) {k : ℕ} {s : Sample} (h : Samples x k (Ok s)) where
  pub move_passed : Each Passes x.plan_checks
  unfolding sample_with
  move_passed =
      (each_parts Passes x.plan_checks (check 9 (ltb x.samples k) ∷ []) (passed (sample_checks x k) _ s (sym h.outcome_is))).0

  pub rule_sample_lem : s ≡ with_rounding x.start (x.values k)
  unfolding sample_with
  rule_sample_lem = sym (passed_same (sample_checks x k) _ s (sym (only_sample x k h)))

-- one axis of a set
module _
    {count : ℕ} {moves : List Move} (sent : length moves ≡ most_axes) {k : ℕ} {samples : List Sample}
    (h : SamplesAxes count moves k (Ok tt) samples) {i : ℕ} (c : i < count)
  where
    abbrev axes : List Move
    axes = take count moves

    abbrev pub common : ℕ
    common = common_samples axes

    abbrev own : Check (ℕ × ℕ)
    own = check (9, 0) (ltb common k)

    both : Each Passes (axes_checks count moves) × Each Passes (own ∷ [])
    unfolding axes_sample_result
    both = each_parts Passes (axes_checks count moves) (own ∷ []) (passed (axes_sample_checks count moves k) tt tt (sym h.outcome_is))

    set_given : Ok common ≡ axes_result count moves
    unfolding axes_result
    set_given = sym (all_pass (axes_checks count moves) (Ok common) both.0)

    counted : i < length axes
    counted = within count moves sent (count_most count moves set_given) i c

    pub rule_row : get_or samples i (rest_sample (pos 0)) ≡ axis_row common (axis_at moves i) k
    rule_row =
        sampled_row count moves k set_given h (ltb-false common k both.1.0) i _ counted
        ∙ ap (λ (m : Move). axis_row common m k) (counted_at count moves i c)

    pub row_accepted : AcceptedAxis (axis_at moves i)
    row_accepted =
        subst AcceptedAxis (counted_at count moves i c) (each_at AcceptedAxis axes i _ counted (all_accepted count moves set_given))

    pub row_kept : KeptAxis common (axis_at moves i) (λ k. axis_row common (axis_at moves i) k)
    row_kept =
        subst (λ (m : Move). KeptAxis common m (λ k. axis_row common m k)) (counted_at count moves i c)
        (axis_kept axes (all_accepted count moves set_given) i _ counted)
