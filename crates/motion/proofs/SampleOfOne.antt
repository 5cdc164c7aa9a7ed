-- A sample of a move alone is that of the set of one.
use mathlib.Core.List.{List, [], ◌∷◌}
use mathlib.Core.Path.{◌≡◌, refl, sym, ap, subst, ◌∙◌}
use Prim.Native.Nat.{ℕ, ◌≤◌, ◌<◌}
use native.Mathlib.Decide.{dec_le}
use native.Mathlib.Omega.{arith}
use borrow.Author.Tests.{lt-ltb, le-ltb}
use lib.IntN.{pos}
use Rattle.planner.specs.Intervals.{Intervals, N, D}
use Rattle.planner.specs.Refusals.{padded}
use Rattle.std.specs.Prelude.{Result, Ok, Err}
use Rattle.planner.specs.Outcome.{distance_of, intervals_of, samples_of, intervals_in, checks, outcome_of}
use Rattle.planner.specs.Axes.{most_axes, raised, common_samples, axes_result}
use Rattle.planner.specs.AxesClaims.{outcome_of_one, places_of_one}
use Rattle.planner.specs.Claims.{Accepted, IsPlanned}
use Rattle.planner.specs.declared.Move.{Move}
use Rattle.planner.specs.declared.Plan.{Plan}
use Rattle.planner.proofs.Acceptance.{accepted_passes, accepted_outcome, rule_accepted}
use Rattle.planner.proofs.RefusalLaws.{refused_on}
use Rattle.planner.proofs.AxisLaws.{moving_rest}
use Rattle.planner.proofs.SetOfOne.{raised_own, own_common, set_of_one}
use Rattle.motion.specs.Sampling.{values_at, values_of, fourth_order, sample_of, sample_with, Rounding}
use Rattle.motion.specs.Axes.{rest_sample, axis_values, SamplesAxes}
use Rattle.motion.specs.AxesClaims.{SampleOfOneClaim}
use Rattle.motion.specs.declared.Sample.{Sample}
use Rattle.motion.proofs.EntryLaws.{applies, passes}
use Rattle.motion.proofs.AxisSampling.{values_by, row_of}
use Rattle.motion.proofs.AxesSampling.{placed_rows, samples_refused, samples_past, samples_given}

module _ (m : Move) (k : ℕ) where
  -- nothing is raised, so the values are the move's
  same_values : Accepted m → values_of m k ≡ axis_values (common_samples (m ∷ [])) m k
  unfolding values_of
  same_values h =
      let moves = moving_rest m h.is_in_range.moves in
      let own : raised (common_samples (m ∷ [])) (intervals_of m) ≡ intervals_of m =
      ap (λ (n : ℕ). raised n (intervals_of m)) (sym (own_common m moves)) ∙ raised_own (intervals_of m) in
      sym
      (values_by (common_samples (m ∷ [])) m moves k
      ∙ ap (λ (t : Intervals). values_at m.displacement t (D t (distance_of m)) k) own)

module _ (m : Move) (others : List Move) (k : ℕ) where
  abbrev Alone : Result Sample ℕ → Type 0
  Alone o = SamplesAxes 1 (m ∷ others) k (outcome_of_one (λ x. tt) o) (places_of_one (rest_sample (pos 0)) o)

  abbrev Planned : Result Plan ℕ → Type 0
  Planned o = outcome_of_one (λ x. N (intervals_in x)) o ≡ axes_result 1 (m ∷ others)

  planned : Planned (outcome_of m)
  planned = (set_of_one m others (outcome_of m) (record { outcome_is = refl })).outcome_is

  refused_alone : (n : ℕ) → outcome_of m ≡ Err n → Alone (Err n)
  refused_alone n h = samples_refused 1 (m ∷ others) k (subst Planned h planned)

  module _ (h : Accepted m) (r : Rounding (values_of m k).position) where
    set_given : Ok (N (intervals_of m)) ≡ axes_result 1 (m ∷ others)
    set_given = subst Planned (accepted_outcome m h) planned

    within : k ≤ N (intervals_of m) → Alone (Ok (sample_of m.start (values_of m k) r))
    within l =
        samples_given 1 (m ∷ others) k set_given l
        (placed_rows 1 (m ∷ others) k
        (ap (λ (x : Sample). padded most_axes (rest_sample (pos 0)) (x ∷ [])) (row_of (common_samples (m ∷ [])) m k (same_values m k h) r)))

    past : N (intervals_of m) < k → Alone (Err 9)
    past = samples_past 1 (m ∷ others) k set_given

    accepted_alone : Alone (sample_with (fourth_order m) k r)
    unfolding sample_with samples_of
    accepted_alone =
        elim (dec_le k (N (intervals_of m))) [
          | yes l ↦ subst Alone (sym (passes (checks m) (accepted_passes m h) 9 _ _ (le-ltb (N (intervals_of m)) k l))) (within l)
          | no l ↦
              let l : N (intervals_of m) < k = omega (arith, l) in
              subst Alone (sym (applies (checks m) (accepted_passes m h) 9 _ _ (lt-ltb (N (intervals_of m)) k l))) (past l)
        ]

  by_outcome : (p : Result Plan ℕ) → outcome_of m ≡ p → (r : Rounding (values_of m k).position) → Alone (sample_with (fourth_order m) k r)
  unfolding sample_with outcome_of
  by_outcome (Err n) q r =
      subst Alone (refused_on (checks m) _ _ _ n (sym q)) (refused_alone n q)
  by_outcome (Ok x) q r = accepted_alone ((rule_accepted m).0 (subst IsPlanned (sym q) tt)) r

pub sample_of_one : SampleOfOneClaim
sample_of_one m others k o s =
    subst (Alone m others k) (sym s.outcome_is) (by_outcome m others k (outcome_of m) refl s.rounding)
