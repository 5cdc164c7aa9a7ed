-- What the one-sample entry of a set promises, case by case.
use borrow.Author.Tests.{lt-ltb, le-ltb}
use mathlib.Core.Path.{◌≡◌, refl, sym, ap, subst, ◌∙◌}
use mathlib.Core.List.{List, [], ◌∷◌}
use Prim.Native.Nat.{ℕ, ◌≤◌, ◌<◌}
use lib.Dec.{ltb}
use lib.IntN.{pos}
use lib.ListN.{length, take, get_or, replicate}
use Rattle.planner.specs.Refusals.{check, first_refusal}
use Rattle.std.specs.Prelude.{Result, Ok, Err}
use Rattle.planner.specs.Axes.{most_axes, common_samples, axes_checks, axes_result, axes_places}
use Rattle.planner.specs.declared.Move.{Move}
use Rattle.planner.proofs.RefusalLaws.{stop, skip, none_left, all_pass, checks_joined, same_refusal}
use Rattle.planner.proofs.AxesAnswers.{all_passed, common_is}
use Rattle.planner.proofs.PaddedLaws.{padded_at}
use Rattle.motion.specs.Sampling.{Values}
use Rattle.motion.specs.Axes.{rest_sample, axis_values, axes_sample_result, SamplesPlaced, SamplesAxes}
use Rattle.motion.specs.declared.Sample.{Sample}
use Rattle.motion.proofs.RoundingLaws.{rounding_of}
use Rattle.motion.proofs.RoundedValues.{one_rounded_sample}
use Rattle.motion.proofs.AxisSampling.{axis_row}

-- the places without an axis
abbrev pub zeros : Sample
zeros = rest_sample (pos 0)

module _ (count : ℕ) (moves : List Move) where
  abbrev axes : List Move
  axes = take count moves

  module _ (k : ℕ) where
    -- the rule's own rows are placed, and no others
    abbrev pub row : Move → Sample
    row m = axis_row (common_samples axes) m k

    module _ {o : Result (Unit {0}) (ℕ × ℕ)} {samples : List Sample} where
      pub placed_rows : samples ≡ axes_places count moves zeros row o → SamplesPlaced count moves k o samples
      placed_rows q = record { rounding = rounding_of; samples_are = q }

      pub only_rows : SamplesPlaced count moves k o samples → samples ≡ axes_places count moves zeros row o
      only_rows x =
          let v : Move → Values = λ m. axis_values (common_samples axes) m k in
          x.samples_are
          ∙ ap (λ (row : Move → Sample). axes_places count moves zeros row o)
          (λ i m. one_rounded_sample m.start (v m) (x.rounding (v m).position) i)

    -- all places are zeros at a refusal
    without :
        {x : ℕ × ℕ} → Err x ≡ axes_sample_result count moves k → SamplesAxes count moves k (Err x) (replicate most_axes zeros)
    without {x} q =
        record {
          outcome_is = q;
          placed =
              subst (λ (o : Result (Unit {0}) (ℕ × ℕ)). SamplesPlaced count moves k o (replicate most_axes zeros)) q (placed_rows refl);
        }

    pub samples_refused :
        {x : ℕ × ℕ} → Err x ≡ axes_result count moves → SamplesAxes count moves k (Err x) (replicate most_axes zeros)
    unfolding axes_result axes_sample_result
    samples_refused q =
        without (sym (checks_joined (axes_checks count moves) _ _ ∙ same_refusal (axes_checks count moves) _ _ _ (sym q)))

    -- past the checks of the set, 9 is left
    pub own_check :
        {n : ℕ} → Ok n ≡ axes_result count moves → {o : Result (Unit {0}) (ℕ × ℕ)}
        → o ≡ first_refusal (check (9, 0) (ltb (common_samples axes) k) ∷ []) (Ok tt)
        → o ≡ axes_sample_result count moves k
    unfolding axes_sample_result
    own_check h q = q ∙ sym (checks_joined (axes_checks count moves) _ _ ∙ all_pass (axes_checks count moves) _ (all_passed count moves h))

    module _ {n : ℕ} (h : Ok n ≡ axes_result count moves) where
      pub result_past : n < k → Err (9, 0) ≡ axes_sample_result count moves k
      result_past l = own_check h (stop (lt-ltb _ k (subst (λ (n : ℕ). n < k) (common_is count moves h) l))).is

      pub samples_past : n < k → SamplesAxes count moves k (Err (9, 0)) (replicate most_axes zeros)
      samples_past l = without (result_past l)

      -- within the duration a sample is given
      pub result_given : k ≤ n → Ok tt ≡ axes_sample_result count moves k
      result_given l = own_check h (skip (le-ltb _ k (subst (λ (n : ℕ). k ≤ n) (common_is count moves h) l)) none_left).is

      pub samples_given : {samples : List Sample} → k ≤ n → SamplesPlaced count moves k (Ok tt) samples
          → SamplesAxes count moves k (Ok tt) samples
      samples_given {samples} l p =
          let q = result_given l in
          record { outcome_is = q; placed = subst (λ (o : Result (Unit {0}) (ℕ × ℕ)). SamplesPlaced count moves k o samples) q p }

      -- and its place holds the rule's row
      pub sampled_row :
          {o : Result (Unit {0}) (ℕ × ℕ)} {samples : List Sample} → SamplesAxes count moves k o samples → k ≤ n
          → (i : ℕ) (d : Move) → i < length axes → get_or samples i zeros ≡ axis_row (common_samples axes) (get_or axes i d) k
      sampled_row {o} {samples} p l i d within =
          ap (λ (l : List Sample). get_or l i zeros)
          (only_rows p.placed ∙ ap (axes_places count moves zeros row) (sym (result_given l)))
          ∙ padded_at row most_axes zeros axes zeros d i within
