-- The samples of a planned set, one axis after the other: what a pass needs of the plans, and what it leaves.
use mathlib.Core.Path.{◌≡◌, sym, ap, subst, ◌∙◌}
use mathlib.Core.List.{List, map}
use Prim.Native.Nat.{ℕ, ◌+◌, ◌≤◌, ◌<◌}
use native.Mathlib.Omega.{arith}
use lib.ListN.{length, take, set, get_or, length-set}
use lib.Seq.{take_all}
use Rattle.planner.specs.Refusals.{padded}
use Rattle.std.specs.Prelude.{Result, Ok, Err}
use Rattle.planner.specs.Axes.{most_axes, rest_plan, axis_plan, common_samples, axes_outcome, axes_result, PlansAxes}
use Rattle.planner.specs.AxesClaims.{axis_at}
use Rattle.planner.specs.declared.AxesPlan.{AxesPlan}
use Rattle.planner.specs.declared.AxisRefusal.{AxisRefusal}
use Rattle.planner.specs.declared.Move.{Move}
use Rattle.planner.specs.declared.Refusal.{Refusal}
use Rattle.motion.specs.declared.MotionRefusal.{MotionRefusal}
use Rattle.motion.specs.declared.MotionRefusal.TheVariants.{Unplanned}
use Rattle.planner.specs.declared.Plan.{Plan}
use Rattle.planner.proofs.AxesAnswers.{count_most, all_accepted}
use Rattle.planner.proofs.AxesAcceptance.{planned_common, axis_plan_at}
use Rattle.planner.proofs.CountedLaws.{counted_at, counted_length, below_count}
use Rattle.planner.proofs.PaddedLaws.{padded_next}
use Rattle.motion.specs.Axes.{SamplesAxes, axes_sample_outcome, axes_samples}
use Rattle.motion.specs.Inner.PlannedAxes.{AxisInRange, IsAxisSample}
use Rattle.motion.specs.declared.Sample.{Sample}
use Rattle.motion.proofs.AxisSampling.{is_row, axis_in_range}
use Rattle.motion.proofs.AxesSampling.{zeros, row, placed_rows, samples_given, samples_refused}

-- the places of so many axes at sample k
module _ (count : ℕ) (moves : List Move) (k : ℕ) where
  abbrev rows : List Move → List Sample
  rows axes = padded most_axes zeros (map (row count moves k) axes)

  -- the places before i hold the rule's rows
  pub record SampledSoFar (samples : List Sample) (i : ℕ) : Type 0 where
    pub samples_are : samples ≡ rows (take i (take count moves))
    pub places : length samples ≡ most_axes

-- the set was planned, with the common duration n
module _ {count n : ℕ} {moves : List Move} {plans : List Plan}
    (sent : length moves ≡ most_axes) (p : PlansAxes count moves (Ok n) plans) where
  abbrev axes : List Move
  axes = take count moves

  pub most : count ≤ most_axes
  most = count_most count moves p.outcome_is

  pub plan_is :
      {i : ℕ} → i < count → get_or plans i rest_plan ≡ axis_plan (axis_at moves i) (common_samples axes)
  plan_is {i} h = axis_plan_at count moves p sent i h ∙ ap (axis_plan (axis_at moves i)) (planned_common count moves p)

  -- of the axes that the loop goes over
  module _ {i : ℕ} (h : i < length axes) where
    own_plan : get_or plans i rest_plan ≡ axis_plan (axis_at axes i) (common_samples axes)
    own_plan =
        let l = below_count count moves sent most i h in
        plan_is l ∙ ap (λ (m : Move). axis_plan m (common_samples axes)) (sym (counted_at count moves i l))

    pub axis_needs : {k : ℕ} → k ≤ n → AxisInRange (axis_at axes i) (get_or plans i rest_plan) k
    axis_needs {k} l =
        axis_in_range axes (all_accepted count moves p.outcome_is) i _ h own_plan k
        (subst (λ (n : ℕ). k ≤ n) (planned_common count moves p) l)

    pub sampled_next :
        {k : ℕ} {s : List Sample} {x : Sample} → SampledSoFar count moves k s i
        → IsAxisSample (axis_at axes i) (get_or plans i rest_plan) k x → SampledSoFar count moves k (set s i x) (i + 1)
    sampled_next {k} {s} {x} f is =
        record {
          samples_are =
              ap (λ (xs : List Sample). set xs i x) f.samples_are
              ∙ padded_next (row count moves k) most_axes zeros axes _ i h (omega (arith, h, most, counted_length count moves sent most))
              (is_row (common_samples axes) (axis_at axes i) k own_plan is);
          places = length-set s i x ∙ f.places;
        }

  -- at the end the places are the rule's
  pub sampled_all : {k i : ℕ} {s : List Sample} → SampledSoFar count moves k s i → length axes ≤ i → k ≤ n
      → SamplesAxes count moves k (Ok tt) s
  sampled_all {k} {i} f all l =
      samples_given count moves k p.outcome_is l
      (placed_rows count moves k (f.samples_are ∙ ap (rows count moves k) (take_all i axes all)))

-- a set that is refused has no samples
pub set_refused :
    (count : ℕ) (moves : List Move) (k : ℕ) {answer : Result AxesPlan (AxisRefusal Refusal)} {r : Result (List Sample) (AxisRefusal MotionRefusal)}
    → axes_outcome answer ≡ axes_result count moves
    → (x : AxisRefusal Refusal) × (answer ≡ Err x) × (r ≡ Err (record { place = x.place; refusal = Unplanned x.refusal }))
    → SamplesAxes count moves k (axes_sample_outcome r) (axes_samples r)
set_refused count moves k h (x, is, r_is) = rw r_is (samples_refused count moves k (ap axes_outcome (sym is) ∙ h))
