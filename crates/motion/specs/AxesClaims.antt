-- What the promises of a set's entries come to, over any answers that meet them: demand 3 of every axis (`demand_3_axes`), with what its E
-- is (`axis_exact_profile`); when a sample is refused (`axes_refusals`, `refused_at_sample`); that the promise leaves one answer
-- (`one_axes_sample`) and reads the counted moves alone (`samples_counted_alone`); and that a move alone is the set of one here too
-- (`sample_of_one`).
use Rattle.std.specs.Prelude.{List, ◌∷◌, ◌≡◌, ℕ, ◌≤◌, ◌<◌, pos, ◌-ℤ◌, length, get_or, take, Result, Ok, Err}
use Rattle.planner.specs.Intervals.{P}
use Rattle.planner.specs.Outcome.{intervals_of}
use Rattle.planner.specs.Axes.{most_axes, raised, common_samples, counted, PlansAxes}
use Rattle.planner.specs.AxesClaims.{Moving, Resting, axis_at, AcceptedAxes, CommonDuration, outcome_of_one, places_of_one}
use Rattle.planner.specs.declared.AxisRefusal.{AxisRefusal}
use Rattle.planner.specs.declared.Move.{Move}
use Rattle.planner.specs.declared.Plan.{Plan}
use Rattle.motion.specs.Sampling.{units_of, fourth_order, Samples}
use Rattle.motion.specs.Axes.{rest_sample, axis_exact, SamplesAxes, axes_sample_outcome, axes_samples}
use Rattle.motion.specs.Claims.{Only, RefusedBy}
use Rattle.motion.specs.Demand3.{KeptSnap, Kept, ExactIn}
use Rattle.motion.specs.declared.Sample.{Sample}
use Rattle.motion.specs.declared.MotionRefusal.{MotionRefusal}

-- "The half-count and bound rules now hold for every axis of a set": the lines of demand 3 over samples 0 to the common N, with the P and E of
-- the axis. One at rest stays at its start, and its exact profile, 0 throughout, "is compared as it stands, not times P".
pub record KeptAxis (n : ℕ) (m : Move) (at : ℕ → Sample) : Type 0 where
  pub kept_snap : KeptSnap m n at
  pub kept : Kept m n (P (raised n (intervals_of m))) (axis_exact n m) at
  pub at_rest : Resting m → (k : ℕ) → (at k ≡ rest_sample m.start) × (axis_exact n m k ≡ (at k).position -ℤ units_of m.start)

-- What E is of a moving axis: the exact profile of its raised intervals.
abbrev pub AxisExactProfileClaim : Type 0
AxisExactProfileClaim = (n : ℕ) (m : Move) → Moving m → ExactIn m (raised n (intervals_of m)) (axis_exact n m)

module _ (count : ℕ) (moves : List Move) where
  -- The set was planned with the common N and these plans, and `samples k` is what its one-sample entry gives at each k.
  pub record Demand3Axes
      (o : Result ℕ (ℕ × ℕ)) (plans : List Plan) (sample : ℕ → Result (Unit {0}) (ℕ × ℕ)) (samples : ℕ → List Sample) : Type 0 where
    pub N : ℕ
    pub planned : o ≡ Ok N
    pub duration : CommonDuration count moves plans N
    -- The values that the entry gives of each axis, for each k from 0 to N.
    pub at : (axis k : ℕ) → Sample
    pub answered : (k : ℕ) → k ≤ N → sample k ≡ Ok tt
    pub placed : (i k : ℕ) → i < count → k ≤ N → get_or (samples k) i (rest_sample (pos 0)) ≡ at i k
    pub each_kept : (i : ℕ) → i < count → KeptAxis N (axis_at moves i) (at i)

  abbrev pub Demand3AxesClaim : Type 0
  Demand3AxesClaim =
      length moves ≡ most_axes → AcceptedAxes count moves
      → (o : Result ℕ (ℕ × ℕ)) (plans : List Plan) → PlansAxes count moves o plans
      → (sample : ℕ → Result (Unit {0}) (ℕ × ℕ)) (samples : ℕ → List Sample)
      → ((k : ℕ) → k ≤ common_samples (counted count moves) → SamplesAxes count moves k (sample k) (samples k))
      → Demand3Axes o plans sample samples

  -- A sample of an accepted set is refused exactly where k is above the common N, with 9 and place 0.
  abbrev pub AxesRefusalsClaim : Type 0
  AxesRefusalsClaim =
      length moves ≡ most_axes → AcceptedAxes count moves
      → (k : ℕ) (o : Result (Unit {0}) (ℕ × ℕ)) (samples : List Sample) → SamplesAxes count moves k o samples
      → RefusedBy o (Only (9, 0) (common_samples (counted count moves) < k))

  -- A set that is refused is refused with the same number and place at every sample.
  abbrev pub RefusedAtSampleClaim : Type 0
  RefusedAtSampleClaim =
      (x : ℕ × ℕ) (plans : List Plan) → PlansAxes count moves (Err x) plans
      → (k : ℕ) (o : Result (Unit {0}) (ℕ × ℕ)) (samples : List Sample) → SamplesAxes count moves k o samples → o ≡ Err x

  abbrev pub OneAxesSampleClaim : Type 0
  OneAxesSampleClaim =
      (k : ℕ) (x y : Result (List Sample) (AxisRefusal MotionRefusal))
      → SamplesAxes count moves k (axes_sample_outcome x) (axes_samples x)
      → SamplesAxes count moves k (axes_sample_outcome y) (axes_samples y)
      → x ≡ y

  abbrev pub SamplesCountedAloneClaim : Type 0
  SamplesCountedAloneClaim =
      (others : List Move) → take count moves ≡ take count others
      → (k : ℕ) (o : Result (Unit {0}) (ℕ × ℕ)) (samples : List Sample)
      → SamplesAxes count moves k o samples → SamplesAxes count others k o samples

abbrev pub SampleOfOneClaim : Type 0
SampleOfOneClaim =
    (m : Move) (others : List Move) (k : ℕ) (o : Result Sample ℕ) → Samples (fourth_order m) k o
    → SamplesAxes 1 (m ∷ others) k (outcome_of_one (λ x. tt) o) (places_of_one (rest_sample (pos 0)) o)
