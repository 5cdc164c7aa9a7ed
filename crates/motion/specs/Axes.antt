-- Document 02, requests 1 and 7: one sample of every axis of a set.
use Rattle.std.specs.Prelude.{cond, List, [], ◌∷◌, ◌++◌, ◌≡◌, ℕ, ltb, ℤ, pos, replicate, Result, Ok, Err}
use Rattle.planner.specs.Intervals.{Intervals, D}
use Rattle.planner.specs.Refusals.{Check, check, first_refusal}
use Rattle.planner.specs.Outcome.{distance_of, intervals_of}
use Rattle.planner.specs.Axes.{most_axes, raised, at_rest, common_samples, with_place, counted, axes_checks, axes_places}
use Rattle.planner.specs.declared.Move.{Move}
use Rattle.motion.specs.Sampling.{Values, values_at, units_of, sample_of, Rounding}
use Rattle.motion.specs.Answer.{number}
use Rattle.motion.specs.declared.Sample.{Sample}
use Rattle.planner.specs.declared.AxisRefusal.{AxisRefusal}
use Rattle.motion.specs.declared.MotionRefusal.{MotionRefusal}

abbrev pub rest_values : Values
rest_values = record { snap = pos 0; jerk = pos 0; acceleration = pos 0; velocity = pos 0; position = pos 0 }

-- Of an axis at rest at this count. At 0 it is all zeros, as in the places without an axis.
abbrev pub rest_sample : (start : ℤ) → Sample
rest_sample start =
    record {
      snap = pos 0;
      jerk = pos 0;
      acceleration = pos 0;
      velocity = pos 0;
      position = units_of start;
      count = start;
      remainder = pos 0;
    }

-- One axis, where the common duration is n.
module _ (n : ℕ) (m : Move) where
  abbrev t : Intervals
  t = raised n (intervals_of m)

  -- Its values at sample k.
  unfoldable pub axis_values : (k : ℕ) → Values
  axis_values k = cond (at_rest m) rest_values (values_at m.displacement t (D t (distance_of m)) k)

  -- Its exact profile times P. At rest "its exact profile is 0 throughout".
  unfoldable pub axis_exact : (k : ℕ) → ℤ
  axis_exact k = cond (at_rest m) (pos 0) (values_at m.displacement t (distance_of m) k).position

module _ (count : ℕ) (moves : List Move) (k : ℕ) where
  -- "with refusal 9 for k above the common N, after the axes"
  abbrev pub axes_sample_checks : List (Check (ℕ × ℕ))
  axes_sample_checks = axes_checks count moves ++ (with_place 0 (check 9 (ltb (common_samples (counted count moves)) k)) ∷ [])

  unfoldable pub axes_sample_result : Result (Unit {0}) (ℕ × ℕ)
  axes_sample_result = first_refusal axes_sample_checks (Ok tt)

  -- The eight places: the values of each axis, its count and its remainder.
  pub record SamplesPlaced (o : Result (Unit {0}) (ℕ × ℕ)) (samples : List Sample) : Type 0 where
    pub rounding : (position : ℤ) → Rounding position
    pub samples_are :
        samples
        ≡ axes_places count moves (rest_sample (pos 0))
        (λ m. let v = axis_values (common_samples (counted count moves)) m k in sample_of m.start v (rounding v.position)) o

  -- What the one-sample entry of a set promises of the outcome of its answer, and of its samples.
  pub record SamplesAxes (o : Result (Unit {0}) (ℕ × ℕ)) (samples : List Sample) : Type 0 where
    pub outcome_is : o ≡ axes_sample_result
    pub placed : SamplesPlaced axes_sample_result samples

-- Every field of every case is read.
abbrev pub axes_sample_outcome : Result (List Sample) (AxisRefusal MotionRefusal) → Result (Unit {0}) (ℕ × ℕ)
axes_sample_outcome (Ok x) = Ok tt
axes_sample_outcome (Err x) = Err (number x.refusal, x.place)

-- The samples of an answer: none at a refusal, so zeros in all places.
abbrev pub axes_samples : Result (List Sample) (AxisRefusal MotionRefusal) → List Sample
axes_samples (Ok x) = x
axes_samples (Err x) = replicate most_axes (rest_sample (pos 0))
