-- Document 01, "The profile": the five values of a sample, and what the one-sample entry gives; document 02, 2: the remainder; 3: the
-- values in the third order; and 7: the start.
use Rattle.std.specs.Prelude.{List, [], ◌∷◌, ◌++◌, ◌≡◌, ℕ, ◌*◌, ◌≤◌, ◌<◌, ltb, ℤ, pos, nat_abs, ◌+ℤ◌, ◌*ℤ◌, Result, Ok}
use Rattle.planner.specs.Quantities.{units_per_count, along}
use Rattle.planner.specs.Intervals.{Intervals, p, q, r, s, P, D}
use Rattle.planner.specs.Refusals.{Check, check, first_refusal}
use Rattle.planner.specs.Outcome.{distance_of, intervals_of, samples_of, checks}
use Rattle.planner.specs.Third.{ThirdIntervals, P₃, jerk_size, third_intervals_of, third_samples_of, third_checks}
use Rattle.planner.specs.declared.Move.{Move}
use Rattle.profile.specs.Profile.{seven_segments, switched_in, sum}
use Rattle.profile.specs.Profile as profile
use Rattle.motion.specs.declared.Sample.{Sample}

-- The position is the distance from the start.
pub record Values : Type 0 where
  pub snap : ℤ
  pub jerk : ℤ
  pub acceleration : ℤ
  pub velocity : ℤ
  pub position : ℤ

-- At sample k of the profile with the intervals t and a snap of size D, in the direction of X.
unfoldable pub values_at : (X : ℤ) (t : Intervals) (D k : ℕ) → Values
values_at X t D k =
    record {
      snap = along X (profile.snap (p t) (q t) (r t) (s t) D k);
      jerk = along X (profile.jerk (p t) (q t) (r t) (s t) D k);
      acceleration = along X (profile.acceleration (p t) (q t) (r t) (s t) D k);
      velocity = along X (profile.velocity (p t) (q t) (r t) (s t) D k);
      position = along X (profile.position (p t) (q t) (r t) (s t) D k);
    }

-- The same in the third order, with a jerk of size D: "Three sums replace four", and "A sample's snap is given as 0".
unfoldable pub third_values_at : (X : ℤ) (t : ThirdIntervals) (D k : ℕ) → Values
third_values_at X t D k =
    let jerk = switched_in (seven_segments t.b t.c t.e) D in
    record {
      snap = pos 0;
      jerk = along X (jerk k);
      acceleration = along X (sum jerk k);
      velocity = along X (sum (sum jerk) k);
      position = along X (sum (sum (sum jerk)) k);
    }

module _ (m : Move) where
  -- Of the move, by its rules.
  unfoldable pub values_of : (k : ℕ) → Values
  values_of = values_at m.displacement (intervals_of m) (D (intervals_of m) (distance_of m))

  -- "the exact profile times P is the profile with W for D": the paper's E.
  unfoldable pub exact_position_times_p : (k : ℕ) → ℤ
  exact_position_times_p k = (values_at m.displacement (intervals_of m) (distance_of m) k).position

  -- In the third order.
  unfoldable pub third_values_of : (k : ℕ) → Values
  third_values_of = third_values_at m.displacement (third_intervals_of m) (jerk_size (third_intervals_of m) (distance_of m))

  unfoldable pub third_exact_position_times_p : (k : ℕ) → ℤ
  third_exact_position_times_p k = (third_values_at m.displacement (third_intervals_of m) (distance_of m) k).position

-- What the rules of one order say of a move: the planner's checks, N, P, the start, the values at each sample, and E.
pub record Motion : Type 0 where
  pub plan_checks : List (Check ℕ)
  pub samples : ℕ
  pub product : ℕ
  pub start : ℤ
  pub values : (k : ℕ) → Values
  pub exact : (k : ℕ) → ℤ

abbrev pub fourth_order : Move → Motion
fourth_order m =
    record {
      plan_checks = checks m;
      samples = samples_of m;
      product = P (intervals_of m);
      start = m.start;
      values = values_of m;
      exact = exact_position_times_p m;
    }

abbrev pub third_order : Move → Motion
third_order m =
    record {
      plan_checks = third_checks m;
      samples = third_samples_of m;
      product = P₃ (third_intervals_of m);
      start = m.start;
      values = third_values_of m;
      exact = third_exact_position_times_p m;
    }

-- c counts in sub-count units: the paper's G·c.
abbrev pub units_of : ℤ → ℤ
units_of c = pos units_per_count *ℤ c

-- "its position to the nearest count, halves away from zero", and "the signed remainder, position minus G times the count", which "lies from
-- −2^39 to 2^39": these are the count and the remainder of x, and the only ones (`one_rounding`). Request 7: "rounding is of the distance
-- from" the start, "halves away from it", so x is that distance.
pub record RoundsTo (x count remainder : ℤ) : Type 0 where
  pub position_is : x ≡ units_of count +ℤ remainder
  pub nearest : 2 * nat_abs remainder ≤ units_per_count
  pub half_away : 2 * nat_abs remainder ≡ units_per_count → nat_abs x < nat_abs (units_of count)

pub record Rounding (x : ℤ) : Type 0 where
  pub count : ℤ
  pub remainder : ℤ
  pub rounded : RoundsTo x count remainder

-- "Every position gains G times the start": the position at this distance from it.
abbrev pub position_from : (start distance : ℤ) → ℤ
position_from start distance = units_of start +ℤ distance

-- "these five values and the count", and the remainder. "Every position gains G times the start, every count the start".
abbrev pub sample_of : (start : ℤ) (v : Values) → Rounding v.position → Sample
sample_of start v r =
    record {
      snap = v.snap;
      jerk = v.jerk;
      acceleration = v.acceleration;
      velocity = v.velocity;
      position = position_from start v.position;
      count = start +ℤ r.count;
      remainder = r.remainder;
    }

-- Of a move in either order.
module _ (x : Motion) (k : ℕ) where
  -- The planner's checks, then 9: "sample asked above N".
  abbrev pub sample_checks : List (Check ℕ)
  sample_checks = x.plan_checks ++ (check 9 (ltb x.samples k) ∷ [])

  unfoldable pub sample_with : Rounding (x.values k).position → Result Sample ℕ
  sample_with r = first_refusal sample_checks (Ok (sample_of x.start (x.values k) r))

  -- What the one-sample entry promises of the outcome of its answer.
  pub record Samples (o : Result Sample ℕ) : Type 0 where
    pub rounding : Rounding (x.values k).position
    pub outcome_is : o ≡ sample_with rounding
