-- Document 01, "What demand 3 says": its lines, of any function `at` that gives the values of each sample k from 0 to N, with the product P
-- and E, the exact profile times P, all plain; then that what the entries give for an accepted move keeps them, in either order.
use Rattle.std.specs.Prelude.{List, ◌≡◌, ℕ, ◌+◌, ◌≤◌, ◌<◌, ℤ, pos, nat_abs, ◌+ℤ◌, ◌-ℤ◌, ◌*ℤ◌, length, get_or, ◌≤ℤ◌, ◌<ℤ◌, Result, Ok}
use Rattle.planner.specs.Quantities.{units_per_count, along}
use Rattle.planner.specs.Intervals.{Intervals, p, q, r, s, N, P}
use Rattle.planner.specs.Outcome.{distance_of, intervals_of, samples_of}
use Rattle.planner.specs.Claims.{Accepted}
use Rattle.planner.specs.Third.{ThirdIntervals, N₃, P₃, third_intervals_of, third_samples_of}
use Rattle.planner.specs.ThirdClaims.{ThirdAccepted}
use Rattle.planner.specs.declared.Move.{Move}
use Rattle.profile.specs.Profile.{segments, seven_segments, switched_in, sum}
use Rattle.motion.specs.Sampling.{exact_position_times_p, third_values_of, third_exact_position_times_p, units_of, Motion, fourth_order, third_order, Samples}
use Rattle.motion.specs.Tables.{FillsPositions}
use Rattle.motion.specs.declared.Sample.{Sample}

-- The lines on the snap.
pub record KeptSnap (m : Move) (N : ℕ) (at : ℕ → Sample) : Type 0 where
  -- Sums from rest.
  pub jerk_rest : (at 0).jerk ≡ pos 0
  pub jerk_sum : (k : ℕ) → k < N → (at (k + 1)).jerk ≡ (at k).jerk +ℤ (at k).snap
  -- Bound rule, as it was sent.
  pub snap_bound : (k : ℕ) → k ≤ N → nat_abs (at k).snap ≤ m.snap

-- Half-count rule, of any positions.
module _ (X : ℤ) (N P : ℕ) (E position : ℕ → ℤ) where
  -- What the position lacks of the exact profile, times P: for a positive X, and for a negative one.
  abbrev lack : (k : ℕ) → ℤ
  lack k = E k -ℤ pos P *ℤ position k

  abbrev lack_back : (k : ℕ) → ℤ
  lack_back k = pos P *ℤ position k -ℤ E k

  pub record HalfCount : Type 0 where
    pub never_past : pos 0 <ℤ X → (k : ℕ) → k ≤ N → pos 0 ≤ℤ lack k
    pub below_half : pos 0 <ℤ X → (k : ℕ) → k ≤ N → (pos 2 *ℤ lack k) <ℤ (pos units_per_count *ℤ pos P)
    pub never_past_back : X <ℤ pos 0 → (k : ℕ) → k ≤ N → pos 0 ≤ℤ lack_back k
    pub below_half_back : X <ℤ pos 0 → (k : ℕ) → k ≤ N → (pos 2 *ℤ lack_back k) <ℤ (pos units_per_count *ℤ pos P)

-- All other lines.
module _ (m : Move) (N P : ℕ) (E : ℕ → ℤ) (at : ℕ → Sample) where
  pub record Kept : Type 0 where
    -- Sums from rest. That "for position begins at G times the start instead of 0" (document 02, 7).
    pub acceleration_rest : (at 0).acceleration ≡ pos 0
    pub velocity_rest : (at 0).velocity ≡ pos 0
    pub position_rest : (at 0).position ≡ units_of m.start
    pub acceleration_sum : (k : ℕ) → k < N → (at (k + 1)).acceleration ≡ (at k).acceleration +ℤ (at k).jerk
    pub velocity_sum : (k : ℕ) → k < N → (at (k + 1)).velocity ≡ (at k).velocity +ℤ (at k).acceleration
    pub position_sum : (k : ℕ) → k < N → (at (k + 1)).position ≡ (at k).position +ℤ (at k).velocity
    -- Bound rules, as they were sent.
    pub jerk_bound : (k : ℕ) → k ≤ N → nat_abs (at k).jerk ≤ m.jerk
    pub acceleration_bound : (k : ℕ) → k ≤ N → nat_abs (at k).acceleration ≤ m.acceleration
    pub velocity_bound : (k : ℕ) → k ≤ N → nat_abs (at k).velocity ≤ m.velocity
    -- Never turning back: for a positive X, and for a negative one.
    pub forward : pos 0 <ℤ m.displacement → (k : ℕ) → k ≤ N → pos 0 ≤ℤ (at k).velocity
    pub backward : m.displacement <ℤ pos 0 → (k : ℕ) → k ≤ N → (at k).velocity ≤ℤ pos 0
    -- "The half-count rule reads from the start" (document 02, 7).
    pub half_count : HalfCount m.displacement N P E (λ k. (at k).position -ℤ units_of m.start)
    -- The end: "start plus X, is then the count asked for".
    pub jerk_end : (at N).jerk ≡ pos 0
    pub acceleration_end : (at N).acceleration ≡ pos 0
    pub velocity_end : (at N).velocity ≡ pos 0
    pub count_end : (at N).count ≡ m.start +ℤ m.displacement

-- What the two orders share, for the N, P and E of a motion x of the move: `sample` is what the one-sample entry gives at each k, and
-- `table` the position table.
pub record Demand3Of (m : Move) (x : Motion) (sample : ℕ → Result Sample ℕ) (table : List ℤ) : Type 0 where
  -- The values that the entry gives for each k from 0 to N.
  pub at : ℕ → Sample
  pub answered : (k : ℕ) → k ≤ x.samples → sample k ≡ Ok (at k)
  -- The table has places 0 to N, and its place k is the entry's position at k.
  pub table_places : x.samples < length table
  pub table_position : (k : ℕ) → k ≤ x.samples → get_or table k (pos 0) ≡ (at k).position
  pub kept : Kept m x.samples x.product x.exact at

-- Demand 3: the fourth order adds the lines on the snap.
pub record Demand3 (m : Move) (sample : ℕ → Result Sample ℕ) (table : List ℤ) : Type 0 where
  pub shared : Demand3Of m (fourth_order m) sample table
  pub kept_snap : KeptSnap m (samples_of m) shared.at

-- The third order (document 02, 3) has none. Its jerk, at sample 0 too, is "as its stretches say", and its snap "is given as 0".
pub record ThirdDemand3 (m : Move) (sample : ℕ → Result Sample ℕ) (table : List ℤ) : Type 0 where
  pub shared : Demand3Of m (third_order m) sample table
  pub jerk_switched : (k : ℕ) → k ≤ third_samples_of m → (shared.at k).jerk ≡ (third_values_of m k).jerk
  pub snap_none : (k : ℕ) → k ≤ third_samples_of m → (shared.at k).snap ≡ pos 0

-- For every accepted move: every function of k that meets the one-sample entry's promise at each k from 0 to N, and every table of at
-- least N+1 places that meets the position table's promise.
abbrev pub Demand3For :
    (Accepts : Move → Type 0) (order : Move → Motion) (Claim : Move → (ℕ → Result Sample ℕ) → List ℤ → Type 0) → Type 0
Demand3For Accepts order Claim =
    (m : Move) → Accepts m
    → (sample : ℕ → Result Sample ℕ)
    → ((k : ℕ) → k ≤ (order m).samples → Samples (order m) k (sample k))
    → (old new : List ℤ) (o : Result ℕ ℕ)
    → (order m).samples + 1 ≤ length old
    → FillsPositions (order m) old o new
    → Claim m sample new

abbrev pub Demand3Claim : Type 0
Demand3Claim = Demand3For Accepted fourth_order Demand3

abbrev pub ThirdDemand3Claim : Type 0
ThirdDemand3Claim = Demand3For ThirdAccepted third_order ThirdDemand3

-- "the profile with W for D": the jerk that a snap of size W in the stretches sums up to, and in the third order a jerk of size W in its own.
abbrev pub exact_jerk : Move → Intervals → ℕ → ℤ
exact_jerk m t = sum (switched_in (segments (p t) (q t) (r t) (s t)) (distance_of m))

abbrev pub third_exact_jerk : Move → ThirdIntervals → ℕ → ℤ
third_exact_jerk m t = switched_in (seven_segments t.b t.c t.e) (distance_of m)

-- What E is: that jerk summed three times from rest, in the direction of X; and at sample N it is P·G·X.
pub record IsExactProfile (m : Move) (N P : ℕ) (jerk E : ℕ → ℤ) : Type 0 where
  pub summed : (k : ℕ) → E k ≡ along m.displacement (sum (sum (sum jerk)) k)
  pub at_end : E N ≡ pos P *ℤ units_of m.displacement

-- In four intervals.
abbrev pub ExactIn : Move → Intervals → (E : ℕ → ℤ) → Type 0
ExactIn m t = IsExactProfile m (N t) (P t) (exact_jerk m t)

abbrev pub ExactProfileClaim : Type 0
ExactProfileClaim = (m : Move) → ExactIn m (intervals_of m) (exact_position_times_p m)

abbrev pub ThirdExactProfileClaim : Type 0
ThirdExactProfileClaim =
    (m : Move)
    → let t = third_intervals_of m in
    IsExactProfile m (N₃ t) (P₃ t) (third_exact_jerk m t) (third_exact_position_times_p m)
