-- Document 02, 7: what the start comes to: what a sample and a row gain by it (`start_gained`), how a sample is rounded
-- (`rounded_from_start`), that demand 3 from 0 is as it was (`from_zero`), and that force rows do not depend on it (`one_force_table`).
use Rattle.std.specs.Prelude.{List, map, ◌≡◌, ℕ, ◌<◌, Float, ℤ, pos, ◌+ℤ◌, ◌-ℤ◌, ◌*ℤ◌, length, get_or, Ok}
use Rattle.planner.specs.Axes.{most_axes}
use Rattle.planner.specs.AxesClaims.{Resting, axis_at}
use Rattle.planner.specs.StartClaims.{from_zero}
use Rattle.planner.specs.declared.Move.{Move}
use Rattle.motion.specs.Sampling.{units_of, RoundsTo, Motion, fourth_order, third_order, Samples}
use Rattle.motion.specs.Axes.{rest_sample, axis_exact, SamplesAxes}
use Rattle.motion.specs.ForceRows.Machine.{Machine}
use Rattle.motion.specs.Tables.{FillsPositions, FillsReference, FillsForce}
use Rattle.motion.specs.Demand3.{HalfCount, Kept}
use Rattle.motion.specs.AxesClaims.{KeptAxis}
use Rattle.motion.specs.declared.Sample.{Sample}

-- "Every position gains G times the start, every count the start": the sample that was given from start 0 becomes this one.
abbrev pub gained : (start : ℤ) → Sample → Sample
gained start zero =
    record {
      snap = zero.snap;
      jerk = zero.jerk;
      acceleration = zero.acceleration;
      velocity = zero.velocity;
      position = units_of start +ℤ zero.position;
      count = start +ℤ zero.count;
      remainder = zero.remainder;
    }

-- ".. and every reference row twice G times the start". What the entries give of a move in one order, beside what they give of it from 0.
pub record Gained (order : Move → Motion) (m : Move) : Type 0 where
  pub sample :
      (k : ℕ) (s zero : Sample) → Samples (order m) k (Ok s) → Samples (order (from_zero m)) k (Ok zero) → s ≡ gained m.start zero
  pub positions :
      (old old' new new' : List ℤ) (n n' : ℕ)
      → FillsPositions (order m) old (Ok n) new → FillsPositions (order (from_zero m)) old' (Ok n') new'
      → (k : ℕ) → k < n → get_or new k (pos 0) ≡ units_of m.start +ℤ get_or new' k (pos 0)
  pub reference :
      (old old' new new' : List ℤ) (n n' : ℕ)
      → FillsReference (order m) old (Ok n) new → FillsReference (order (from_zero m)) old' (Ok n') new'
      → (k : ℕ) → k < n → get_or new k (pos 0) ≡ pos 2 *ℤ units_of m.start +ℤ get_or new' k (pos 0)

-- In both orders, and of each axis of a set beside the set with all starts 0.
pub record GainedClaim : Type 0 where
  pub fourth : (m : Move) → Gained fourth_order m
  pub third : (m : Move) → Gained third_order m
  pub axes :
      (count : ℕ) (moves : List Move) → length moves ≡ most_axes
      → (k : ℕ) (samples zeros : List Sample)
      → SamplesAxes count moves k (Ok tt) samples → SamplesAxes count (map from_zero moves) k (Ok tt) zeros
      → (i : ℕ) → i < count
      → get_or samples i (rest_sample (pos 0)) ≡ gained (axis_at moves i).start (get_or zeros i (rest_sample (pos 0)))

-- What the one-sample entries give of a move at sample k: in the fourth order, in the third, and as an axis of a set.
pub data SampledAt (k : ℕ) : Move → Sample → Type 0 where
  in_fourth : (m : Move) (s : Sample) → Samples (fourth_order m) k (Ok s) → SampledAt k m s
  in_third : (m : Move) (s : Sample) → Samples (third_order m) k (Ok s) → SampledAt k m s
  in_set :
      (count : ℕ) (moves : List Move) → length moves ≡ most_axes
      → (samples : List Sample) → SamplesAxes count moves k (Ok tt) samples
      → (i : ℕ) → i < count → SampledAt k (axis_at moves i) (get_or samples i (rest_sample (pos 0)))

-- "rounding is of the distance from it, halves away from it"; and the remainder is "position minus G times the count" as before.
pub record RoundedFrom (start : ℤ) (s : Sample) : Type 0 where
  pub rounded : RoundsTo (s.position -ℤ units_of start) (s.count -ℤ start) s.remainder
  pub remainder_is : s.remainder ≡ s.position -ℤ units_of s.count

abbrev pub RoundedFromStartClaim : Type 0
RoundedFromStartClaim = (k : ℕ) (m : Move) (s : Sample) → SampledAt k m s → RoundedFrom m.start s

-- "Earlier calls and all sheets mean start 0": the lines of demand 3 that read the start, as they were before there was one. The other lines
-- do not read it.
pub record KeptFromZero (m : Move) (N P : ℕ) (E : ℕ → ℤ) (at : ℕ → Sample) : Type 0 where
  pub position_rest : (at 0).position ≡ pos 0
  pub half_count : HalfCount m.displacement N P E (λ k. (at k).position)
  pub count_end : (at N).count ≡ m.displacement

-- Of a move in either order, and of an axis; one at rest has 0 throughout, and its exact profile is its position.
pub record FromZeroClaim (m : Move) : Type 0 where
  pub kept : (N P : ℕ) (E : ℕ → ℤ) (at : ℕ → Sample) → m.start ≡ pos 0 → Kept m N P E at → KeptFromZero m N P E at
  pub at_rest :
      (n : ℕ) (at : ℕ → Sample) → m.start ≡ pos 0 → KeptAxis n m at
      → Resting m → (k : ℕ) → (at k ≡ rest_sample (pos 0)) × (axis_exact n m k ≡ (at k).position)

-- Force rows do not depend on the start: moves that differ in it alone have one table, where both have one.
abbrev pub OneForceTableClaim : Type 0
OneForceTableClaim =
    (m n : Move) → from_zero m ≡ from_zero n
    → (machine : Machine Float) (old new new' : List Float) (rows rows' : ℕ)
    → FillsForce m machine old (Ok rows) new
    → FillsForce n machine old (Ok rows') new'
    → (rows ≡ rows') × (new ≡ new')
