-- What one pass over an axis of a set needs of its plan, and what it leaves. Only proofs cite it.
use Rattle.std.specs.Prelude.{true, false, ◌≡◌, ℕ, ◌≤◌, nat_abs}
use Rattle.planner.specs.Outcome.{most_counts, intervals_in}
use Rattle.planner.specs.Axes.{at_rest}
use Rattle.planner.specs.declared.Move.{Move}
use Rattle.planner.specs.declared.Plan.{Plan}
use Rattle.motion.specs.Axes.{rest_sample}
use Rattle.motion.specs.Inner.Planned.{PlanInRange, samples_in, IsSample}
use Rattle.motion.specs.declared.Sample.{Sample}

-- The start is in its span, and a moving axis has a plan with a sample k.
pub record AxisInRange (m : Move) (x : Plan) (k : ℕ) : Type 0 where
  pub start : nat_abs m.start ≤ most_counts
  pub plan : at_rest m ≡ false → PlanInRange x
  pub sample : at_rest m ≡ false → k ≤ samples_in x

pub record IsAxisSample (m : Move) (x : Plan) (k : ℕ) (r : Sample) : Type 0 where
  pub moving : at_rest m ≡ false → IsSample m.displacement (intervals_in x) x.snap m.start k r
  pub resting : at_rest m ≡ true → r ≡ rest_sample m.start
