-- `interval_a` meets its contract: the four searches, from the last to the first.
use native.Mathlib.Omega.{arith}
use Rattle.planner.specs.Intervals.{interval_a}
use Rattle.planner.proofs.BoundLaws.{one_interval_a}
use Rattle.planner.proofs.CapLaws.{between, between_min, agrees_from_one}
use Rattle.planner.proofs.Forms.{power_form, linear_form}
use Rattle.planner.proofs.figures.Figures.interval_a.Goals as goal

pub returns : goal.returns
unfolding interval_a
returns c =
    agrees_from_one 4097
    (between_min _ (power_form _ 3)
    (between_min _ (power_form _ 2)
    (between_min _ (power_form _ 1)
    (between _ (linear_form _ 0) c.least_interval-by_jerk.ensures)
    c.least_interval-by_acceleration.ensures)
    c.least_interval-by_velocity.ensures)
    c.least_interval.ensures)
    (one_interval_a _ _ _ _ _) (omega arith) (omega arith)
