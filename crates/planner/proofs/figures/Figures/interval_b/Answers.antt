-- `interval_b` meets its contract: the three searches, from the last to the first, none below a.
use native.Mathlib.Omega.{arith}
use Rattle.planner.specs.Intervals.{interval_b}
use Rattle.planner.proofs.BoundLaws.{one_smallest_b}
use Rattle.planner.proofs.CapLaws.{between, between_min, agrees_above}
use Rattle.planner.proofs.Forms.{linear_form, product_form, square_form}
use Rattle.planner.proofs.figures.Figures.interval_b.Goals as goal

pub returns : goal.returns
unfolding interval_b
returns c =
    let p = c.requires in
    agrees_above 4097
    (rw c.max-lo.ensures at
    (between_min _ (product_form _ _ 2)
    (between_min _ (square_form _ _)
    (between _ (linear_form _ _) c.least_interval-by_acceleration.ensures)
    c.least_interval-by_velocity.ensures)
    c.least_interval.ensures))
    (one_smallest_b _ _ _ _ _ _) p.1 (omega arith) (omega arith)
