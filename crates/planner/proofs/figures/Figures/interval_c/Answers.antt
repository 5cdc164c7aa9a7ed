-- `interval_c` meets its contract: the two searches, from the last to the first, none below a+b.
use native.Mathlib.Omega.{arith}
use Rattle.planner.specs.Intervals.{interval_c}
use Rattle.planner.proofs.CapLaws.{between, between_min, agrees}
use Rattle.planner.proofs.Forms.{linear_form, square_form}
use Rattle.planner.proofs.figures.Figures.interval_c.Goals as goal

pub returns : goal.returns
unfolding interval_c
returns c =
    agrees 8194
    (between_min _ (square_form _ _)
    (between _ (linear_form _ _) c.least_interval-by_velocity.ensures)
    c.least_interval.ensures)
    (omega arith) (omega arith) (omega arith) (omega arith)
