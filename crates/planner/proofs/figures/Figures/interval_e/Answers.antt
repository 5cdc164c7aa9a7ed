-- `interval_e` meets its contract: one search, not below a+b+c.
use native.Mathlib.Omega.{arith}
use Rattle.planner.specs.Intervals.{interval_e}
use Rattle.planner.proofs.CapLaws.{between, agrees}
use Rattle.planner.proofs.Forms.{linear_form}
use Rattle.planner.proofs.figures.Figures.interval_e.Goals as goal

pub returns : goal.returns
unfolding interval_e
returns c = agrees 16388 (between _ (linear_form _ 0) c.least_interval.ensures) (omega arith) (omega arith) (omega arith) (omega arith)
