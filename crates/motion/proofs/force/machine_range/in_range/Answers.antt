-- `in_range` meets its contract.
use lib.Ieee.{of_bits}
use Rattle.motion.proofs.ForceRows.MachineLaws.{from_zero, below_zero}
use Rattle.motion.proofs.force.machine_range.in_range.Goals as goal

pub returns-then-x : goal.returns-then-x
unfolding of_bits
returns-then-x c = from_zero _ c.if-x.true

pub returns : goal.returns
unfolding of_bits
returns c = below_zero _ c.if-x.false
