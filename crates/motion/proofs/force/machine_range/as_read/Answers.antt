-- `as_read` meets its contract.
use lib.Ieee.{of_bits}
use Rattle.motion.proofs.ForceRows.MachineLaws.{zero_read, other_read}
use Rattle.motion.proofs.force.machine_range.as_read.Goals as goal

pub returns-then-x : goal.returns-then-x
unfolding of_bits
returns-then-x c = zero_read _ c.if-x.true

pub returns : goal.returns
unfolding of_bits
returns c = other_read _ c.if-x.false
