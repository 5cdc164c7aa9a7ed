-- `from` meets its contract.
use lib.Ieee.{of_bits}
use Rattle.motion.specs.ForceRows.Force.{g, alpha, beta}
use Rattle.motion.proofs.ForceRows.MachineLaws.{is_rigid, is_filtered}
use Rattle.motion.proofs.force.drive.DriveFromMachine.from.Goals as goal

pub returns-then-machine : goal.returns-then-machine
unfolding of_bits
returns-then-machine c = is_rigid _ _ c.if-machine.true

pub returns : goal.returns
unfolding of_bits g alpha beta
returns c = is_filtered _ _ c.if-machine.false
