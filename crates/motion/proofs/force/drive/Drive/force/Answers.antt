-- `force` meets its contract.
use mathlib.Core.Path.{refl}
use Rattle.motion.specs.ForceRows.Force.{filtered_force}
use Rattle.motion.specs.Inner.Rows.{force_by}
use Rattle.motion.proofs.force.drive.Drive.force.Goals as goal

pub returns-in-Rigid : goal.returns-in-Rigid
unfolding force_by
returns-in-Rigid c = rw c.in-Rigid.is refl

pub returns-in-Filtered : goal.returns-in-Filtered
unfolding force_by filtered_force
returns-in-Filtered c = rw c.in-Filtered.is refl
