-- `from` meets its contract: the operations are those of the formulas, in their order.
use mathlib.Core.Path.{refl}
use Rattle.motion.specs.ForceRows.Force.{q1, q2, q3, q4}
use Rattle.motion.proofs.force.coefficients.CoefficientsFromMachine.from.Goals as goal

pub returns : goal.returns
unfolding q1 q2 q3 q4
returns c = record { q1_is = refl; q2_is = refl; q3_is = refl; q4_is = refl }
