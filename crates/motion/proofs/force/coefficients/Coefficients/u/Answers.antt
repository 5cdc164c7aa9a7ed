-- `u` meets its contract: each cast is exact, and the operations stand in the order of the rule.
use mathlib.Core.Path.{refl}
use lib.Ieee.{of_bits}
use mir.Syntax.{w64}
use mir.Facts.{to_z-of_z}
use Rattle.motion.specs.ForceRows.Doubled.{cast}
use Rattle.motion.specs.ForceRows.Force.{weighted_sum}
use Rattle.motion.specs.Inner.Rows.{u_by}
use Rattle.motion.proofs.ForceRows.CastLaws.{within_53}
use Rattle.motion.proofs.force.coefficients.Coefficients.u.Goals as goal

pub returns : goal.returns
unfolding of_bits cast weighted_sum u_by
returns c =
    let p = c.requires in
    let w = c.args.w in
    rw (
      to_z-of_z {w = w64} {z = w.d2} (within_53 _ p.d2),
      to_z-of_z {w = w64} {z = w.j2} (within_53 _ p.j2),
      to_z-of_z {w = w64} {z = w.a2} (within_53 _ p.a2),
      to_z-of_z {w = w64} {z = w.v2} (within_53 _ p.v2),
    )
    refl
