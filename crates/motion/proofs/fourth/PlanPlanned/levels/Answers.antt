use native.Mathlib.Omega.{arith}
use Rattle.motion.proofs.StateLaws.{snap_small}
use Rattle.motion.proofs.fourth.PlanPlanned.levels.Goals as goal

pub of-requires : goal.of-requires
of-requires c = omega (arith, snap_small c.args.m.now.displacement _ _ c.requires)
