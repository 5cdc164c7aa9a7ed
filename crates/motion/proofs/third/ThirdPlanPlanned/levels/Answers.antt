use native.Mathlib.Omega.{arith}
use Rattle.motion.proofs.ThirdStates.{jerk_small}
use Rattle.motion.proofs.third.ThirdPlanPlanned.levels.Goals as goal

pub of-requires : goal.of-requires
of-requires c = omega (arith, jerk_small c.args.m.now.displacement _ _ c.requires)
