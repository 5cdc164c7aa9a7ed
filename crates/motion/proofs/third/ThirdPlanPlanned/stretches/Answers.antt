use Rattle.profile.specs.Profile.{seven_segments, level}
use Rattle.motion.specs.Sampling.{third_values_at}
use Rattle.motion.proofs.OrderLaws.{third_follows}
use Rattle.motion.proofs.third.ThirdPlanPlanned.stretches.Goals as goal

pub returns-clause-follow : goal.returns-clause-follow
unfolding seven_segments level third_values_at
returns-clause-follow c =
    rw (
      c.with_plus-plus.ensures,
      c.with_minus-minus.ensures,
      c.without_level-q.ensures,
      c.without_level-r.ensures,
      c.without_level-after.ensures,
      c.levels-levels.ensures.positive_is,
      c.levels-levels.ensures.negative_is,
    )
    (third_follows c.args.m.now c.args.self.now c.args.trailing)
