use Rattle.profile.specs.Profile.{segments, level}
use Rattle.motion.proofs.OrderLaws.{fourth_follows}
use Rattle.motion.proofs.fourth.PlanPlanned.stretches.Goals as goal

pub returns-clause-follow : goal.returns-clause-follow
unfolding segments level
returns-clause-follow c =
    rw (
      c.with_plus-plus.ensures,
      c.with_minus-minus.ensures,
      c.without_level-q.ensures,
      c.without_level-r.ensures,
      c.without_level-s.ensures,
      c.without_level-after.ensures,
      c.levels-levels.ensures.positive_is,
      c.levels-levels.ensures.negative_is,
    )
    (fourth_follows c.args.m.now c.args.self.now c.args.trailing)
