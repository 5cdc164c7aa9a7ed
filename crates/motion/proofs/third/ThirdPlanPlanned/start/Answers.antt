use Rattle.motion.specs.Sampling.{third_values_at}
use Rattle.motion.proofs.OrderLaws.{third_along, third_rests}
use Rattle.motion.proofs.StartLaws.{units_passed}
use Rattle.motion.proofs.third.ThirdPlanPlanned.start.Goals as goal

pub returns-clause-runs : goal.returns-clause-runs
unfolding third_values_at
returns-clause-runs c =
    let near = c.requires.start_bound in
    let first = units_passed c.args.m.now.start near (record { sfits = c.units_of-position.type_inv }) c.units_of-position.ensures in
    rw first (third_along c.args.m.now c.args.self.now c.requires.plan_in_range near)

pub returns-clause-rests : goal.returns-clause-rests
returns-clause-rests c = third_rests c.args.m.now c.args.self.now c.requires.plan_in_range
