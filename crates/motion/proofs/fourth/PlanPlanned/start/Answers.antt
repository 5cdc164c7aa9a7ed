use Rattle.std.proofs.Common.{◌≡◌, ap, ◌∙◌}
use Rattle.motion.specs.Sampling.{units_of}
use Rattle.motion.specs.Inner.Steps.{rest_at}
use Rattle.motion.proofs.OrderLaws.{fourth_along, fourth_rests}
use Rattle.motion.proofs.StartLaws.{units_passed}
use Rattle.motion.proofs.fourth.PlanPlanned.start.Goals as goal

pub returns-clause-runs : goal.returns-clause-runs
returns-clause-runs c =
    let near = c.requires.start_bound in
    let first = units_passed c.args.m.now.start near (record { sfits = c.units_of-position.type_inv }) c.units_of-position.ensures in
    let at_rest : c.at_position.result ≡ rest_at (units_of c.args.m.now.start) = c.at_position.ensures ∙ ap rest_at first in
    rw at_rest (fourth_along c.args.m.now c.args.self.now c.requires.plan_in_range near)

pub returns-clause-rests : goal.returns-clause-rests
returns-clause-rests c = fourth_rests c.args.m.now c.args.self.now c.requires.plan_in_range
