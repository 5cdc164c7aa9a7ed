use Rattle.std.proofs.Common.{rules, ◌≡◌, Err}
use Rattle.planner.proofs.PlannedFacts.{planned_facts}
use Rattle.motion.specs.declared.MotionRefusal.TheVariants.{Unplanned}
use Rattle.motion.proofs.EntryLaws.{within_range, start_in_span}
use Rattle.motion.proofs.OrderLaws.{fourth_ruled}
use Rattle.motion.proofs.fourth.FourthOrder.plan.Goals as goal

pub returns-in_err-plan_move-clause-ruled : goal.returns-in_err-plan_move-clause-ruled
returns-in_err-plan_move-clause-ruled c =
    let refusal : c.from_residual.result ≡ Err (Unplanned c.in_err-plan_move.field-0.0) = search rules in
    rw refusal (fourth_ruled c.in_err-plan_move.ensures)

pub returns-clause-ruled : goal.returns-clause-ruled
returns-clause-ruled c = fourth_ruled c.in_ok-plan_move.ensures

pub returns-clause-in_range : goal.returns-clause-in_range
returns-clause-in_range c = within_range (planned_facts c.in_ok-plan_move.ensures)

pub returns-clause-start_bound : goal.returns-clause-start_bound
returns-clause-start_bound c = start_in_span (planned_facts c.in_ok-plan_move.ensures)
