use Rattle.std.proofs.Common.{rules, ◌≡◌, Err}
use Rattle.planner.proofs.ThirdTheorems.{third_facts}
use Rattle.motion.specs.declared.MotionRefusal.TheVariants.{Unplanned}
use Rattle.motion.proofs.EntryLaws.{third_within_range, third_start_in_span}
use Rattle.motion.proofs.OrderLaws.{third_ruled}
use Rattle.motion.proofs.third.ThirdOrder.plan.Goals as goal

pub returns-in_err-plan_third-clause-ruled : goal.returns-in_err-plan_third-clause-ruled
returns-in_err-plan_third-clause-ruled c =
    let refusal : c.from_residual.result ≡ Err (Unplanned c.in_err-plan_third.field-0.0) = search rules in
    rw refusal (third_ruled c.in_err-plan_third.ensures)

pub returns-clause-ruled : goal.returns-clause-ruled
returns-clause-ruled c = third_ruled c.in_ok-plan_third.ensures

pub returns-clause-in_range : goal.returns-clause-in_range
returns-clause-in_range c = third_within_range (third_facts c.in_ok-plan_third.ensures)

pub returns-clause-start_bound : goal.returns-clause-start_bound
returns-clause-start_bound c = third_start_in_span (third_facts c.in_ok-plan_third.ensures)
