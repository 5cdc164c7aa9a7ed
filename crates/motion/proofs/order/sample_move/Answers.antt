-- `sample_move` meets its contract: the planner's refusal, refusal 9, or the plan's sample.
use Rattle.std.proofs.Common.{rules, refl, sym}
use Rattle.motion.proofs.SamplingLaws.{sample_refused, sample_past, sample_given}
use Rattle.motion.proofs.StartLaws.{same_sample}
use Rattle.motion.proofs.order.sample_move.Goals as goal

pub returns-in_err-plan : goal.returns-in_err-plan
returns-in_err-plan g c = sample_refused _ _ {e = c.in_err-plan.field-0.0} c.in_err-plan.ensures.ruled (search rules)

pub returns-then-samples-k : goal.returns-then-samples-k
returns-then-samples-k g c = sample_past c.in_ok-plan.ensures.ruled (rw c.samples.ensures.is at c.if-samples-k.true)

pub returns : goal.returns
returns g c =
    sample_given c.in_ok-plan.ensures.ruled (rw c.samples.ensures.is at c.if-samples-k.false)
    (same_sample (sym (g.O.Order.starts c.args.m.now)) refl c.sample_in.ensures)
