-- `undivided_plan` meets its contract: after the figures that both orders read, refusals 6, 14 and 7 are left.
use Rattle.std.proofs.Common.{rules, Err, ◌≡◌, ap, sym, ◌∙◌}
use Rattle.planner.specs.Outcome.{outcome}
use Rattle.planner.proofs.RefusalLaws.{bound_in_range, bound_passed, snap_refused, ends_refused, too_many_samples, found_within}
use Rattle.planner.proofs.UndividedAnswers.{undivided_refused, undivided_given}
use Rattle.planner.proofs.Move.undivided_plan.Goals as goal

pub returns-in_err-figures : goal.returns-in_err-figures
returns-in_err-figures c =
    let refusal : c.from_residual.result ≡ Err c.in_err-figures.field-0.0 = search rules in
    ap outcome refusal ∙ undivided_refused _ _ c.in_err-figures.ensures

pub returns-in_err-check_bound : goal.returns-in_err-check_bound
returns-in_err-check_bound c =
    let refusal : c.from_residual-in_err-check_bound.result ≡ Err c.in_err-check_bound.field-0.0 = search rules in
    ap outcome refusal ∙ undivided_given _ c.in_ok-figures.ensures (snap_refused _ _ _ _ _ _ c.in_err-check_bound.ensures)

pub returns-then-ends_outside : goal.returns-then-ends_outside
returns-then-ends_outside c =
    undivided_given _ c.in_ok-figures.ensures
    (ends_refused _ _ _ _ _ _ (bound_passed 6 c.args.self.now.snap c.in_ok-check_bound.ensures) (sym c.if-ends_outside.ensures))

pub intervals-a-requires : goal.intervals-a-requires
intervals-a-requires c = bound_in_range _ (bound_passed 6 c.args.self.now.snap c.in_ok-check_bound.ensures)

pub returns-then-samples-gt-MOST_SAMPLES : goal.returns-then-samples-gt-MOST_SAMPLES
returns-then-samples-gt-MOST_SAMPLES c =
    undivided_given _ c.in_ok-figures.ensures
    (too_many_samples _ _ _ _ _ _ (bound_passed 6 c.args.self.now.snap c.in_ok-check_bound.ensures) (sym c.if-ends_outside.ensures) _ c.intervals-a.ensures
    (search rules))

pub returns : goal.returns
returns c =
    undivided_given _ c.in_ok-figures.ensures
    (found_within _ _ _ _ _ _ (bound_passed 6 c.args.self.now.snap c.in_ok-check_bound.ensures) (sym c.if-ends_outside.ensures) _ c.intervals-a.ensures
    (search rules))
