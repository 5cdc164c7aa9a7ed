-- `plan_third` meets its contract: after the figures that both orders read, refusals 14 and 7 are left.
use Rattle.std.proofs.Common.{rules, Err, ◌≡◌, ap, sym, ◌∙◌, arith}
use Rattle.planner.specs.Outcome.{outcome}
use Rattle.planner.specs.Inner.Undivided.{FiguresOf, Measures}
use Rattle.planner.proofs.ThirdLaws.{third_ends_refused, third_too_many, third_found}
use Rattle.planner.proofs.ThirdTheorems.{third_figures_refused, third_figures_given}
use Rattle.planner.proofs.third.plan_third.Goals as goal

pub returns-in_err-figures : goal.returns-in_err-figures
returns-in_err-figures c =
    let refusal : c.from_residual.result ≡ Err c.in_err-figures.field-0.0 = search rules in
    let asked : Measures c.args.m.now (Err c.in_err-figures.field-0.0) = search rules in
    record { outcome_is = ap outcome refusal ∙ third_figures_refused _ _ asked }

pub returns-then-ends_outside : goal.returns-then-ends_outside
returns-then-ends_outside c =
    let asked : FiguresOf c.args.m.now c.in_ok-figures.figures = search rules in
    record { outcome_is = third_figures_given _ asked (third_ends_refused _ _ _ _ _ (sym c.if-ends_outside.ensures)) }

pub returns-then-b-c-gt-MOST_SAMPLES : goal.returns-then-b-c-gt-MOST_SAMPLES
returns-then-b-c-gt-MOST_SAMPLES c =
    let asked : FiguresOf c.args.m.now c.in_ok-figures.figures = search rules in
    record {
      outcome_is =
          third_figures_given _ asked
          (third_too_many _ _ _ _ _ (sym c.if-ends_outside.ensures) _ c.later_intervals-b.ensures (omega (arith, asked.jerk_is))
          c.if-b-c-gt-MOST_SAMPLES.true);
    }

pub returns : goal.returns
returns c =
    let asked : FiguresOf c.args.m.now c.in_ok-figures.figures = search rules in
    record {
      outcome_is =
          rw (c.divide-d.ensures.0, c.divide-d.ensures.1)
          (third_figures_given _ asked
          (third_found _ _ _ _ _ (sym c.if-ends_outside.ensures) _ c.later_intervals-b.ensures (omega (arith, asked.jerk_is))
          c.if-b-c-gt-MOST_SAMPLES.false));
    }
