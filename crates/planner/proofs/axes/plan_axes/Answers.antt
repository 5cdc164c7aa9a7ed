-- `plan_axes` meets its contract: the tests on the way decide the checks of the rule, one after the other.
use Rattle.std.proofs.Common.{rules, Err, ◌≡◌, sym, ◌∙◌, arith}
use native.Mathlib.Nat.{pos_of_ne-zero}
use lib.ListN.{length-take}
use Rattle.planner.proofs.MovingLaws.{rest_is}
use Rattle.planner.proofs.AxesAnswers.{count_refused, rest_refused, axes_result_lem, plans_refused, refused_answer, plans_given, each_common, found_raisable, found_raised}
use Rattle.planner.proofs.axes.plan_axes.Goals as goal

pub returns-then-count-eq0 : goal.returns-then-count-eq0
returns-then-count-eq0 c = plans_refused _ _ (count_refused _ _ c.then-count-eq0.either)

pub returns-then-all_rest : goal.returns-then-all_rest
returns-then-all_rest c =
    plans_refused _ _
    (rest_refused _ _ (pos_of_ne-zero c.if-count-eq0.false) c.if-count.false (sym (rest_is _ c.all_rest.ensures) ∙ c.if-all_rest.true))

pub returns-in_err-set : goal.returns-in_err-set
returns-in_err-set c =
    let refusal : c.from_residual.result ≡ Err c.in_err-set.field-0.0 = search rules in
    let moving = sym (rest_is _ c.all_rest.ensures) ∙ c.if-all_rest.false in
    refused_answer _ _ refusal (axes_result_lem _ _ (pos_of_ne-zero c.if-count-eq0.false) c.if-count.false moving c.in_err-set.ensures.outcome_is)

pub raise_each-requires : goal.raise_each-requires
raise_each-requires c = found_raisable c.in_ok-set.ensures (omega (arith, length-take c.args.count c.args.moves))

pub returns : goal.returns
returns c =
    let f = c.in_ok-set.ensures in
    let p = c.raise_each.ensures in
    let moving = sym (rest_is _ c.all_rest.ensures) ∙ c.if-all_rest.false in
    rw (p.0)
    (plans_given _ _ (axes_result_lem _ _ (pos_of_ne-zero c.if-count-eq0.false) c.if-count.false moving f.outcome_is) (each_common f) (p.1 ∙ found_raised f))
