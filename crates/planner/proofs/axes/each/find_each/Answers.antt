-- `find_each` meets its contract: what the axes so far and the checks of the rest come to is the rule of all.
use Rattle.std.proofs.Common.{rules, Ok, ◌≡◌, ◌≤◌, sym, ap, ◌∙◌, length, refl, arith}
use lib.ListN.{length-set}
use Rattle.planner.specs.Outcome.{outcome}
use Rattle.planner.proofs.AxesRuns.{found_none, found_all, placed_all, found_next, finds_refusal}
use Rattle.planner.proofs.AxisLaws.{found_samples}
use Rattle.planner.proofs.axes.each.find_each.Goals as goal

pub loop-i-init : goal.loop-i-init
loop-i-init c = (found_none _, refl)

pub returns-in_err-plan : goal.returns-in_err-plan
returns-in_err-plan c = finds_refusal c.loop-i.invariant.0 _ c.loop-i-test.true c.undivided_axis.ensures (search rules)

pub samples-requires : goal.samples-requires
samples-requires c =
    let found : c.undivided_axis.result ≡ Ok c.in_ok-plan.plan = search rules in
    omega (arith, found_samples _ (ap outcome (sym found) ∙ c.undivided_axis.ensures))

pub loop-i-preserved : goal.loop-i-preserved
loop-i-preserved c =
    let found : c.undivided_axis.result ≡ Ok c.in_ok-plan.plan = search rules in
    let is = ap outcome (sym found) ∙ c.undivided_axis.ensures in (
      rw c.max-samples.ensures (found_next c.loop-i.invariant.0 _ c.loop-i-test.true _ _ is c.samples.ensures (omega arith)),
      length-set c.loop-i.plans c.loop-i.i c.in_ok-plan.plan ∙ c.loop-i.invariant.1,
    )

pub returns : goal.returns
returns c =
    let all : length c.args.axes.now ≤ c.loop-i.i = omega arith in
    record { outcome_is = found_all c.loop-i.invariant.0 all; placed = placed_all c.loop-i.invariant.0 all }
