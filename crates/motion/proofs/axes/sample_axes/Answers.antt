-- `sample_axes` meets its contract: the planner's refusal, 9, or the samples of the axes, one after the other.
use Rattle.std.proofs.Common.{rules, List, ℕ, Ok, ◌≡◌, sym, arith}
use Rattle.std.specs.Prelude.{Result}
use Rattle.planner.specs.Axes.{PlansAxes, axes_outcome, axes_plans}
use Rattle.planner.specs.declared.AxesPlan.{AxesPlan}
use Rattle.planner.specs.declared.AxisRefusal.{AxisRefusal}
use Rattle.planner.specs.declared.Move.{Move}
use Rattle.planner.specs.declared.Refusal.{Refusal}
use Rattle.planner.proofs.CountedLaws.{counted_length}
use Rattle.motion.proofs.AxesSampling.{samples_past}
use Rattle.motion.proofs.AxesSampleRuns.{axis_needs, most, sampled_next, sampled_all, set_refused}
use Rattle.motion.proofs.axes.sample_axes.Goals as goal

-- the answer that holds this set
planned :
    {count : ℕ} {moves : List Move} {answer : Result AxesPlan (AxisRefusal Refusal)} {set : AxesPlan}
    → PlansAxes count moves (axes_outcome answer) (axes_plans answer) → answer ≡ Ok set → PlansAxes count moves (Ok set.samples) set.plans
planned p found = rw found at p

pub returns-in_err-set : goal.returns-in_err-set
returns-in_err-set c = set_refused _ _ _ c.plan_axes.ensures.outcome_is (search rules)

pub returns-then-set-k : goal.returns-then-set-k
returns-then-set-k c =
    let p = planned {set = c.in_ok-set.set} c.plan_axes.ensures (search rules) in
    samples_past _ _ _ p.outcome_is c.if-set-k.true

pub slice_bounds-moves-end : goal.slice_bounds-moves-end
slice_bounds-moves-end c =
    let p = planned {set = c.in_ok-set.set} c.plan_axes.ensures (search rules) in
    omega (arith, most (omega arith) p)

pub slice_bounds-m-items-end : goal.slice_bounds-m-items-end
slice_bounds-m-items-end c =
    let p = planned {set = c.in_ok-set.set} c.plan_axes.ensures (search rules) in
    sym (counted_length _ c.args.moves (omega arith) (most (omega arith) p))

pub sample_axis-requires : goal.sample_axis-requires
sample_axis-requires c =
    let p = planned {set = c.in_ok-set.set} c.plan_axes.ensures (search rules) in
    axis_needs (omega arith) p c.loop-i-test.true (omega (arith, c.if-set-k.false))

pub loop-i-preserved : goal.loop-i-preserved
loop-i-preserved c =
    let p = planned {set = c.in_ok-set.set} c.plan_axes.ensures (search rules) in
    sampled_next (omega arith) p c.loop-i-test.true c.loop-i.invariant c.sample_axis.ensures

pub returns : goal.returns
returns c =
    let p = planned {set = c.in_ok-set.set} c.plan_axes.ensures (search rules) in
    sampled_all (omega arith) p c.loop-i.invariant (omega (arith, c.loop-i-test.false)) (omega (arith, c.if-set-k.false))
