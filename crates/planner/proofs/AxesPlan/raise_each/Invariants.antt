-- The places so far are raised.
use mathlib.Core.Path.{◌≡◌}
use mathlib.Core.List.{map, ◌++◌}
use lib.ListN.{take, drop}
use Rattle.planner.specs.Inner.AxisAnswers.{raised_plan}
use Rattle.planner.proofs.AxesPlan.raise_each.Given as goal

abbrev pub invariant-loop-plan : goal.invariant-loop-plan
invariant-loop-plan l = l.plan-items ≡ map (raised_plan l.samples) (take l.plan-index l.fn.self.plans) ++ drop l.plan-index l.fn.self.plans
