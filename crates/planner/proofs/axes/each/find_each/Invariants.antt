-- What the axes so far and the checks of the rest come to is the rule of all.
use mathlib.Core.Path.{◌≡◌}
use lib.ListN.{length}
use Rattle.planner.specs.Axes.{most_axes}
use Rattle.planner.proofs.AxesRuns.{FoundSoFar}
use Rattle.planner.proofs.axes.each.find_each.Given as goal

abbrev pub invariant-loop-i : goal.invariant-loop-i
invariant-loop-i l = FoundSoFar l.axes l.plans l.samples l.i × (length l.plans ≡ most_axes)
