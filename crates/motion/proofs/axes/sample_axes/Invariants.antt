-- The places of the axes so far hold the rule's rows.
use Rattle.motion.proofs.AxesSampleRuns.{SampledSoFar}
use Rattle.motion.proofs.axes.sample_axes.Given as goal

abbrev pub invariant-loop-i : goal.invariant-loop-i
invariant-loop-i l = SampledSoFar l.count l.fn.moves l.k l.samples l.i
