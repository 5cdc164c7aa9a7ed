-- `intervals` meets its contract: what its calls ensure, put together by `intervals_agree`.
use Rattle.planner.proofs.CapLaws.{intervals_agree}
use Rattle.planner.proofs.figures.Figures.intervals.Goals as goal

pub returns : goal.returns
returns c = intervals_agree _ _ _ _ _ _ _ _ c.interval_a-a.ensures c.carried.ensures c.later_intervals.ensures
