-- `later_intervals` meets its contract: what its calls ensure, put together by `later_agree`.
use Rattle.planner.proofs.CapLaws.{later_agree}
use Rattle.planner.proofs.figures.Figures.later_intervals.Goals as goal

pub returns : goal.returns
returns c =
    later_agree _ _ _ _ _ _ _ _ _ _
    c.interval_b-b.ensures
    c.carried-a1.ensures
    c.interval_c-c.ensures
    c.carried-v1.ensures
    c.interval_e-e.ensures
