-- The checks of an axis rise.
use native.Mathlib.Omega.{arith}
use Rattle.planner.specs.Order.{rank, Rising}
use Rattle.planner.specs.Axes.{at_rest}
use Rattle.planner.specs.AxesClaims.{AxisOrderClaim}
use Rattle.planner.proofs.OrderLaws.{plan_order}
use Rattle.planner.proofs.AxisLaws.{both}

pub axis_order : AxisOrderClaim
unfolding rank
axis_order m = both Rising (at_rest m) (omega arith) (plan_order m).1
