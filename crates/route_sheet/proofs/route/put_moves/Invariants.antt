-- The loop's invariant is `LinesPut`.
use Rattle.route_sheet.proofs.RouteRuns.{LinesPut}
use Rattle.route_sheet.proofs.route.put_moves.Given as goal

abbrev pub invariant-loop-i : goal.invariant-loop-i
invariant-loop-i l = LinesPut l.initial.out l.sheet.sets l.routes l.i l.at l.out
