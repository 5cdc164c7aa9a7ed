use Rattle.route_sheet.proofs.RouteRuns.{no_line, few_routes, next_line, next_room}
use Rattle.route_sheet.proofs.route.put_moves.Goals as goal

pub loop-i-init : goal.loop-i-init
loop-i-init c = no_line c.args.out.now c.args.sheet.now.sets _

pub put_move-at-requires : goal.put_move-at-requires
put_move-at-requires c = next_room c.loop-i.invariant c.loop-i-test.true (few_routes c.requires)

pub loop-i-preserved : goal.loop-i-preserved
loop-i-preserved c = next_line c.loop-i.invariant c.loop-i-test.true (few_routes c.requires) c.move_of.ensures c.put_move-at.ensures
