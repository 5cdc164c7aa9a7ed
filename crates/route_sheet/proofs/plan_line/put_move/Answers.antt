-- `put_move` meets its contract: the planner's outcome, as its line.
use mathlib.Core.Path.{◌≡◌}
use mir.Syntax.{w64}
use mir.Val.{to_z, of_z}
use native.Mathlib.Omega.{arith}
use mir.Facts.{to_z-of_z}
use Rattle.route_sheet.specs.Inner.Output.{line_text}
use Rattle.route_sheet.specs.Report.{field, move_report}
use Rattle.route_sheet.proofs.PlanLineLaws.{plan_room, refusal_room}
use Rattle.route_sheet.proofs.plan_line.put_move.Goals as goal

pub put_plan-requires : goal.put_plan-requires
put_plan-requires c =
    let back : to_z w64 (of_z w64 c.args.m.now.displacement) ≡ c.args.m.now.displacement = grind (arith, to_z-of_z) in
    rw back
    (plan_room c.plan_move.ensures c.args.number c.args.at c.requires c.in-Ok.plan
    c.in-Ok.is)

pub put_line-requires : goal.put_line-requires
unfolding move_report field line_text
put_line-requires c =
    rw c.number.ensures
    (refusal_room c.plan_move.ensures c.args.number c.args.at c.requires c.in-Err.refusal
    c.in-Err.is)
