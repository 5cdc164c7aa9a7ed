use Rattle.std.proofs.Common.{◌≡◌, take}
use Rattle.route_sheet.specs.Text.{line_ends}
use Rattle.route_sheet.proofs.malformed.Malformed.line.Given as goal

abbrev pub invariant-loop-b : goal.invariant-loop-b
invariant-loop-b l = l.line_ends ≡ line_ends (take l.b-index l.b-items)
