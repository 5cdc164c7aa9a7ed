-- As many bytes as were passed are put.
use Prim.Native.Nat.{◌+◌}
use lib.ListN.{take}
use Rattle.route_sheet.specs.Inner.Output.{Puts}
use Rattle.route_sheet.proofs.output.put.Given as goal

abbrev pub invariant-loop-i : goal.invariant-loop-i
invariant-loop-i l = Puts l.initial.out l.at (take l.i l.text) (l.at + l.i) l.out
