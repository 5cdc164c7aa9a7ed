-- What is read of the text from the first digit on is what is read from here on with the number so far, which is at most `most`.
use mathlib.Core.Path.{◌≡◌}
use Prim.Native.Nat.{◌≤◌}
use lib.ListN.{drop}
use Rattle.route_sheet.specs.Inner.Reading.{read_digits}
use Rattle.route_sheet.proofs.number.read_digits.Given as goal

abbrev pub invariant-loop-i : goal.invariant-loop-i
invariant-loop-i l = (read_digits l.most l.end l.first l.text ≡ read_digits l.most l.end l.n (drop l.i l.text)) × (l.n ≤ l.most)
