use Rattle.route_sheet.proofs.OutputLaws.{LineSoFar}
use Rattle.route_sheet.proofs.output.put_line.Given as goal

abbrev pub invariant-loop-word : goal.invariant-loop-word
invariant-loop-word l = LineSoFar l.initial.out l.at l.fields l.word-index l.end l.out
