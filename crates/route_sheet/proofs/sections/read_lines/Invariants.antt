-- The loop's invariant is `LinesRead`.
use Rattle.std.proofs.Common.{length}
use Rattle.route_sheet.proofs.SectionRuns.{LinesRead}
use Rattle.route_sheet.proofs.sections.read_lines.Given as goal

abbrev pub invariant-loop-place : goal.invariant-loop-place
invariant-loop-place g l = LinesRead (g.L.Line.parse l.sets) l.fn.text (length l.fn.places) l.place-index l.rest l.places
