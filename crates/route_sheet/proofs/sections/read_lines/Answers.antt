use Rattle.std.proofs.Common.{arith}
use Rattle.std.proofs.lemmas.Result.{err_from_is_err_and}
use Rattle.route_sheet.proofs.SectionRuns.{none_read, lines_fail}
use Rattle.route_sheet.proofs.sections.read_lines.Goals as goal

pub returns-in_err-place : goal.returns-in_err-place
returns-in_err-place g c =
    let p = err_from_is_err_and c.from_residual.result c.from_residual.ensures.1 in
    rw (p.1, p.2) (lines_fail c.loop-place.invariant (omega arith) c.in_err-place.ensures)

pub loop-place-init : goal.loop-place-init
loop-place-init g c = none_read c.args.places.now
