-- `report` meets its contract: what was read, as its lines.
use mathlib.Core.Path.{◌≡◌, sym}
use native.Mathlib.Omega.{arith}
use lib.ListN.{length}
use Rattle.route_sheet.specs.Beginning.{listed}
use Rattle.route_sheet.specs.Report.{sheet_report, most_report}
use Rattle.route_sheet.proofs.ReadingTheorems.{written_back}
use Rattle.route_sheet.proofs.ContentsLaws.{listed_route}
use Rattle.route_sheet.proofs.ReportLaws.{places_lines, report_fits, reports}
use Rattle.route_sheet.proofs.report.Goals as goal

pub put_moves-requires : goal.put_moves-requires
put_moves-requires c =
    let x = written_back c.in-Ok.ensures in
    rw x.lists.moves (listed_route x.sheet _ x.allowed (sym x.lists.move_count))

pub put_sheet_refusal-requires : goal.put_sheet_refusal-requires
put_sheet_refusal-requires c = omega (arith, report_fits _ _ c.in-Err.ensures)

pub returns-in-Ok : goal.returns-in-Ok
unfolding sheet_report
returns-in-Ok c =
    let out-length : length c.args.out.now ≡ most_report = omega arith in
    let x = written_back c.in-Ok.ensures in
    let lines = places_lines x.sheet _ _ _ x.lists.sets x.lists.moves (sym x.lists.move_count) in
    reports out-length (listed x.fits x.allowed x.text_is) (rw lines at c.put_moves.ensures)

pub returns-in-Err : goal.returns-in-Err
returns-in-Err c =
    let out-length : length c.args.out.now ≡ most_report = omega arith in
    reports out-length c.in-Err.ensures c.put_sheet_refusal.ensures
