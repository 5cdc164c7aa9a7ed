-- The report of a sheet: its length, and that the places of a reading give it.
use mathlib.Core.List.{List, [], ◌∷◌, ◌++◌}
use mathlib.Core.Path.{◌≡◌, refl, ap}
use Prim.Native.Nat.{ℕ, suc, ◌+◌, ◌*◌, ◌≤◌}
use native.Mathlib.Omega.{arith}
use lib.ListN.{length, take, replicate, length-append}
use Rattle.planner.specs.Refusals.{padded}
use Rattle.std.specs.Prelude.{Result}
use Rattle.route_sheet.specs.Text.{line_ends}
use Rattle.route_sheet.specs.Sheet.{Sheet, most_sets, most_moves}
use Rattle.route_sheet.specs.Beginning.{LongestBeginning, ComesTo, too_long, listed, malformed_at}
use Rattle.route_sheet.specs.Answer.{zero_set, zero_move}
use Rattle.route_sheet.specs.Report.{field, move_of, moves_report, sheet_report, most_report, Reports}
use Rattle.route_sheet.specs.Claims.{ReportFitsClaim}
use Rattle.route_sheet.specs.Inner.Output.{Puts}
use Rattle.route_sheet.specs.Inner.Lines.{most_line}
use Rattle.route_sheet.specs.declared.BoundSet.{BoundSet}
use Rattle.route_sheet.specs.declared.RouteMove.{RouteMove}
use Rattle.route_sheet.proofs.DecimalLaws.{decimal_length}
use Rattle.route_sheet.proofs.TextLaws.{line_ends_append}
use Rattle.route_sheet.proofs.SheetLaws.{sheet_lines}
use Rattle.route_sheet.proofs.OutputLaws.{put_whole}
use Rattle.route_sheet.proofs.ReportBounds.{line_length}
use Rattle.route_sheet.proofs.ContentsLaws.{take_padded, get_d_padded}

-- Places that no set takes change no line: their bounds are the default of `move_of`.
moves_padded :
    (sets : List BoundSet) (k number : ℕ) (ms : List RouteMove) →
    moves_report (sets ++ replicate k zero_set) number ms ≡ moves_report sets number ms
unfolding moves_report move_of
moves_padded sets k number [] = refl
moves_padded sets k number (m ∷ ms) = rw (get_d_padded, moves_padded sets k (suc number) ms)

-- The lines that the places of a sheet make are its lines.
pub places_lines :
    (x : Sheet) (sets : List BoundSet) (moves : List RouteMove) (n : ℕ) →
    sets ≡ padded most_sets zero_set x.sets → moves ≡ padded most_moves zero_move x.moves → length x.moves ≡ n →
    moves_report sets 1 (take n moves) ≡ moves_report x.sets 1 x.moves
places_lines x sets moves n s t e = rw (s, t, take_padded most_moves n zero_move x.moves e, moves_padded)

moves_length :
    (sets : List BoundSet) (number : ℕ) (ms : List RouteMove) → number + length ms ≤ suc most_moves →
    length (moves_report sets number ms) ≤ most_line * length ms
unfolding moves_report move_of
moves_length sets number [] h = omega arith
moves_length sets number (m ∷ ms) h =
    rw length-append
    (omega (arith, line_length number (move_of sets m) (omega arith), moves_length sets (suc number) ms (omega arith)))

-- The largest line of a refusal.
most_line_lem : {text p : List ℕ} → LongestBeginning text p → 1 + line_ends p ≤ 275
most_line_lem {p = p} h =
    let begin = h.can_begin in
    omega (
      arith,
      line_ends_append p begin.rest,
      ap line_ends begin.whole,
      sheet_lines begin.sheet,
      begin.allowed.first.count.to,
      begin.allowed.second.count.to,
    )

pub report_fits : ReportFitsClaim
unfolding sheet_report field
report_fits text result (too_long l) = simp length-append (omega (arith, decimal_length 1 12 (omega arith)))
report_fits text result (malformed_at {beginning = p} l no-sheet h) =
    let line-most = most_line_lem h in
    simp length-append (omega (arith, decimal_length 1 11 (omega arith), decimal_length 2 (1 + line_ends p) (omega arith)))
report_fits text result (listed {sheet = x} l allowed e) =
    let few : length x.moves ≤ most_moves = allowed.second.count.to in
    omega (arith, moves_length x.sets 1 x.moves (omega arith))

-- What was put from the first place on is the report, and the places after it are as they were.
pub reports :
    {text old new : List ℕ} {count : ℕ} {result : Result Sheet (ℕ × ℕ)} → length old ≡ most_report → ComesTo text result →
    Puts old 0 (sheet_report result) count new → Reports text old count new
reports {text} {old} {result = result} size comes_to puts =
    let report = sheet_report result in
    record {
      result = result;
      comes_to = comes_to;
      count_is = omega (arith, puts.next_is);
      new_is = put_whole puts;
    }
