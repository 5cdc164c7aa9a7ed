-- What `bottlerun` prints of a sheet.
use Rattle.std.specs.Prelude.{cond, List, [], ◌∷◌, ◌++◌, ◌≡◌, ℕ, suc, ◌-◌, eqb, ℤ, pos, length, get_or, drop, Result, Ok, Err}
use Prim.Native.String.{String}
use Rattle.planner.specs.Quantities.{along}
use Rattle.planner.specs.Intervals.{p, q, r, s, N}
use Rattle.planner.specs.Outcome.{intervals_in, outcome_of}
use Rattle.planner.specs.declared.Move.{Move}
use Rattle.planner.specs.declared.Plan.{Plan}
use Rattle.route_sheet.specs.Text.{ascii, line_end, decimal, signed_decimal}
use Rattle.route_sheet.specs.Sheet.{Sheet, ended}
use Rattle.route_sheet.specs.Beginning.{ComesTo}
use Rattle.route_sheet.specs.Answer.{zero_set}
use Rattle.route_sheet.specs.declared.BoundSet.{BoundSet}
use Rattle.route_sheet.specs.declared.RouteMove.{RouteMove}

-- A word and its number.
unfoldable pub field : String → ℕ → List ℕ
field word n = ascii word ++ decimal n

-- "The fields are move number, N, p, q, r, s, signed snap, shortfall in grains."
unfoldable pub move_report : (moveNumber : ℕ) (X : ℤ) → Result Plan ℕ → List ℕ
move_report moveNumber X (Err n) = field "move " moveNumber ++ ended line_end (field " refused " n)
move_report moveNumber X (Ok x) =
    let t = intervals_in x in
    field "move " moveNumber
    ++ (field " n " (N t)
    ++ (field " p " (p t)
    ++ (field " q " (q t)
    ++ (field " r " (r t)
    ++ (field " s " (s t)
    ++ (ascii " snap " ++ (signed_decimal (along X (pos x.snap))
    ++ ended line_end (field " short " x.shortfall))))))))

-- The move with the bounds of its set. A sheet's set numbers, from 1 on, are those of its sets, so none is missing. "all sheets mean start
-- 0" (document 02, 7).
unfoldable pub move_of : List BoundSet → RouteMove → Move
move_of sets m =
    let bounds = get_or sets (m.set - 1) zero_set in
    record {
      displacement = m.displacement;
      velocity = bounds.velocity;
      acceleration = bounds.acceleration;
      jerk = bounds.jerk;
      snap = bounds.snap;
      start = pos 0;
    }

-- The moves in their order, numbered from `first` on.
unfoldable pub moves_report : List BoundSet → (first : ℕ) → List RouteMove → List ℕ
moves_report sets first [] = []
moves_report sets first (m ∷ ms) = move_report first m.displacement (outcome_of (move_of sets m)) ++ moves_report sets (suc first) ms

-- "A bad sheet prints one line only": the refusal's number, "11 also a line".
unfoldable pub sheet_report : Result Sheet (ℕ × ℕ) → List ℕ
sheet_report (Err (number, line)) =
    field "sheet refused " number ++ ended line_end (cond (eqb number 11) (field " line " line) [])
sheet_report (Ok x) = moves_report x.sets 1 x.moves

-- The bytes of the buffer for a report. No report is longer (`ReportFitsClaim`).
abbrev pub most_report : ℕ
most_report = 32768

-- What the report's function promises, of what the text comes to: the count of bytes, and the buffer, whose bytes after the report stay as
-- they were.
pub record Reports (text old : List ℕ) (count : ℕ) (new : List ℕ) : Type 0 where
  pub result : Result Sheet (ℕ × ℕ)
  pub comes_to : ComesTo text result
  pub count_is : count ≡ length (sheet_report result)
  pub new_is : new ≡ sheet_report result ++ drop (length (sheet_report result)) old
