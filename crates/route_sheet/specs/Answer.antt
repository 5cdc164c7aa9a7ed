-- The reader's answer as the paper has it: the number and line of each refusal, and what a reading lists.
use Rattle.std.specs.Prelude.{List, ◌≡◌, ℕ, pos, length, Result, Ok, Err}
use Rattle.planner.specs.Refusals.{padded}
use Rattle.route_sheet.specs.Sheet.{Sheet, most_sets, most_moves}
use Rattle.route_sheet.specs.Beginning.{ComesTo}
use Rattle.route_sheet.specs.declared.BoundSet.{BoundSet}
use Rattle.route_sheet.specs.declared.RouteMove.{RouteMove}
use Rattle.route_sheet.specs.declared.SheetRefusal.{SheetRefusal}
use Rattle.route_sheet.specs.declared.SheetRefusal.TheVariants.{Malformed, TooLong}
use Rattle.route_sheet.specs.declared.SheetReading.{SheetReading}

-- Document 01's table, column "No."; and the line, 0 where there is none.
abbrev pub number_and_line : SheetRefusal → ℕ × ℕ
number_and_line (Malformed line) = (11, line)
number_and_line TooLong = (12, 0)

-- What fills the places that no set and no move takes.
abbrev pub zero_set : BoundSet
zero_set = record { velocity = 0; acceleration = 0; jerk = 0; snap = 0 }

abbrev pub zero_move : RouteMove
zero_move = record { displacement = pos 0; set = 0 }

-- A reading lists what the sheet x lists.
pub record Lists (x : Sheet) (r : SheetReading) : Type 0 where
  pub set_count : r.set_count ≡ length x.sets
  pub move_count : r.move_count ≡ length x.moves
  pub sets : r.sets ≡ padded most_sets zero_set x.sets
  pub moves : r.moves ≡ padded most_moves zero_move x.moves

pub record ListsSheet (text : List ℕ) (r : SheetReading) : Type 0 where
  pub sheet : Sheet
  pub comes_to : ComesTo text (Ok sheet)
  pub lists : Lists sheet r

-- What the reader promises: it lists the sheet that the text comes to, or names the refusal. A text comes to one thing only
-- (`MeaningClaim`).
abbrev pub ReadsSheet : List ℕ → Result SheetReading SheetRefusal → Type 0
ReadsSheet text (Ok r) = ListsSheet text r
ReadsSheet text (Err x) = ComesTo text (Err (number_and_line x))
