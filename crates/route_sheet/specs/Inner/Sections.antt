-- A whole sheet as the code has it.
use Rattle.std.specs.Prelude.{List, [], ◌≡◌, ℕ, replicate, Result, Ok, Err}
use Rattle.route_sheet.specs.Sheet.{Sheet, most_sets, most_moves}
use Rattle.route_sheet.specs.Answer.{Lists, zero_set, zero_move}
use Rattle.route_sheet.specs.Inner.Reading.{parsed, failed, read_whole}
use Rattle.route_sheet.specs.declared.SheetReading.{SheetReading}
use Rattle.route_sheet.specs.declared.malformed.Malformed.{Malformed}

pub record WholeRead (text : List ℕ) (r : SheetReading) : Type 0 where
  pub sheet : Sheet
  pub found : read_whole text ≡ parsed sheet []
  pub lists : Lists sheet r

-- The places that are read into.
abbrev pub HoldsZeros : SheetReading → Type 0
HoldsZeros r = (r.sets ≡ replicate most_sets zero_set) × (r.moves ≡ replicate most_moves zero_move)

abbrev pub ReadsWhole : List ℕ → SheetReading → Result (Unit {0}) Malformed → Type 0
ReadsWhole text sheet (Ok x) = WholeRead text sheet
ReadsWhole text sheet (Err e) = read_whole text ≡ failed e.rest.now

-- The answer that has the reading in it.
abbrev pub reading_in : {E : Type 0} → SheetReading → Result (Unit {0}) E → Result SheetReading E
reading_in sheet (Ok x) = Ok sheet
reading_in sheet (Err e) = Err e
