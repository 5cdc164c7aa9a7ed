-- The theorems on reading: every text comes to one thing; a sheet's text is read back, and is no beginning of another's; an accepted text
-- is the text of what was read.
use mathlib.Core.Bool.{Bool, true, false}
use mathlib.Core.List.{List, [], ◌++◌, append-nil}
use mathlib.Core.Path.{◌≡◌, refl}
use Prim.Native.Nat.{ℕ, ◌≤◌}
use native.Mathlib.Omega.{arith}
use borrow.Author.Tests.{ltb-true, ltb-false}
use lib.Dec.{ltb}
use lib.ListN.{length}
use Rattle.std.specs.Prelude.{Result, Ok}
use Rattle.planner.proofs.ResultLaws.{refused_or_given, same_given}
use Rattle.route_sheet.specs.Sheet.{Sheet, SheetAllowed, sheet_text}
use Rattle.route_sheet.specs.Beginning.{most_bytes, ComesTo, too_long, listed, malformed_at}
use Rattle.route_sheet.specs.Answer.{number_and_line, Lists, ListsSheet, ReadsSheet}
use Rattle.std.specs.Prelude.{Result, Ok, Err, IsOkAnd}
use Rattle.route_sheet.specs.Claims.{MeaningClaim}
use Rattle.route_sheet.specs.declared.SheetReading.{SheetReading}
use Rattle.route_sheet.specs.declared.SheetRefusal.{SheetRefusal}
use Rattle.route_sheet.proofs.SheetLaws.{sections_format}
use Rattle.route_sheet.proofs.LengthLaws.{sheet_length}
use Rattle.route_sheet.proofs.ComesToLaws.{sound, one_result}

pub meaning : (text : List ℕ) → MeaningClaim text
meaning text = go (ltb most_bytes (length text)) refl
  where
    from : {x : Result Sheet (ℕ × ℕ)} → ComesTo text x → MeaningClaim text
    from {x} h = record { result = x; comes_to = h; no_other = λ y k. one_result k h }

    go : (b : Bool) → ltb most_bytes (length text) ≡ b → MeaningClaim text
    go true e = from (too_long (ltb-true most_bytes (length text) e))
    go false e = from (sound text (ltb-false most_bytes (length text) e))

-- Reading a sheet's text gives the sheet back. No sheet is too long.
pub read_back : (x : Sheet) (r : Result SheetReading SheetRefusal) → SheetAllowed x → ReadsSheet (sheet_text x) r → IsOkAnd r (Lists x)
read_back x (Ok r) allowed h =
    let comes = listed (omega (arith, sheet_length x allowed)) allowed refl in
    rw (same_given (one_result h.comes_to comes)) at h.lists
read_back x (Err y) allowed h =
    let comes = listed (omega (arith, sheet_length x allowed)) allowed refl in
    absurd (refused_or_given (number_and_line y) x (one_result h comes))

-- No sheet's text begins another's. So a sheet that was cut, by a read that failed or otherwise, is never taken for another sheet.
pub never_cut : (x y : Sheet) (rest : List ℕ) → SheetAllowed x → SheetAllowed y → sheet_text x ≡ sheet_text y ++ rest → rest ≡ []
never_cut x y rest h k e = cc (sections_format.reads_back x h [], sections_format.reads_back y k rest, append-nil (sheet_text x))

-- An accepted text is the text of what was read.
pub record WrittenBack (text : List ℕ) (r : SheetReading) : Type 0 where
  pub sheet : Sheet
  pub fits : length text ≤ most_bytes
  pub allowed : SheetAllowed sheet
  pub text_is : text ≡ sheet_text sheet
  pub lists : Lists sheet r

module _ {text : List ℕ} {r : SheetReading} where
  written : {x : Result Sheet (ℕ × ℕ)} {y : Sheet} → ComesTo text x → x ≡ Ok y → Lists y r → WrittenBack text r
  written (too_long l) e k = absurd (refused_or_given _ _ e)
  written (listed {sheet = x} l ok t) e k = record { sheet = x; fits = l; allowed = ok; text_is = t; lists = rw (← same_given e) at k }
  written (malformed_at l no-sheet h) e k = absurd (refused_or_given _ _ e)

  pub written_back : ListsSheet text r → WrittenBack text r
  written_back h = written h.comes_to refl h.lists
