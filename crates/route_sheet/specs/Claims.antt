-- What the theorems say of the rules: of the decimals, of what a text comes to, and of the report. They are `decimal_claim`, `meaning`,
-- `one_sheet_answer`, `own_line` and `report_fits`.
use Rattle.std.specs.Prelude.{List, [], ◌∷◌, ◌++◌, ◌↔◌, ◌≡◌, ℕ, ◌+◌, ◌/◌, ◌%◌, ◌^◌, ◌≤◌, ◌<◌, length, Result, Err}
use Rattle.route_sheet.specs.Text.{line_ends, digit, decimal}
use Rattle.route_sheet.specs.Sheet.{Sheet}
use Rattle.route_sheet.specs.Beginning.{CanBegin, most_bytes, ComesTo}
use Rattle.route_sheet.specs.Answer.{ReadsSheet}
use Rattle.route_sheet.specs.Report.{sheet_report, most_report, Reports}
use Rattle.route_sheet.specs.declared.SheetReading.{SheetReading}
use Rattle.route_sheet.specs.declared.SheetRefusal.{SheetRefusal}

-- The two equations of `decimal`; and "at most k digits" as a span, for k = 19 that of `most_number`.
pub record DecimalClaim (n : ℕ) : Type 0 where
  pub one_digit : n < 10 → decimal n ≡ digit n ∷ []
  pub more_digits : 10 ≤ n → decimal n ≡ decimal (n / 10) ++ (digit (n % 10) ∷ [])
  pub at_most_digits : (k : ℕ) → 1 ≤ k → (length (decimal n) ≤ k) ↔ (n < 10 ^ k)

-- Every text comes to something, and to one thing only.
pub record MeaningClaim (text : List ℕ) : Type 0 where
  pub result : Result Sheet (ℕ × ℕ)
  pub comes_to : ComesTo text result
  pub no_other : (x : Result Sheet (ℕ × ℕ)) → ComesTo text x → x ≡ result

-- The promises leave one answer, and one buffer at exit.
pub record OneAnswerClaim (text : List ℕ) : Type 0 where
  pub reading : (x y : Result SheetReading SheetRefusal) → ReadsSheet text x → ReadsSheet text y → x ≡ y
  pub report :
      (old new new' : List ℕ) (count count' : ℕ)
      → Reports text old count new
      → Reports text old count' new'
      → (count ≡ count') × (new ≡ new')

-- "A number that leaves its allowed span is charged to its own line", whatever follows it. Outside its span it is one with which no sheet
-- goes on (`outside_span`).
abbrev pub OwnLineClaim : Type 0
OwnLineClaim =
    (text rest : List ℕ) (n : ℕ) →
    CanBegin text → (CanBegin (text ++ decimal n) → ⊥) → length (text ++ (decimal n ++ rest)) ≤ most_bytes →
    ComesTo (text ++ (decimal n ++ rest)) (Err (11, 1 + line_ends text))

-- Nothing is cut from a report.
abbrev pub ReportFitsClaim : Type 0
ReportFitsClaim = (text : List ℕ) (result : Result Sheet (ℕ × ℕ)) → ComesTo text result → length (sheet_report result) ≤ most_report
