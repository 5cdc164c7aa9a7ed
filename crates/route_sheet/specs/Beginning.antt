-- What a text comes to, by the meaning of the rules: no reader stands here.
use Rattle.std.specs.Prelude.{List, ◌++◌, ◌≡◌, ℕ, ◌+◌, ◌≤◌, ◌<◌, length, Result, Ok, Err}
use Rattle.route_sheet.specs.Text.{line_ends}
use Rattle.route_sheet.specs.Sheet.{Sheet, SheetAllowed, sheet_text}

-- A text that can go on to be the whole text of a sheet.
pub record CanBegin (text : List ℕ) : Type 0 where
  pub sheet : Sheet
  pub allowed : SheetAllowed sheet
  pub rest : List ℕ
  pub whole : sheet_text sheet ≡ text ++ rest

-- The longest beginning of a text that can go on: what stands "before the first byte (or end) that cannot go on".
pub record LongestBeginning (text beginning : List ℕ) : Type 0 where
  pub rest : List ℕ
  pub splits : text ≡ beginning ++ rest
  pub can_begin : CanBegin beginning
  pub longest : (other after : List ℕ) → text ≡ other ++ after → CanBegin other → length other ≤ length beginning

-- No sheet has this text.
abbrev pub NoSheet : List ℕ → Type 0
NoSheet text = (sheet : Sheet) → SheetAllowed sheet → text ≡ sheet_text sheet → ⊥

-- "sheet above 65,535 bytes"
abbrev pub most_bytes : ℕ
most_bytes = 65535

-- What a text comes to; a refusal is its number and its line, 0 where it has none. "12 comes before 11, since such a sheet is not read
-- further." "The line in refusal 11 is one more than the line ends before the first byte (or end) that cannot go on."
pub data ComesTo (text : List ℕ) : Result Sheet (ℕ × ℕ) → Type 0 where
  too_long : most_bytes < length text → ComesTo text (Err (12, 0))
  listed : {sheet : Sheet} → length text ≤ most_bytes → SheetAllowed sheet → text ≡ sheet_text sheet → ComesTo text (Ok sheet)
  malformed_at :
      {beginning : List ℕ} → length text ≤ most_bytes → NoSheet text → LongestBeginning text beginning →
      ComesTo text (Err (11, 1 + line_ends beginning))
