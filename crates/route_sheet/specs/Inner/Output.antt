-- Bytes that are put into the report's buffer, from an offset on.
use Rattle.std.specs.Prelude.{List, [], ◌∷◌, ◌++◌, ◌≡◌, ℕ, ◌+◌, ◌≤◌, length, take, drop}
use denote.Ref.{Bor}
use Rattle.route_sheet.specs.Text.{line_end, decimal}
use Rattle.route_sheet.specs.Report.{most_report}

-- The bytes fit from offset `at` on.
abbrev pub Room : (at : ℕ) → List ℕ → Type 0
Room at bytes = at + length bytes ≤ most_report

-- They were put there, and `next` is the offset after them.
pub record Puts (old : List ℕ) (at : ℕ) (bytes : List ℕ) (next : ℕ) (new : List ℕ) : Type 0 where
  pub next_is : next ≡ at + length bytes
  pub front : take next new ≡ take at old ++ bytes
  pub rest : drop next new ≡ drop next old

-- A line of words, each with its number after it.
unfoldable pub line_text : List (Bor (List ℕ) × ℕ) → List ℕ
line_text [] = line_end ∷ []
line_text (f ∷ fs) = f.0.now ++ (decimal f.1 ++ line_text fs)
