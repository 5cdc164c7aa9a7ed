-- "A number that leaves its allowed span is charged to its own line": the longest beginning ends within the number, and a number has no
-- line end.
use mathlib.Core.List.{List, ◌∷◌, ◌++◌, append_assoc}
use mathlib.Core.Path.{◌≡◌, refl, sym, ap, subst, ◌∙◌}
use Prim.Native.Nat.{ℕ, ◌+◌, ◌≤◌}
use native.Mathlib.Omega.{arith}
use lib.ListN.{length, length-append}
use Rattle.std.specs.Prelude.{Result, Err}
use Rattle.route_sheet.specs.Text.{line_ends, decimal}
use Rattle.route_sheet.specs.Sheet.{Sheet}
use Rattle.route_sheet.specs.Beginning.{CanBegin, LongestBeginning, most_bytes, ComesTo, too_long, listed, malformed_at}
use Rattle.route_sheet.specs.Claims.{OwnLineClaim}
use Rattle.route_sheet.proofs.TextLaws.{Overlap, longer, shorter, overlap, line_ends_append}
use Rattle.route_sheet.proofs.NumberLaws.{decimal_lines}
use Rattle.route_sheet.proofs.ComesToLaws.{sound}

-- What begins a text that can begin a sheet can begin one.
shorter_begins : (text more : List ℕ) → CanBegin (text ++ more) → CanBegin text
shorter_begins text more h =
    record { sheet = h.sheet; allowed = h.allowed; rest = more ++ h.rest; whole = h.whole ∙ append_assoc text more h.rest }

module _ (text rest : List ℕ) (n : ℕ) (begins : CanBegin text) (cannot : CanBegin (text ++ decimal n) → ⊥) where
  abbrev whole : List ℕ
  whole = text ++ (decimal n ++ rest)

  -- A beginning from `text` on: it ends within the number.
  within : {p q r : List ℕ} → p ≡ text ++ q → CanBegin p → Overlap (decimal n) rest q r → line_ends p ≡ line_ends text
  within {p} {q} e h (longer b more f g) =
      let none : line_ends q + line_ends (b ∷ more) ≡ 0 =
      sym (line_ends_append q (b ∷ more)) ∙ ap line_ends (sym f) ∙ decimal_lines n in
      ap line_ends e ∙ line_ends_append text q ∙ omega (arith, none)
  within {p} e h (shorter more f g) =
      let same = e ∙ ap (λ (q : List ℕ). text ++ q) f ∙ sym (append_assoc text (decimal n) more) in
      absurd (cannot (shorter_begins (text ++ decimal n) more (subst CanBegin same h)))

  lines_by : {p : List ℕ} (h : LongestBeginning whole p) → Overlap text (decimal n ++ rest) p h.rest → line_ends p ≡ line_ends text
  lines_by {p} h (longer b more f g) =
      let long : length text ≤ length p = h.longest text (decimal n ++ rest) refl begins in
      absurd (omega (arith, long, ap length f, length-append p (b ∷ more)))
  lines_by h (shorter more f g) = within f h.can_begin (overlap (decimal n) rest more h.rest g)

  charged : {x : Result Sheet (ℕ × ℕ)} → length whole ≤ most_bytes → ComesTo whole x → x ≡ Err (11, 1 + line_ends text)
  charged fits (too_long l) = absurd (omega arith)
  charged fits (listed {sheet = sheet} l ok e) =
      absurd (cannot (record { sheet = sheet; allowed = ok; rest = rest; whole = sym e ∙ sym (append_assoc text (decimal n) rest) }))
  charged fits (malformed_at {beginning = p} l no-sheet h) =
      ap (λ (k : ℕ). Err (11, 1 + k)) (lines_by h (overlap text (decimal n ++ rest) p h.rest h.splits))

pub own_line : OwnLineClaim
own_line text rest n begins cannot fits =
    let comes = sound (text ++ (decimal n ++ rest)) fits in
    subst (ComesTo (text ++ (decimal n ++ rest))) (charged text rest n begins cannot fits comes) comes
