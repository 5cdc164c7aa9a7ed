-- Texts one after the other: their line ends and their length.
use mathlib.Core.List.{List, [], ◌∷◌}
use mathlib.Core.Path.{◌≡◌, refl, ◌∙◌}
use Prim.Native.Nat.{ℕ, ◌*◌, ◌≤◌}
use native.Mathlib.Omega.{arith}
use lib.ListN.{length, length-append}
use Rattle.planner.specs.Refusals.{Each}
use Rattle.route_sheet.specs.Text.{line_ends}
use Rattle.route_sheet.specs.Sheet.{joined}
use Rattle.route_sheet.proofs.TextLaws.{line_ends_append}

module _ {A : Type 0} (text : A → List ℕ) where
  pub joined_lines : ((a : A) → line_ends (text a) ≡ 1) → (xs : List A) → line_ends (joined text xs) ≡ length xs
  unfolding joined
  joined_lines one_line [] = refl
  joined_lines one_line (x ∷ xs) = line_ends_append (text x) (joined text xs) ∙ omega (arith, one_line x, joined_lines one_line xs)

  pub joined_length :
      {ok : A → Type 0} (most : ℕ) → ((a : A) → ok a → length (text a) ≤ most) → (xs : List A) → Each ok xs →
      length (joined text xs) ≤ length xs * most
  unfolding joined
  joined_length most short [] h = omega arith
  joined_length most short (x ∷ xs) h = rw length-append (omega (arith, short x h.0, joined_length most short xs h.1))
