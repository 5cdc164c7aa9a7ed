-- What a sheet may list, and its text, written out from its sets and moves.
use Rattle.std.specs.Prelude.{List, [], ◌∷◌, ◌++◌, ℕ, ◌-◌, ◌^◌, ◌≤◌, nat_abs, length}
use Rattle.planner.specs.Refusals.{Each}
use Rattle.route_sheet.specs.Text.{space, line_end, decimal, signed_decimal}
use Rattle.route_sheet.specs.declared.BoundSet.{BoundSet}
use Rattle.route_sheet.specs.declared.RouteMove.{RouteMove}

-- The bound sets, V A J S each, and the moves, X and a set number each.
pub record Sheet : Type 0 where
  pub sets : List BoundSet
  pub moves : List RouteMove

-- A number in its allowed span.
pub record Within (least most n : ℕ) : Type 0 where
  pub from : least ≤ n
  pub to : n ≤ most

abbrev pub most_sets : ℕ
most_sets = 16

abbrev pub most_moves : ℕ
most_moves = 256

-- "at most 19 digits"
abbrev pub most_number : ℕ
most_number = 10 ^ 19 - 1

-- "X is at most 2^63−1 in size."
abbrev pub most_displacement : ℕ
most_displacement = 2 ^ 63 - 1

pub record SetAllowed (x : BoundSet) : Type 0 where
  pub velocity : Within 0 most_number x.velocity
  pub acceleration : Within 0 most_number x.acceleration
  pub jerk : Within 0 most_number x.jerk
  pub snap : Within 0 most_number x.snap

-- "a set number from 1 to the first count"
pub record MoveAllowed (setCount : ℕ) (x : RouteMove) : Type 0 where
  pub displacement : nat_abs x.displacement ≤ most_displacement
  pub set : Within 1 setCount x.set

-- A section: its count, from 1 to `most`, and its values. "Sets may stand in any order and may repeat": none is compared with another.
pub record SectionAllowed {A : Type 0} (ok : A → Type 0) (most : ℕ) (xs : List A) : Type 0 where
  pub count : Within 1 most (length xs)
  pub each : Each ok xs

pub record SheetAllowed (x : Sheet) : Type 0 where
  pub first : SectionAllowed SetAllowed most_sets x.sets
  pub second : SectionAllowed (MoveAllowed (length x.sets)) most_moves x.moves

-- A text, and the byte that ends it: a space between the numbers of a line, a line end after the last.
abbrev pub ended : (end : ℕ) → List ℕ → List ℕ
ended end text = text ++ (end ∷ [])

abbrev pub count_line : ℕ → List ℕ
count_line n = ended line_end (decimal n)

-- V A J S
unfoldable pub set_line : BoundSet → List ℕ
set_line x =
    ended space (decimal x.velocity)
    ++ (ended space (decimal x.acceleration)
    ++ (ended space (decimal x.jerk)
    ++ ended line_end (decimal x.snap)))

-- X and the set number
unfoldable pub move_line : RouteMove → List ℕ
move_line x = ended space (signed_decimal x.displacement) ++ ended line_end (decimal x.set)

-- One after the other.
unfoldable pub joined : {A : Type 0} → (A → List ℕ) → List A → List ℕ
joined text [] = []
joined text (x ∷ xs) = text x ++ joined text xs

-- A section: "its count", then "a line each".
abbrev pub section_text : {A : Type 0} → (line : A → List ℕ) → List A → List ℕ
section_text line xs = count_line (length xs) ++ joined line xs

-- The first section has the bound sets, the second the moves.
unfoldable pub sheet_text : Sheet → List ℕ
sheet_text x = section_text set_line x.sets ++ section_text move_line x.moves
