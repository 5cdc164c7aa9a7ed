-- How a text that is not too long is read, from its first byte on: number by number, line by line. `sound` is the theorem that the text
-- comes to what is found.
use Rattle.std.specs.Prelude.{Bool, cond, ◌&&◌, List, [], ◌∷◌, ℕ, zero, suc, ◌+◌, ◌-◌, ◌*◌, eqb, leb, ltb, ℤ, pos, neg_ℤ, length, take, Result, Ok, Err}
use Rattle.route_sheet.specs.Text.{space, line_end, minus, line_ends, digit}
use Rattle.route_sheet.specs.Sheet.{Sheet, most_sets, most_moves, most_number, most_displacement}
use Rattle.route_sheet.specs.declared.BoundSet.{BoundSet}
use Rattle.route_sheet.specs.declared.RouteMove.{RouteMove}

-- The parse of a part: its value and the rest of the text; or it fails, and the rest begins with the byte (or is the end) that cannot go on.
pub data Parse (A : Type 0) : Type 0 where
  parsed : (value : A) (rest : List ℕ) → Parse A
  failed : (rest : List ℕ) → Parse A

-- One part and then the next.
unfoldable pub then_read : {A B : Type 0} → Parse A → (A → List ℕ → Parse B) → Parse B
then_read (parsed x rest) next = next x rest
then_read (failed rest) next = failed rest

abbrev pub is_digit : ℕ → Bool
is_digit b = leb (digit 0) b && leb b (digit 9)

abbrev pub digit_value : ℕ → ℕ
digit_value b = b - digit 0

-- The number n with the digit b after it.
abbrev pub with_digit : (n b : ℕ) → ℕ
with_digit n b = 10 * n + digit_value b

-- A digit can follow n unless n is 0 ("no spare zeros") or the number then passes `most`.
abbrev pub goes_on : (most n b : ℕ) → Bool
goes_on most n b = is_digit b && (ltb 0 n && leb (with_digit n b) most)

unfoldable pub read_digits : (most end n : ℕ) → List ℕ → Parse ℕ
read_digits most end n [] = failed []
read_digits most end n (b ∷ bs) =
    cond (eqb b end) (parsed n bs) (cond (goes_on most n b) (read_digits most end (with_digit n b) bs) (failed (b ∷ bs)))

-- A number from `least`, 0 or 1, to `most`, which the byte `end` ends.
abbrev pub begins : (least most b : ℕ) → Bool
begins least most b = is_digit b && (leb least (digit_value b) && leb (digit_value b) most)

unfoldable pub read_number : (least most end : ℕ) → List ℕ → Parse ℕ
read_number least most end [] = failed []
read_number least most end (b ∷ bs) = cond (begins least most b) (read_digits most end (digit_value b) bs) (failed (b ∷ bs))

-- X: a minus, or none, and its size; after a minus the size is at least 1.
unfoldable pub read_displacement : List ℕ → Parse ℤ
read_displacement [] = failed []
read_displacement (b ∷ bs) =
    cond (eqb b minus)
    (then_read (read_number 1 most_displacement space bs) λ n rest. parsed (neg_ℤ (pos n)) rest)
    (then_read (read_number 0 most_displacement space (b ∷ bs)) λ n rest. parsed (pos n) rest)

unfoldable pub read_set : List ℕ → Parse BoundSet
read_set text =
    then_read (read_number 0 most_number space text) λ v rest.
    then_read (read_number 0 most_number space rest) λ a rest.
    then_read (read_number 0 most_number space rest) λ j rest.
    then_read (read_number 0 most_number line_end rest) λ s rest.
    parsed (record { velocity = v; acceleration = a; jerk = j; snap = s }) rest

unfoldable pub read_move : (setCount : ℕ) → List ℕ → Parse RouteMove
read_move setCount text =
    then_read (read_displacement text) λ x rest.
    then_read (read_number 1 setCount line_end rest) λ n rest.
    parsed (record { displacement = x; set = n }) rest

unfoldable pub read_lines : {A : Type 0} → (List ℕ → Parse A) → (count : ℕ) → List ℕ → Parse (List A)
read_lines read zero text = parsed [] text
read_lines read (suc count) text =
    then_read (read text) λ x rest.
    then_read (read_lines read count rest) λ xs rest.
    parsed (x ∷ xs) rest

-- Both sections, whatever follows them.
unfoldable pub read_sections : List ℕ → Parse Sheet
read_sections text =
    then_read (read_number 1 most_sets line_end text) λ m rest.
    then_read (read_lines read_set m rest) λ sets rest.
    then_read (read_number 1 most_moves line_end rest) λ n rest.
    then_read (read_lines (read_move m) n rest) λ moves rest.
    parsed (record { sets = sets; moves = moves }) rest

-- The lines of a sheet: two counts, and one for each set and each move.
abbrev pub lines_in : Sheet → ℕ
lines_in x = 2 + length x.sets + length x.moves

-- "Nothing follows the last line."
unfoldable pub at_end : {A : Type 0} → A → List ℕ → Parse A
at_end x [] = parsed x []
at_end x (b ∷ bs) = failed (b ∷ bs)

unfoldable pub read_whole : List ℕ → Parse Sheet
read_whole text = then_read (read_sections text) at_end

-- The line of the byte with which the rest of a text begins.
abbrev pub line_of : (text rest : List ℕ) → ℕ
line_of text rest = 1 + line_ends (take (length text - length rest) text)

unfoldable pub outcome : (text : List ℕ) → Parse Sheet → Result Sheet (ℕ × ℕ)
outcome text (parsed sheet rest) = Ok sheet
outcome text (failed rest) = Err (11, line_of text rest)
