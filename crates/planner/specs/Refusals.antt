-- Document 01, "Why a move or sheet is turned away": what a call comes to, and which refusal is given. That is `Ok` of what was asked for, or
-- `Err` of a refusal: the paper's number, or what carries a line or a place too.
use Rattle.std.specs.Prelude.{Bool, true, false, List, [], ◌∷◌, ◌++◌, ℕ, ◌-◌, length, replicate, Result, Err}

-- A row of the paper's table: its number, or what carries a place too, and whether it applies.
pub data Check (R : Type 0) : Type 0 where
  check : (refusal : R) (applies : Bool) → Check R

-- "Where several apply, the lowest number is given": the checks stand in the order in which they are asked, and o is left where
-- none applies.
unfoldable pub first_refusal : {R A : Type 0} → List (Check R) → (o : Result A R) → Result A R
first_refusal [] o = o
first_refusal (check refusal true ∷ xs) o = Err refusal
first_refusal (check refusal false ∷ xs) o = first_refusal xs o

-- A property of every element of a list.
abbrev pub Each : {A : Type 0} → (A → Type 0) → List A → Type 0
Each P [] = Unit {0}
Each P (x ∷ xs) = P x × Each P xs

-- The elements of a list in so many places, and what fills the others.
abbrev pub padded : {A : Type 0} → (places : ℕ) → A → List A → List A
padded places unused xs = xs ++ replicate (places - length xs) unused
