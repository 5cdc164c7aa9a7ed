-- Document 01, "Why a move or sheet is turned away": "Where several apply, the lowest number is given", as the theorems `first_given`,
-- `lowest_given` and `plan_order` say it of the checks. Document 02, request 7, puts 14 among them.
use Rattle.std.specs.Prelude.{true, false, cond, List, [], ◌∷◌, map, ◌⊎◌, ◌↔◌, ◌≡◌, ℕ, ◌*◌, ◌≤◌, ◌<◌, eqb, Ok, Err}
use Rattle.planner.specs.Refusals.{Check, check, first_refusal, Each}
use Rattle.planner.specs.Outcome.{checks}
use Rattle.planner.specs.declared.Move.{Move}

abbrev pub number_of : Check ℕ → ℕ
number_of (check number applies) = number

-- The check of refusal n applies, and none before it does.
abbrev pub FirstToApply : {R : Type 0} → R → List (Check R) → Type 0
FirstToApply n [] = ⊥
FirstToApply n (check refusal applies ∷ xs) = ((applies ≡ true) × (refusal ≡ n)) ⊎ ((applies ≡ false) × FirstToApply n xs)

-- Of every list of checks: a refusal is given if and only if its check applies and none before it does.
abbrev pub FirstClaim : Type 1
FirstClaim = (R A : Type 0) (xs : List (Check R)) (x : A) (n : R) → (first_refusal xs (Ok x) ≡ Err n) ↔ FirstToApply n xs

-- The place of refusals 1 to 10 and 14 among each other: by the number, which is doubled to make room for 14, "after 6 and before 7".
unfoldable pub rank : (number : ℕ) → ℕ
rank number = cond (eqb number 14) 13 (2 * number)

-- Each check has a greater rank than the one before it.
abbrev pub Rising : List (Check ℕ) → Type 0
Rising [] = Unit {0}
Rising (x ∷ []) = Unit {0}
Rising (x ∷ y ∷ xs) = (rank (number_of x) < rank (number_of y)) × Rising (y ∷ xs)

-- If the check applies, its rank is that of n or greater.
abbrev pub NotBelow : ℕ → Check ℕ → Type 0
NotBelow n (check number applies) = applies ≡ true → rank n ≤ rank number

-- Of checks that rise, as those of refusals 1 to 10 and 14 do: none that applies has a lower rank than the one that is given. That this one
-- applies is `FirstClaim`.
abbrev pub LowestClaim : Type 1
LowestClaim = (A : Type 0) (xs : List (Check ℕ)) (x : A) (n : ℕ) → Rising xs → first_refusal xs (Ok x) ≡ Err n → Each (NotBelow n) xs

-- The checks stand in the order of these numbers.
abbrev pub InOrder : List (Check ℕ) → List ℕ → Type 0
InOrder xs numbers = (map number_of xs ≡ numbers) × Rising xs

abbrev pub PlanOrderClaim : Type 0
PlanOrderClaim = (m : Move) → InOrder (checks m) (1 ∷ 2 ∷ 3 ∷ 4 ∷ 5 ∷ 6 ∷ 14 ∷ 7 ∷ [])
