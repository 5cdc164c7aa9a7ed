-- Document 01, "The profile" and "Force rows", and document 02, 4 and 7: the tables of positions, of reference rows and of force rows.
use Rattle.std.specs.Prelude.{not, List, [], ◌∷◌, ◌++◌, ◌≡◌, ℕ, zero, suc, ◌+◌, min, ltb, ℤ, ◌+ℤ◌, Float, length, drop, Result, Ok, Err}
use Rattle.planner.specs.Refusals.{Check, check, first_refusal}
use Rattle.planner.specs.Outcome.{samples_of}
use Rattle.planner.specs.declared.Move.{Move}
use Rattle.motion.specs.Sampling.{Values, values_of, position_from, Motion, fourth_order}
use Rattle.motion.specs.ForceRows.Machine.{Machine, machine_as_read, machine_in_range}
use Rattle.motion.specs.ForceRows.Doubled.{Doubled, earlier, doubled_values}
use Rattle.motion.specs.ForceRows.Force.{force_row}

-- The rows from k on, n of them.
unfoldable pub rows_from : {A : Type 0} → (ℕ → A) → (k n : ℕ) → List A
rows_from row k zero = []
rows_from row k (suc n) = row k ∷ rows_from row (suc k) n

-- The lent table at exit: the rows from place 0 on and every later place as it was; at a refusal, the old table.
unfoldable pub table_of : {A : Type 0} → Result ℕ ℕ → (rows old : List A) → List A
table_of (Err number) rows old = old
table_of (Ok n) rows old = rows ++ drop (length rows) old

-- "Position before 0 is 0 and after N is its final value": a position is held outside 0 to N. Before 0 it is what `earlier` gives: no
-- distance from the start, so "Position before sample 0 is then the start's".
unfoldable pub held_position : (N : ℕ) (values : ℕ → Values) → ℕ → ℤ
held_position N values k = (values (min k N)).position

-- "a reference row holds position[k] plus position[k−1], doubled units", and gains "twice G times the start".
unfoldable pub reference_row : (start : ℤ) (N : ℕ) (values : ℕ → Values) → ℕ → ℤ
reference_row start N values k = position_from start (held_position N values k) +ℤ position_from start (earlier (held_position N values) 1 k)

-- Refusal 10: "a machine number outside its range or not finite".
abbrev pub machine_check : Machine Float → Check ℕ
machine_check machine = check 10 (not (machine_in_range (machine_as_read machine)))

-- Of a move in either order.
module _ (x : Motion) where
  -- The planner's checks, then 8: the table has fewer places than there are rows; then the entry's own; else how many rows were written.
  abbrev pub table_checks : (own : List (Check ℕ)) (rows places : ℕ) → List (Check ℕ)
  table_checks own rows places = x.plan_checks ++ (check 8 (ltb places rows) ∷ own)

  unfoldable pub table_result : (own : List (Check ℕ)) (rows places : ℕ) → Result ℕ ℕ
  table_result own rows places = first_refusal (table_checks own rows places) (Ok rows)

  -- The outcome and the table at exit of an entry that writes so many rows.
  pub record Fills {A : Type 0} (own : List (Check ℕ)) (rows : ℕ) (row : ℕ → A) (old : List A) (o : Result ℕ ℕ) (new : List A) : Type 0 where
    pub outcome_is : o ≡ table_result own rows (length old)
    pub table_is : new ≡ table_of (table_result own rows (length old)) (rows_from row 0 rows) old

  -- What the position table's entry promises: "places 0 to N receive positions", and 8 for a "table under N+1 places".
  unfoldable pub FillsPositions : (old : List ℤ) (o : Result ℕ ℕ) (new : List ℤ) → Type 0
  FillsPositions = Fills [] (x.samples + 1) (λ k. position_from x.start (x.values k).position)

  -- What the reference table's entry promises: rows "for k from 0 to N+1", and "Refusal 8 asks N+2 places for it".
  unfoldable pub FillsReference : (old : List ℤ) (o : Result ℕ ℕ) (new : List ℤ) → Type 0
  FillsReference = Fills [] (x.samples + 2) (reference_row x.start x.samples x.values)

-- The fourth order alone has force rows.
module _ (m : Move) where
  -- d2, j2, a2 and v2 of row k.
  unfoldable pub row_numbers : ℕ → Doubled ℤ
  row_numbers = doubled_values (samples_of m) (values_of m)

  unfoldable pub force : Machine Float → ℕ → Float
  force machine = force_row (machine_as_read machine) row_numbers

  -- What the force table's entry promises: 8 for a "table under .. N+2" places, then 10.
  unfoldable pub FillsForce : Machine Float → (old : List Float) (o : Result ℕ ℕ) (new : List Float) → Type 0
  FillsForce machine = Fills (fourth_order m) (machine_check machine ∷ []) (samples_of m + 2) (force machine)
