-- What a table entry promises, case by case, for any rule of its rows.
use mathlib.Core.Bool.{Bool, true}
use mathlib.Core.List.{List, [], ◌∷◌, ◌++◌}
use mathlib.Core.Path.{◌≡◌, refl, sym, ap, ap₂, ◌∙◌, fun_ext}
use Prim.Native.Nat.{ℕ, zero, suc, ◌+◌, ◌≤◌, ◌<◌}
use native.Mathlib.Omega.{arith}
use borrow.Author.Tests.{lt-ltb, le-ltb, ltb-false}
use lib.Dec.{ltb}
use lib.IntN.{ℤ}
use lib.ListN.{length, get_or, drop, length-append, get_or-append}
use Rattle.planner.specs.Refusals.{Each, Check, check, first_refusal}
use Rattle.std.specs.Prelude.{Result, Ok, Err}
use Rattle.planner.proofs.EachLaws.{each_parts}
use Rattle.planner.proofs.RefusalLaws.{Passes, passed, all_pass, refused_on}
use Rattle.planner.proofs.ResultLaws.{same_given}
use Rattle.motion.specs.Sampling.{Values, position_from, Motion}
use Rattle.motion.specs.Tables.{rows_from, table_of, table_checks, table_result, Fills, FillsPositions, reference_row, FillsReference}
use Rattle.motion.specs.Inner.Planned.{positions_from, RowsIn, WritesRows}
use Rattle.motion.specs.Answer.{number, outcome}
use Rattle.motion.specs.declared.MotionRefusal.{MotionRefusal}
use Rattle.motion.specs.Inner.Orders.{PlannedAs, RefusedAs}
use Rattle.motion.proofs.EntryLaws.{own_checks}

length_rows : {A : Type 0} (row : ℕ → A) (k n : ℕ) → length (rows_from row k n) ≡ n
unfolding rows_from
length_rows row k zero = refl
length_rows row k (suc n) = ap suc (length_rows row (suc k) n)

-- row k of a table
row_at : {A : Type 0} (row : ℕ → A) (x : A) (j n k : ℕ) → k < n → get_or (rows_from row j n) k x ≡ row (j + k)
unfolding rows_from
row_at row x j zero k h = absurd (omega arith)
row_at row x j (suc n) zero h = ap row (omega arith)
row_at row x j (suc n) (suc k) h = row_at row x (suc j) n k (omega arith) ∙ ap row (omega arith)

module _ {A : Type 0} {rows : ℕ} {row : ℕ → A} {old : List A} where
  -- a plan and a table: refusal 8, the first of the entry's own, and the rows
  pub short : (own : List (Check ℕ)) → length old < rows → WritesRows own rows row old (Err 8) old
  unfolding first_refusal table_of
  short own l = record { outcome_is = rw (lt-ltb (length old) rows l) refl; table_is = refl }

  pub own_refused : (n : ℕ) (test : Bool) → rows ≤ length old → test ≡ true → WritesRows (check n test ∷ []) rows row old (Err n) old
  unfolding first_refusal table_of
  own_refused n test l h = record { outcome_is = rw (le-ltb (length old) rows l, h) refl; table_is = refl }

  pub written :
      (own : List (Check ℕ)) {n : ℕ} {new : List A}
      → n ≡ rows
      → rows ≤ length old
      → Each Passes own
      → RowsIn rows row old new
      → WritesRows own rows row old (Ok n) new
  unfolding first_refusal table_of
  written own count l p h =
      record {
        outcome_is =
            ap Ok count
            ∙ sym (ap (λ (t : Bool). first_refusal (check 8 t ∷ own) (Ok rows)) (le-ltb (length old) rows l)
            ∙ all_pass own (Ok rows) p);
        table_is = h.table_is ∙ ap (λ (n : ℕ). rows_from row 0 rows ++ drop n old) (sym (length_rows row 0 rows));
      }

  -- a move in either order and a table
  module _ {x : Motion} {own : List (Check ℕ)} where
    pub fills_refused :
        {P : Type 0} {e : MotionRefusal} {r : Result ℕ MotionRefusal} → RefusedAs P x (number e) → r ≡ Err e → Fills x own rows row old (outcome r) old
    unfolding table_result table_of
    fills_refused {e = e} h is =
        let first = refused_on x.plan_checks (check 8 (ltb (length old) rows) ∷ own) h.plan (Ok rows) (number e) h.is in
        rw is (record { outcome_is = first; table_is = ap (λ (r : Result ℕ ℕ). table_of r (rows_from row 0 rows) old) first })

    pub fills :
        {planRows : ℕ} {planRow : ℕ → A} {new : List A} {o : Result ℕ ℕ}
        → Each Passes x.plan_checks
        → planRows ≡ rows
        → ((k : ℕ) → planRow k ≡ row k)
        → WritesRows own planRows planRow old o new
        → Fills x own rows row old o new
    unfolding table_result
    fills h count same w =
        let result =
        w.outcome_is
        ∙ ap (λ (n : ℕ). first_refusal (check 8 (ltb (length old) n) ∷ own) (Ok n)) count
        ∙ sym (own_checks x.plan_checks h (check 8 (ltb (length old) rows) ∷ own) (Ok rows)) in
        record {
          outcome_is = result;
          table_is =
              w.table_is
              ∙ ap₂ (λ (r : Result ℕ ℕ) (rows : List A). table_of r rows old) result
              (ap₂ (λ (f : ℕ → A) (n : ℕ). rows_from f 0 n) (fun_ext same) count);
        }

    -- what the table holds where no check applies
    module _
        {new : List A} {o : Result ℕ ℕ}
        (h : Each Passes x.plan_checks)
        (room : rows ≤ length old)
        (pass : Each Passes own)
        (filled : Fills x own rows row old o new)
      where
        all_filled : table_result x own rows (length old) ≡ Ok rows
        unfolding table_result
        all_filled =
            own_checks x.plan_checks h (check 8 (ltb (length old) rows) ∷ own) (Ok rows)
            ∙ all_pass (check 8 (ltb (length old) rows) ∷ own) (Ok rows) (le-ltb (length old) rows room, pass)

        pub filled_outcome : o ≡ Ok rows
        filled_outcome = filled.outcome_is ∙ all_filled

        filled_table : new ≡ rows_from row 0 rows ++ drop (length (rows_from row 0 rows)) old
        unfolding table_of
        filled_table = filled.table_is ∙ ap (λ (r : Result ℕ ℕ). table_of r (rows_from row 0 rows) old) all_filled

        pub filled_places : rows ≤ length new
        filled_places =
            omega (
              arith,
              ap length filled_table,
              length-append (rows_from row 0 rows) (drop (length (rows_from row 0 rows)) old),
              length_rows row 0 rows,
            )

        pub filled_row : (x : A) (k : ℕ) → k < rows → get_or new k x ≡ row k
        filled_row x k l =
            ap (λ (t : List A). get_or t k x) filled_table
            ∙ get_or-append (rows_from row 0 rows) _ x k (omega (arith, length_rows row 0 rows))
            ∙ row_at row x 0 rows k l
            ∙ ap row (omega arith)

    -- a table that was filled: no check applied, so all that was sent was in range
    module _ {n : ℕ} {new : List A} (filled : Fills x own rows row old (Ok n) new) where
      none_applies : Each Passes x.plan_checks × Each Passes (check 8 (ltb (length old) rows) ∷ own)
      unfolding table_result
      none_applies =
          each_parts Passes x.plan_checks (check 8 (ltb (length old) rows) ∷ own)
          (passed (table_checks x own rows (length old)) rows n (sym filled.outcome_is))

      pub filled_passes : Each Passes x.plan_checks
      filled_passes = none_applies.0

      pub filled_room : rows ≤ length old
      filled_room = ltb-false (length old) rows none_applies.1.0

      pub filled_own : Each Passes own
      filled_own = none_applies.1.1

      pub filled_rows : n ≡ rows
      filled_rows = same_given (filled_outcome filled_passes filled_room filled_own filled)

      pub filled_at : (x : A) (k : ℕ) → k < n → get_or new k x ≡ row k
      filled_at x k l = filled_row filled_passes filled_room filled_own filled x k (omega (arith, filled_rows))

-- a plan's positions
module _ {x : Motion} {n : ℕ} {v : ℕ → Values} (f : PlannedAs x n v) {old new : List ℤ} {o : Result ℕ ℕ} where
  pub fills_positions : WritesRows [] (n + 1) (positions_from x.start v) old o new → FillsPositions x old o new
  unfolding FillsPositions
  fills_positions =
      fills f.pass (ap (λ (n : ℕ). n + 1) f.samples_are)
      (λ k. ap (λ (v : Values). position_from x.start v.position) (f.values_are k))

  pub fills_reference : WritesRows [] (n + 2) (reference_row x.start n v) old o new → FillsReference x old o new
  unfolding FillsReference
  fills_reference =
      fills f.pass (ap (λ (n : ℕ). n + 2) f.samples_are)
      (λ k. ap₂ (λ (n : ℕ) (v : ℕ → Values). reference_row x.start n v k) f.samples_are (fun_ext f.values_are))
