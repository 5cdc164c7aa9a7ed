-- What the entries of any order need of sums that run along a plan's levels.
use mathlib.Core.List.{List, [], ◌++◌}
use mathlib.Core.Path.{◌≡◌, refl, sym, ap, subst, ◌∙◌, fun_ext}
use Prim.Native.Nat.{ℕ, suc, ◌+◌, ◌≤◌}
use native.Mathlib.Omega.{arith}
use lib.IntN.{ℤ, ◌+ℤ◌, +ℤ_idr}
use lib.ListN.{length, drop}
use Rattle.std.specs.Prelude.{Ok}
use Rattle.motion.specs.Sampling.{Values, Motion, units_of}
use Rattle.motion.specs.Tables.{rows_from, FillsPositions, FillsReference}
use Rattle.motion.specs.declared.sums.Stretch.{Stretch}
use Rattle.motion.specs.declared.sums.Paired.{Paired}
use Rattle.motion.specs.Inner.Planned.{positions_from}
use Rattle.motion.specs.Inner.PairedSums.{paired_step, paired_start}
use Rattle.motion.specs.Inner.Stretches.{CanRun, Follows, row_count, rows_of}
use Rattle.motion.specs.Inner.Orders.{PlannedAs, RunsAlong, Rests}
use Rattle.motion.proofs.FillLaws.{written, fills_positions, fills_reference}
use Rattle.motion.proofs.PairedLaws.{pair_can}
use Rattle.motion.proofs.ReferenceLaws.{paired_row, paired_rows}
use Rattle.motion.proofs.StretchLaws.{can_along, rows_along}

module _
    {S : Type 0} {row : S → ℤ} {can : ℤ → S → Type 0} {stepped : ℤ → S → S} {level : ℕ → ℤ} {start : S} {count : ℕ} {p : ℕ → ℤ}
    (r : RunsAlong row can stepped level start count p) (xs : List Stretch) (h : Follows xs level 0)
  where
    pub along_can : row_count xs ≤ count → CanRun can stepped xs start
    along_can l =
        subst (CanRun can stepped xs) r.first (can_along stepped level r.at r.next can xs 0 h (λ i k. r.fits i (omega (arith, k, l))))

    pub along_rows : rows_of row stepped xs start ≡ rows_from p 0 (row_count xs)
    along_rows =
        ap (rows_of row stepped xs) (sym r.first)
        ∙ rows_along stepped level r.at r.next row xs 0 h
        ∙ ap (λ (q : ℕ → ℤ). rows_from q 0 (row_count xs)) (fun_ext r.rows_are)

    pub along_pairs_can : row_count xs ≤ count → CanRun (λ x s. can x s.state) (paired_step row stepped) xs (paired_start row start)
    along_pairs_can l = pair_can row stepped can xs (paired_start row start) (along_can l)

    paired_at : ℕ → Paired S
    paired_at k = record { state = r.at k; row = paired_row (λ j. row (r.at j)) k }

    paired_next : (k : ℕ) → paired_step row stepped (level k) (paired_at k) ≡ paired_at (suc k)
    unfolding paired_at paired_row
    paired_next k = ap (λ (s : S). record { state = s; row = row s +ℤ row (r.at k) }) (r.next k)

    pub along_pairs : rows_of (λ s. s.row) (paired_step row stepped) xs (paired_start row start) ≡ rows_from (paired_row p) 0 (row_count xs)
    unfolding paired_at paired_row
    along_pairs =
        ap (λ (s : S). rows_of (λ s. s.row) (paired_step row stepped) xs (paired_start row s)) (sym r.first)
        ∙ rows_along (paired_step row stepped) level paired_at paired_next (λ (s : Paired S). s.row) xs 0 h
        ∙ ap (λ (q : ℕ → ℤ). rows_from (paired_row q) 0 (row_count xs)) (fun_ext r.rows_are)

-- the table of an entry
module _
    {x : Motion} {n : ℕ} {v : ℕ → Values} (f : PlannedAs x n v) {start : ℤ} (starts : x.start ≡ start) (old : List ℤ) {new : List ℤ}
    {rows count : ℕ}
  where
    pub positions_written :
        rows ≡ n + 1 → count ≡ n + 1 → n + 1 ≤ length old
        → new ≡ rows_from (positions_from start v) 0 count ++ drop count old
        → FillsPositions x old (Ok rows) new
    positions_written is counted room filled =
        fills_positions f (written [] is room tt
        (record {
          table_is =
              filled ∙ ap (λ (n : ℕ). rows_from (positions_from start v) 0 n ++ drop n old) counted
              ∙ ap (λ (s : ℤ). rows_from (positions_from s v) 0 (n + 1) ++ drop (n + 1) old) (sym starts);
        }))

    pub references_written :
        Rests n v → rows ≡ n + 2 → count ≡ n + 2 → n + 2 ≤ length old
        → new ≡ rows_from (paired_row (positions_from start v)) 0 count ++ drop count old
        → FillsReference x old (Ok rows) new
    references_written rests is counted room filled =
        let first : positions_from x.start v 0 ≡ units_of x.start = ap (λ (y : ℤ). units_of x.start +ℤ y) rests.begins ∙ +ℤ_idr (units_of x.start) in
        let same = fun_ext (paired_rows x.start n v (positions_from x.start v) refl first (fun_ext rests.holds)) in
        fills_reference f (written [] is room tt
        (record {
          table_is =
              filled ∙ ap (λ (n : ℕ). rows_from (paired_row (positions_from start v)) 0 n ++ drop n old) counted
              ∙ ap (λ (s : ℤ). rows_from (paired_row (positions_from s v)) 0 (n + 2) ++ drop (n + 2) old) (sym starts)
              ∙ ap (λ (row : ℕ → ℤ). rows_from row 0 (n + 2) ++ drop (n + 2) old) same;
        }))
