-- Document 02, 4 and 7: what the half sample is for, over what the entries give (`reference_rows`). The rows of the reference table are
-- held against the values of the samples.
use Rattle.std.specs.Prelude.{List, ◌≡◌, ℕ, ◌+◌, ◌-◌, ◌≤◌, ◌<◌, ℤ, pos, ◌-ℤ◌, ◌*ℤ◌, length, get_or, ◌≤ℤ◌, ◌<ℤ◌, Ok}
use Rattle.planner.specs.declared.Move.{Move}
use Rattle.motion.specs.Sampling.{units_of, Motion, fourth_order, third_order, Samples}
use Rattle.motion.specs.Tables.{FillsReference}
use Rattle.motion.specs.declared.Sample.{Sample}

module _ (X start : ℤ) (N : ℕ) (at : ℕ → Sample) (table : List ℤ) where
  abbrev row : (k : ℕ) → ℤ
  row k = get_or table k (pos 0)

  pub record ReferenceRows : Type 0 where
    pub places : N + 1 < length table
    -- So at a steady speed a row is twice the position half a sample earlier, which is the position less half the velocity.
    pub row_is : (k : ℕ) → 1 ≤ k → k ≤ N → row k ≡ pos 2 *ℤ (at k).position -ℤ (at (k - 1)).velocity
    pub row_first : row 0 ≡ pos 2 *ℤ units_of start
    pub row_last : row (N + 1) ≡ pos 2 *ℤ (at N).position
    -- For a positive X, and for a negative one.
    pub never_falls : pos 0 <ℤ X → (k : ℕ) → k ≤ N → row k ≤ℤ row (k + 1)
    pub never_rises : X <ℤ pos 0 → (k : ℕ) → k ≤ N → row (k + 1) ≤ℤ row k

-- Wherever the one-sample entry gives values for each k from 0 to N, and the reference table's entry fills its table.
abbrev pub ReferenceOf : Move → Motion → Type 0
ReferenceOf m x =
    (at : ℕ → Sample) → ((k : ℕ) → k ≤ x.samples → Samples x k (Ok (at k)))
    → (old new : List ℤ) (rows : ℕ) → FillsReference x old (Ok rows) new
    → ReferenceRows m.displacement m.start x.samples at new

pub record ReferenceClaim (m : Move) : Type 0 where
  pub fourth : ReferenceOf m (fourth_order m)
  pub third : ReferenceOf m (third_order m)
