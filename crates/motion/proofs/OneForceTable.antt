-- Force rows do not depend on the start.
use mathlib.Core.List.{List}
use mathlib.Core.Path.{◌≡◌, sym, ap, ap₂, ◌∙◌}
use Prim.Native.Nat.{ℕ, ◌+◌}
use lib.Ieee.{Float}
use Rattle.planner.specs.Refusals.{Check}
use Rattle.std.specs.Prelude.{Result, Ok}
use Rattle.planner.specs.Outcome.{intervals_of, samples_of}
use Rattle.planner.specs.declared.Move.{Move}
use Rattle.motion.specs.Sampling.{Values, values_of, Motion}
use Rattle.motion.specs.ForceRows.Machine.{Machine, machine_as_read}
use Rattle.motion.specs.ForceRows.Doubled.{doubled_values}
use Rattle.motion.specs.ForceRows.Force.{force_row}
use Rattle.motion.specs.Tables.{rows_from, table_of, row_numbers, force, Fills, FillsForce}
use Rattle.motion.specs.StartClaims.{OneForceTableClaim}
use Rattle.motion.proofs.FillLaws.{filled_rows}

-- a table that was filled holds the rows, whatever the checks are
filled_is :
    {A : Type 0} {x : Motion} {own : List (Check ℕ)} {rows n : ℕ} {row : ℕ → A} {old new : List A}
    → Fills x own rows row old (Ok n) new
    → new ≡ table_of (Ok n) (rows_from row 0 rows) old
filled_is {rows = rows} {row = row} {old = old} f =
    f.table_is ∙ ap (λ (r : Result ℕ ℕ). table_of r (rows_from row 0 rows) old) (sym f.outcome_is)

-- force rows read the samples and the values of a move, and these have no start in them
same_force :
    (m n : Move) (machine : Machine Float) (old : List Float) {new new' : List Float} {rows rows' : ℕ}
    → samples_of m ≡ samples_of n
    → values_of m ≡ values_of n
    → FillsForce m machine old (Ok rows) new
    → FillsForce n machine old (Ok rows') new'
    → (rows ≡ rows') × (new ≡ new')
unfolding FillsForce force row_numbers
same_force m n machine old {rows = rows} samples values f g =
    let many = filled_rows f ∙ ap (λ (N : ℕ). N + 2) samples ∙ sym (filled_rows g) in (
      many,
      filled_is f
          ∙ ap₂
          (λ (N : ℕ) (v : ℕ → Values).
          table_of (Ok rows) (rows_from (force_row (machine_as_read machine) (doubled_values N v)) 0 (N + 2)) old) samples values
          ∙ ap (λ (r : ℕ). table_of (Ok r) (rows_from (force_row (machine_as_read machine) (row_numbers n)) 0 (samples_of n + 2)) old) many
          ∙ sym (filled_is g),
    )

pub one_force_table : OneForceTableClaim
unfolding samples_of intervals_of values_of
one_force_table m n same machine old new new' rows rows' = same_force m n machine old (ap samples_of same) (ap values_of same)
