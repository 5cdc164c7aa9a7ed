-- A reference row is a position plus the one before it: the sums are carried along with that row.
use Rattle.std.specs.Prelude.{ℤ, ◌+ℤ◌}
use Rattle.motion.specs.declared.sums.Paired.{Paired}

module _ {S : Type 0} (row : S → ℤ) where
  abbrev pub paired_step : (stepped : ℤ → S → S) → (level : ℤ) → Paired S → Paired S
  paired_step stepped x s = record { state = stepped x s.state; row = row (stepped x s.state) +ℤ row s.state }

  -- The first row is twice the first position.
  abbrev pub paired_start : S → Paired S
  paired_start s = record { state = s; row = row s +ℤ row s }
