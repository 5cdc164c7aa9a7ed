-- The switched value of a plan in the direction of X.
use mathlib.Core.List.{List}
use Prim.Native.Nat.{ℕ}
use lib.IntN.{ℤ}
use Rattle.planner.specs.Quantities.{along}
use Rattle.profile.specs.Profile.{Segment, switched_in}

module _ (X : ℤ) (xs : List Segment) (D : ℕ) where
  abbrev pub directed_value : ℕ → ℤ
  directed_value k = along X (switched_in xs D k)
