-- A sample of a profile over widths, seen from inside its outermost interval.
use Rattle.std.specs.Prelude.{List, ◌∷◌, ◌≡◌, ℕ, ℤ}
use Rattle.profile.specs.Inner.Widths.{switched_by}

-- The inner profile has at k' with u' and v' the value that the profile of width w around it has at k with u and v.
pub record SameValue (w : ℕ) (u v : ℤ) (k : ℕ) (u' v' : ℤ) (k' : ℕ) : Type 0 where
  pub same : (a : ℕ) (ws : List ℕ) → switched_by a (w ∷ ws) u v k ≡ switched_by a ws u' v' k'
