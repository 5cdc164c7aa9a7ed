-- The levels of the switched value.
use Rattle.std.specs.Prelude.{◌≡◌, ℕ, ℤ, pos, neg_ℤ}
use Rattle.planner.specs.Quantities.{along}
use Rattle.motion.specs.declared.switched.Levels.{Levels}

-- D in the direction of X, in segments with +, and against it in those with −.
pub record AreLevels (X : ℤ) (D : ℕ) (levels : Levels) : Type 0 where
  pub positive_is : levels.positive ≡ along X (pos D)
  pub negative_is : levels.negative ≡ neg_ℤ (along X (pos D))
