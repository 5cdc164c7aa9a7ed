-- One step from any origin: over a snap in the fourth order, over a jerk in the third.
use mathlib.Core.Path.{◌≡◌, refl}
use Prim.Native.Nat.{ℕ, ◌+◌}
use native.Mathlib.Numerals.{add-one}
use lib.IntN.{ℤ}
use Rattle.profile.specs.Profile.{sum}
use Rattle.profile.specs.Inner.Repeated.{sums}
use Rattle.motion.specs.Inner.Steps.{stepped, sum_from, state_from, summed, sums_from}

pub next : (origin : ℤ) (f : ℕ → ℤ) (k : ℕ) → stepped (state_from origin f k) (f k) ≡ state_from origin f (k + 1)
unfolding sum sums sum_from
next origin f k = rw (add-one k) refl

pub third_next : (origin : ℤ) (f : ℕ → ℤ) (k : ℕ) → summed (sums_from origin f k) (f k) ≡ sums_from origin f (k + 1)
unfolding sum sums sum_from
third_next origin f k = rw (add-one k) refl
