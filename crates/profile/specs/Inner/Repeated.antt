-- Sums of sums.
use Rattle.std.specs.Prelude.{ℕ, zero, suc, ℤ}
use Rattle.profile.specs.Profile.{sum}

-- The sum of the sum .., n times.
unfoldable pub sums : ℕ → (ℕ → ℤ) → ℕ → ℤ
sums zero f = f
sums (suc n) f = sum (sums n f)
