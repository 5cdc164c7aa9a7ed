-- How far the profile stays behind the exact one where its size is rounded down: by what that leaves of the distance, times
-- the position for size 1.
use mathlib.Core.Path.{◌≡◌, sym, ap, ◌∙◌}
use mathlib.Core.List.{List}
use Prim.Native.Nat.{ℕ, ◌+◌, ◌*◌, ◌≤◌, ◌<◌}
use native.Mathlib.Nat.{le_trans, mul_assoc, mul_left_comm, add-mul, mul-le-mul_left, mul-le-mul_right}
use native.Mathlib.Omega.{arith}
use Rattle.profile.specs.Inner.Widths.{product, ramp}
use Rattle.profile.proofs.RampLaws.{ramp_top}

module _ (a : ℕ) (ws : List ℕ) (W D short : ℕ) (whole : D * product a ws + short ≡ W) (k : ℕ) where
  pub exact_ramp : W * ramp a ws k ≡ product a ws * (D * ramp a ws k) + short * ramp a ws k
  exact_ramp =
      ap (λ (n : ℕ). n * ramp a ws k) (sym whole)
      ∙ add-mul (D * product a ws) short (ramp a ws k)
      ∙ ap (λ (n : ℕ). n + short * ramp a ws k) (mul_assoc D (product a ws) (ramp a ws k) ∙ mul_left_comm D (product a ws) (ramp a ws k))

  pub behind_half : (half : ℕ) → short < product a ws → product a ws ≤ half → 2 * (short * ramp a ws k) < 2 * (half * product a ws)
  behind_half half below most =
      omega (
        arith,
        mul-le-mul_left short (ramp_top a ws k),
        mul-le-mul_right (product a ws) (le_trans below most),
        add-mul short 1 (product a ws),
      )
