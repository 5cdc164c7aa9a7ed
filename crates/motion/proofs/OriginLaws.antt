-- A sum from another first value is the sum, and that value; so it fits where both are within 2^61.
use mathlib.Core.Path.{◌≡◌, sym, ap, subst, ◌∙◌}
use Prim.Native.Nat.{ℕ, zero, suc, ◌≤◌, ◌^◌}
use lib.IntN.{ℤ, nat_abs, ◌+ℤ◌, +ℤ_assoc, +ℤ_idr}
use mir.Syntax.{w64}
use mir.Val.{SFits}
use Rattle.profile.specs.Profile.{sum}
use Rattle.motion.specs.Inner.Steps.{sum_from}
use Rattle.motion.proofs.IntegerLaws.{wide_sum_fits}

module _ (origin : ℤ) (f : ℕ → ℤ) where
  pub from_origin : (k : ℕ) → sum_from origin f k ≡ origin +ℤ sum f k
  unfolding sum_from sum
  from_origin zero = sym (+ℤ_idr origin)
  from_origin (suc k) = ap (λ (x : ℤ). x +ℤ f k) (from_origin k) ∙ +ℤ_assoc origin (sum f k) (f k)

  pub from_fits : nat_abs origin ≤ 2 ^ 61 → (k : ℕ) → nat_abs (sum f k) ≤ 2 ^ 61 → SFits w64 (sum_from origin f k)
  from_fits h k l = subst (SFits w64) (sym (from_origin k)) (wide_sum_fits origin (sum f k) h l)
