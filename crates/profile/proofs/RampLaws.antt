-- A ramp starts at 0, never falls, and holds its top from its end on. Its sum over the last w samples is a ramp again.
use mathlib.Core.Path.{◌≡◌, ap}
use mathlib.Core.List.{List, [], ◌∷◌}
use Prim.Native.Nat.{ℕ, suc, ◌+◌, ◌-◌, ◌*◌, ◌≤◌}
use native.Mathlib.Nat.{le_refl, le_trans, zero-sub, sub-le}
use native.Mathlib.Omega.{arith}
use native.Mathlib.Decide.{dec_le, le_ind}
use Rattle.profile.specs.Inner.Widths.{total, ramp, span, product}
use Rattle.profile.proofs.Totals.{total_rising, total_even, late_step}

pub record Ramp (f : ℕ → ℕ) (top end : ℕ) : Type 0 where
  pub start : f 0 ≡ 0
  pub rising : (i k : ℕ) → i ≤ k → f i ≤ f k
  pub full : (k : ℕ) → end ≤ k → f k ≡ top

pub below_top : {f : ℕ → ℕ} {top end : ℕ} → Ramp f top end → (k : ℕ) → f k ≤ top
below_top {end} r k = omega (arith, r.rising k (k + end) (omega arith), r.full (k + end) (omega arith))

module _ (f : ℕ → ℕ) (top end w : ℕ) (r : Ramp f top end) where
  abbrev moving : ℕ → ℕ
  moving k = total f k - total f (k - w)

  moving_step : (k : ℕ) → moving k ≤ moving (suc k)
  unfolding total
  moving_step k =
      omega (arith, late_step f w k r.start (dec_le w k), total_rising f (k - w) k (sub-le k w), r.rising (k - w) k (sub-le k w))

  moving_full : (k : ℕ) → end + w ≤ k → moving k ≡ top * w
  moving_full k h =
      let back : k - w + w ≡ k = omega arith in
      let even = total_even f top (k - w) w (λ i l. r.full i (omega arith)) in
      omega (arith, even, ap (total f) back)

  moving_ramp : Ramp moving (top * w) (end + w)
  unfolding total
  moving_ramp =
      record {
        start = zero-sub (total f (0 - w));
        rising = λ i k h. le_ind (λ (n : ℕ). moving i ≤ moving n) (le_refl (moving i)) (λ n _ l. le_trans l (moving_step n)) k h;
        full = moving_full;
      }

pub ramp_is : (a : ℕ) (ws : List ℕ) → Ramp (ramp a ws) (product a ws) (span a ws)
unfolding ramp product span
ramp_is a [] = record { start = omega arith; rising = λ i k h. omega arith; full = λ k h. omega arith }
ramp_is a (w ∷ ws) = moving_ramp (ramp a ws) (product a ws) (span a ws) w (ramp_is a ws)

module _ (a : ℕ) (ws : List ℕ) where
  pub ramp_start : ramp a ws 0 ≡ 0
  ramp_start = (ramp_is a ws).start

  pub ramp_rising : (i k : ℕ) → i ≤ k → ramp a ws i ≤ ramp a ws k
  ramp_rising = (ramp_is a ws).rising

  pub ramp_top : (k : ℕ) → ramp a ws k ≤ product a ws
  ramp_top = below_top (ramp_is a ws)

  pub ramp_full : (k : ℕ) → span a ws ≤ k → ramp a ws k ≡ product a ws
  ramp_full = (ramp_is a ws).full
