-- Copies of a ramp that do not overlap differ by at most its top, and by nothing from the end of the last on.
use mathlib.Core.Path.{◌≡◌, sym}
use mathlib.Core.List.{List, [], ◌∷◌}
use Prim.Native.Nat.{ℕ, ◌+◌, ◌-◌, ◌≤◌}
use native.Mathlib.Nat.{sub-le, zero-sub}
use native.Mathlib.Omega.{arith}
use native.Mathlib.Decide.{dec_le}
use Rattle.profile.specs.Inner.Widths.{span, Spread}
use Rattle.profile.proofs.RampLaws.{Ramp, below_top}
use Rattle.profile.proofs.Delays.{delay, delays}

-- f and g are at most t apart, and agree at 0 and from s on
pub record Near (t s : ℕ) (f g : ℕ → ℕ) : Type 0 where
  pub start : f 0 ≡ g 0
  pub above : (k : ℕ) → f k ≤ g k + t
  pub below : (k : ℕ) → g k ≤ f k + t
  pub rests : (k : ℕ) → s ≤ k → f k ≡ g k

swap : {t s : ℕ} {f g : ℕ → ℕ} → Near t s f g → Near t s g f
swap n = record { start = sym n.start; above = n.below; below = n.above; rests = λ k h. sym (n.rests k h) }

module _ (t s w : ℕ) (fits : s ≤ w) where
  delay_above : (f g : ℕ → ℕ) → Near t s f g → (k : ℕ) → Dec (w ≤ k) → delay w f g k ≤ delay w g f k + t
  delay_above f g n k (yes h) = omega (arith, n.rests k (omega arith), n.below (k - w))
  delay_above f g n k (no h) = let before : k - w ≡ 0 = omega arith in rw before (omega (arith, n.above k, n.start))

  near_delay : (f g : ℕ → ℕ) → Near t s f g → Near t (s + w) (delay w f g) (delay w g f)
  near_delay f g n =
      record {
        start = rw zero-sub (omega (arith, n.start));
        above = λ k. delay_above f g n k (dec_le w k);
        below = λ k. delay_above g f (swap n) k (dec_le w k);
        rests = λ k h. omega (arith, n.rests k (omega arith), n.rests (k - w) (omega arith));
      }

  near_ramp : (f : ℕ → ℕ) → Ramp f t s → Near t (s + w) (delay w f (λ _. 0)) (delay w (λ _. 0) f)
  near_ramp f r =
      record {
        start = rw zero-sub (omega arith);
        above = λ k. omega (arith, below_top r k);
        below = λ k. omega (arith, r.rising (k - w) k (sub-le k w));
        rests = λ k h. omega (arith, r.full k (omega arith), r.full (k - w) (omega arith));
      }

module _ {f : ℕ → ℕ} {t s : ℕ} (r : Ramp f t s) where
  pub delays_near :
      (w : ℕ) (ws : List ℕ)
      → Spread s (w ∷ ws)
      → Near t (span s (w ∷ ws)) (delays (w ∷ ws) f (λ _. 0)) (delays (w ∷ ws) (λ _. 0) f)
  unfolding delays span Spread
  delays_near w [] h = near_ramp t s w h.0 f r
  delays_near w (v ∷ ws) h =
      near_delay t (span s (v ∷ ws)) w h.0 (delays (v ∷ ws) f (λ _. 0)) (delays (v ∷ ws) (λ _. 0) f) (delays_near v ws h.1)

  -- also with no width, where f itself is within t of 0
  pub delays_within :
      (ws : List ℕ)
      → Spread s ws
      → (k : ℕ)
      → (delays ws f (λ _. 0) k ≤ delays ws (λ _. 0) f k + t) × (delays ws (λ _. 0) f k ≤ delays ws f (λ _. 0) k + t)
  unfolding delays
  delays_within [] h k = omega (arith, below_top r k)
  delays_within (w ∷ ws) h k = let n = delays_near w ws h in (n.above k, n.below k)
