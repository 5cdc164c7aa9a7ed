-- A jerk over widths in the direction of X, in either order: up to the velocity no sum of it is larger than what bounds that, and none is
-- larger than the last position; so no step of three sums leaves its range, from any origin within 2^61.
use mathlib.Core.List.{List, ◌∷◌}
use mathlib.Core.Path.{◌≡◌, refl, ap, ◌∙◌}
use Prim.Native.Nat.{ℕ, suc, ◌*◌, ◌≤◌, ◌^◌}
use native.Mathlib.Omega.{arith}
use lib.IntN.{ℤ, pos, negsuc, nat_abs, ◌+ℤ◌}
use mir.Syntax.{w64}
use mir.Val.{SFits}
use Rattle.planner.specs.Quantities.{along}
use Rattle.planner.proofs.DirectionLaws.{size_along}
use Rattle.profile.specs.Profile.{sum}
use Rattle.profile.specs.Inner.Repeated.{sums}
use Rattle.profile.specs.Inner.Widths.{product, Spread}
use Rattle.profile.specs.Inner.Facts.{jerk_over}
use Rattle.profile.proofs.SumLaws.{sums_negated}
use Rattle.profile.proofs.SumSizes as size
use Rattle.motion.specs.Inner.Steps.{StepFits, sum_from, third_state_from}
use Rattle.motion.proofs.IntegerLaws.{small_fits}
use Rattle.motion.proofs.OriginLaws.{from_fits}

-- the direction, on sums
pub along_sums : (X : ℤ) (n : ℕ) (f : ℕ → ℤ) (k : ℕ) → sums n (λ i. along X (f i)) k ≡ along X (sums n f k)
unfolding along
along_sums (pos m) n f k = refl
along_sums (negsuc m) n f k = sums_negated n f k

-- f is the jerk of size D over these widths, in the direction of X
pub record DirectedOver (X : ℤ) (a : ℕ) (inner : List ℕ) (c e D : ℕ) (f : ℕ → ℤ) : Type 0 where
  pub one : 1 ≤ a
  pub spread : Spread a (e ∷ c ∷ inner)
  pub is : f ≡ (λ k. along X (jerk_over a inner c e D k))

module _ {X : ℤ} {a : ℕ} {inner : List ℕ} {c e D : ℕ} {f : ℕ → ℤ} (h : DirectedOver X a inner c e D f) where
  size_is : (n k : ℕ) → nat_abs (sums n f k) ≡ nat_abs (sums n (jerk_over a inner c e D) k)
  size_is n k =
      ap (λ (g : ℕ → ℤ). nat_abs (sums n g k)) h.is ∙ ap nat_abs (along_sums X n (jerk_over a inner c e D) k)
      ∙ size_along X (sums n (jerk_over a inner c e D) k)

  module _ (top : ℕ) (speed : D * product a (c ∷ inner) ≤ top) (k : ℕ) where
    pub jerk_below : nat_abs (f k) ≤ top
    unfolding sums
    jerk_below = rw (size_is 0 k) (size.jerk_most a D h.one inner c e top h.spread speed k)

    pub acceleration_below : nat_abs (sum f k) ≤ top
    unfolding sums
    acceleration_below = rw (size_is 1 k) (size.acceleration_most a D h.one inner c e top h.spread speed k)

    pub velocity_below : nat_abs (sum (sum f) k) ≤ top
    unfolding sums
    velocity_below = rw (size_is 2 k) (size.velocity_most a D h.one inner c e top h.spread speed k)

  module _ (reach : D * product a (e ∷ c ∷ inner) ≤ 2 ^ 60) where
    pub position_below : (k : ℕ) → nat_abs (sum (sum (sum f)) k) ≤ 2 ^ 60
    unfolding sums
    position_below k = rw (size_is 3 k) (size.position_most a D h.one inner c e (2 ^ 60) h.spread reach k)

    pub reach_speed : D * product a (c ∷ inner) ≤ 2 ^ 60
    reach_speed = size.reach_speed a D h.one inner c e (2 ^ 60) h.spread reach

    -- the jerk's own sum is left to the order
    pub sums_fit :
        (origin : ℤ) → nat_abs origin ≤ 2 ^ 61
        → (k : ℕ) → k ≤ 2 ^ 60
        → (x : ℤ) → SFits w64 (f k +ℤ x)
        → StepFits (third_state_from origin f k) x
    unfolding sum sums sum_from
    sums_fit origin near k l x own =
        record {
          jerk = own;
          acceleration = small_fits _ (acceleration_below (2 ^ 60) reach_speed (suc k));
          velocity = small_fits _ (velocity_below (2 ^ 60) reach_speed (suc k));
          position = from_fits origin (sums 2 f) near (suc k) (omega (arith, position_below (suc k)));
        }
