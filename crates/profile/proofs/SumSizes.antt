-- No sum of a profile is larger than its last position, and but for the position none is larger than what the greatest velocity may be.
use mathlib.Core.Path.{subst}
use mathlib.Core.List.{List, [], ◌∷◌, ◌++◌}
use Prim.Native.Nat.{ℕ, ◌*◌, ◌≤◌}
use native.Mathlib.Nat.{le_trans, mul-le-mul_left, mul-one}
use lib.IntN.{nat_abs}
use Rattle.profile.specs.Profile.{sum}
use Rattle.profile.specs.Inner.Widths.{product, Spread}
use Rattle.profile.specs.Inner.Facts.{jerk_unit, jerk_over}
use Rattle.profile.proofs.ProductLaws.{product_grows}
use Rattle.profile.proofs.AnyOrder.{any_order}

module _ (a D : ℕ) (one : 1 ≤ a) where
  -- what is summed less often is smaller
  pub inner_most :
      (top m : ℕ) (outer inner : List ℕ)
      → Spread a (outer ++ inner)
      → D * product a (outer ++ inner) ≤ top
      → m ≤ D * product a inner
      → m ≤ top
  inner_most top m outer inner s most l = le_trans l (le_trans (mul-le-mul_left D (product_grows a outer inner one s)) most)

  pub one_step : D ≤ D * a
  one_step = subst (λ (n : ℕ). n ≤ D * a) (mul-one D) (mul-le-mul_left D one)

  unit_most : (inner : List ℕ) → Spread a inner → D * jerk_unit a inner ≤ D * product a inner
  unfolding jerk_unit product Spread
  unit_most [] s = mul-le-mul_left D one
  unit_most (w ∷ inner) s = mul-le-mul_left D (product_grows a (w ∷ []) inner one s)

  module _ (inner : List ℕ) (c e top : ℕ) (s : Spread a (e ∷ c ∷ inner)) where
    -- up to the velocity, where top bounds it
    module _ (speed : D * product a (c ∷ inner) ≤ top) (k : ℕ) where
      pub velocity_most : nat_abs (sum (sum (jerk_over a inner c e D)) k) ≤ top
      velocity_most = le_trans (any_order a inner c e s D k).velocity_size speed

      pub acceleration_most : nat_abs (sum (jerk_over a inner c e D) k) ≤ top
      unfolding Spread
      acceleration_most = inner_most top _ (c ∷ []) inner s.1 speed (any_order a inner c e s D k).acceleration_size

      pub jerk_most : nat_abs (jerk_over a inner c e D k) ≤ top
      unfolding Spread
      jerk_most =
          inner_most top _ (c ∷ []) inner s.1 speed (le_trans (any_order a inner c e s D k).jerk_size (unit_most inner s.1.1))

    -- and the position, where top bounds the last
    module _ (reach : D * product a (e ∷ c ∷ inner) ≤ top) where
      pub reach_speed : D * product a (c ∷ inner) ≤ top
      reach_speed = le_trans (mul-le-mul_left D (product_grows a (e ∷ []) (c ∷ inner) one s)) reach

      pub position_most : (k : ℕ) → nat_abs (sum (sum (sum (jerk_over a inner c e D))) k) ≤ top
      position_most k =
          let p = any_order a inner c e s D k in
          rw p.position_is (le_trans (mul-le-mul_left D p.position_top) reach)
