-- What demand 3 needs of a profile over widths: their order, the bounds from the jerk on, and a small shortfall. No rule of an interval is
-- among it. And the values that follow a jerk.
use mathlib.Core.List.{List, [], ◌∷◌}
use mathlib.Core.Path.{◌≡◌, ap}
use Prim.Native.Nat.{ℕ, ◌+◌, ◌*◌, ◌≤◌, ◌<◌, ◌^◌}
use native.Mathlib.Nat.{le_trans, mul-one}
use native.Mathlib.Omega.{arith}
use lib.IntN.{ℤ}
use Rattle.planner.specs.Quantities.{along}
use Rattle.planner.specs.Intervals.{Intervals}
use Rattle.planner.specs.Outcome.{distance_of}
use Rattle.planner.specs.Third.{ThirdIntervals}
use Rattle.planner.specs.Inner.Facts.{PlanFacts}
use Rattle.planner.specs.Inner.ThirdFacts.{ThirdFacts}
use Rattle.planner.specs.declared.Move.{Move}
use Rattle.planner.specs.declared.Plan.{Plan}
use Rattle.planner.specs.declared.ThirdPlan.{ThirdPlan}
use Rattle.profile.specs.Profile.{sum}
use Rattle.profile.specs.Profile as profile
use Rattle.profile.specs.Inner.Widths.{product, Spread}
use Rattle.profile.specs.Inner.Facts.{jerk_unit}
use Rattle.motion.specs.Sampling.{Values, values_at, third_values_at}
use Rattle.motion.proofs.OrderedLaws.{spread, fourth_jerk, fourth_jerk_lem, third_spread, third_jerk, third_jerk_lem}

pub record Keeps (m : Move) (a : ℕ) (inner : List ℕ) (c e D short : ℕ) : Type 0 where
  pub spread : Spread a (e ∷ c ∷ inner)
  pub jerk : D * jerk_unit a inner ≤ m.jerk
  pub acceleration : D * product a inner ≤ m.acceleration
  pub velocity : D * product a (c ∷ inner) ≤ m.velocity
  pub whole : D * product a (e ∷ c ∷ inner) + short ≡ distance_of m
  pub short_below : short < product a (e ∷ c ∷ inner)
  pub product_most : product a (e ∷ c ∷ inner) ≤ 2 ^ 39

-- the same of four intervals
abbrev pub KeepsFourth : (m : Move) (t : Intervals) (D short : ℕ) → Type 0
KeepsFourth m t = Keeps m t.a (t.b ∷ []) t.c t.e

pub keeps : {m : Move} {t : Intervals} {x : Plan} → PlanFacts m t x → Keeps m x.a (x.b ∷ []) x.c x.e x.snap x.shortfall
unfolding product jerk_unit
keeps f =
    record {
      spread = spread f.ordered;
      jerk = f.bounds.jerk;
      acceleration = f.bounds.acceleration;
      velocity = f.bounds.velocity;
      whole = f.whole;
      short_below = f.shortfall_below;
      product_most = f.product;
    }

pub third_keeps : {m : Move} {x : ThirdPlan} → ThirdFacts m x → Keeps m x.b [] x.c x.e x.jerk x.shortfall
unfolding product jerk_unit
third_keeps {x = x} f =
    record {
      spread = third_spread f.ordered;
      jerk = rw (mul-one x.jerk) f.bounds.jerk;
      acceleration = f.bounds.acceleration;
      velocity = f.bounds.velocity;
      whole = f.whole;
      short_below = f.shortfall_below;
      product_most = le_trans f.product (omega arith);
    }

-- The values v are the sums of the jerk j from rest, in the direction of X.
pub record Follows (X : ℤ) (j : ℕ → ℤ) (v : ℕ → Values) : Type 0 where
  pub jerk_is : (k : ℕ) → (v k).jerk ≡ along X (j k)
  pub acceleration_is : (k : ℕ) → (v k).acceleration ≡ along X (sum j k)
  pub velocity_is : (k : ℕ) → (v k).velocity ≡ along X (sum (sum j) k)
  pub position_is : (k : ℕ) → (v k).position ≡ along X (sum (sum (sum j)) k)

-- so do those of either order the jerk over its widths
pub fourth_follows : (X : ℤ) (t : Intervals) (D : ℕ) → Follows X (fourth_jerk t D) (values_at X t D)
unfolding values_at profile.acceleration profile.velocity profile.position
fourth_follows X t D =
    record {
      jerk_is = λ k. ap (λ (j : ℕ → ℤ). along X (j k)) (fourth_jerk_lem t D);
      acceleration_is = λ k. ap (λ (j : ℕ → ℤ). along X (sum j k)) (fourth_jerk_lem t D);
      velocity_is = λ k. ap (λ (j : ℕ → ℤ). along X (sum (sum j) k)) (fourth_jerk_lem t D);
      position_is = λ k. ap (λ (j : ℕ → ℤ). along X (sum (sum (sum j)) k)) (fourth_jerk_lem t D);
    }

pub third_follows : (X : ℤ) (t : ThirdIntervals) (D : ℕ) → Follows X (third_jerk t D) (third_values_at X t D)
unfolding third_values_at
third_follows X t D =
    record {
      jerk_is = λ k. ap (λ (j : ℕ → ℤ). along X (j k)) (third_jerk_lem t D);
      acceleration_is = λ k. ap (λ (j : ℕ → ℤ). along X (sum j k)) (third_jerk_lem t D);
      velocity_is = λ k. ap (λ (j : ℕ → ℤ). along X (sum (sum j) k)) (third_jerk_lem t D);
      position_is = λ k. ap (λ (j : ℕ → ℤ). along X (sum (sum (sum j)) k)) (third_jerk_lem t D);
    }
