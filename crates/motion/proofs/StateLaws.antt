-- The sums of a plan's snap in the move's direction are the profile's values, and none leaves its range, from any origin within 2^61.
use mathlib.Core.List.{[], ◌∷◌}
use mathlib.Core.Path.{◌≡◌, ap, subst, ◌∙◌, fun_ext}
use Prim.Native.Nat.{ℕ, suc, ◌*◌, ◌≤◌, ◌^◌}
use native.Mathlib.Nat.{le_trans}
use lib.IntN.{ℤ, nat_abs}
use Rattle.planner.specs.Quantities.{along}
use Rattle.planner.specs.Intervals.{Intervals, p, q, r, s}
use Rattle.planner.proofs.DirectionLaws.{size_along}
use Rattle.profile.specs.Profile.{sum}
use Rattle.profile.specs.Inner.Repeated.{sums}
use Rattle.profile.specs.Profile as profile
use Rattle.profile.specs.Inner.Widths.{product, Spread}
use Rattle.profile.proofs.ValueLaws.{value_size}
use Rattle.profile.proofs.SumSizes as size
use Rattle.motion.specs.Sampling.{values_at}
use Rattle.motion.specs.declared.state.State.{State}
use Rattle.motion.specs.Inner.Steps.{StepFits, sum_from, state_at, state_from}
use Rattle.motion.specs.Inner.Planned.{widths_of, WithinRange, directed_snap}
use Rattle.motion.specs.Inner.SegmentLists.{fourth_segments}
use Rattle.motion.proofs.OrderedLaws.{spread, fourth_jerk, fourth_jerk_lem}
use Rattle.motion.proofs.IntegerLaws.{small_fits}
use Rattle.motion.proofs.DirectedSizes.{along_sums, DirectedOver}
use Rattle.motion.proofs.DirectedSizes as sizes

-- the profile's sums in the direction of X
abbrev pub directed : ℤ → Intervals → (D k : ℕ) → State
directed X t D k =
    record {
      jerk = (values_at X t D k).jerk;
      acceleration = (values_at X t D k).acceleration;
      velocity = (values_at X t D k).velocity;
      position = (values_at X t D k).position;
    }

module _ (X : ℤ) (t : Intervals) (D : ℕ) where
  abbrev plain : ℕ → ℤ
  plain = profile.snap (p t) (q t) (r t) (s t) D

  sums_are : (n k : ℕ) → sums n (directed_snap X t D) k ≡ along X (sums n plain k)
  unfolding values_at
  sums_are n k = along_sums X n plain k

  pub state_is : (k : ℕ) → state_at (directed_snap X t D) k ≡ directed X t D k
  unfolding values_at profile.jerk profile.acceleration profile.velocity profile.position sums
  state_is k =
      λ i. record { jerk = sums_are 1 k i; acceleration = sums_are 2 k i; velocity = sums_are 3 k i; position = sums_are 4 k i }

  -- the jerk is that over its widths
  directed_jerk_lem : sum (directed_snap X t D) ≡ (λ k. along X (fourth_jerk t D k))
  unfolding sums profile.jerk
  directed_jerk_lem = fun_ext (λ k. sums_are 1 k ∙ ap (λ (f : ℕ → ℤ). along X (f k)) (fourth_jerk_lem t D))

module _ (X : ℤ) (t : Intervals) (D : ℕ) (h : WithinRange t D) where
  abbrev snap : ℕ → ℤ
  snap = directed_snap X t D

  pub over : DirectedOver X t.a (t.b ∷ []) t.c t.e D (sum snap)
  over = record { one = h.ordered.one_a; spread = spread h.ordered; is = directed_jerk_lem X t D }

  -- up to the velocity each is at most what bounds it: the values that a row of force doubles
  module _ (top : ℕ) (speed : D * (t.a * t.b * t.c) ≤ top) (k : ℕ) where
    pub snap_below : nat_abs (sums 0 snap k) ≤ top
    unfolding product Spread sums profile.snap
    snap_below =
        rw (sums_are X t D 0 k, size_along X (plain X t D k))
        (size.inner_most t.a D h.ordered.one_a top _ (t.c ∷ t.b ∷ []) [] (spread h.ordered).1 speed
        (le_trans (value_size (fourth_segments t) D k) (size.one_step t.a D h.ordered.one_a)))

    pub jerk_below : nat_abs (sums 1 snap k) ≤ top
    unfolding product sums
    jerk_below = sizes.jerk_below over top speed k

    pub acceleration_below : nat_abs (sums 2 snap k) ≤ top
    unfolding product sums
    acceleration_below = sizes.acceleration_below over top speed k

    pub velocity_below : nat_abs (sums 3 snap k) ≤ top
    unfolding product sums
    velocity_below = sizes.velocity_below over top speed k

  pub reach_speed : D * (t.a * t.b * t.c) ≤ 2 ^ 60
  unfolding product
  reach_speed = sizes.reach_speed over h.reach

  pub step_fits :
      (origin : ℤ) → nat_abs origin ≤ 2 ^ 61 → (k : ℕ) → k ≤ 2 ^ 60 → StepFits (state_from origin snap k) (values_at X t D k).snap
  unfolding product sum sums sum_from
  step_fits origin near k l =
      sizes.sums_fit over h.reach origin near k l _
      (small_fits _ (jerk_below (2 ^ 60) reach_speed (suc k)))

  pub distance_below : (k : ℕ) → nat_abs (values_at X t D k).position ≤ 2 ^ 60
  unfolding product sum sums
  distance_below k =
      subst (λ (s : State). nat_abs s.position ≤ 2 ^ 60) (state_is X t D k) (sizes.position_below over h.reach k)

  pub snap_small : D ≤ 2 ^ 60
  unfolding product
  snap_small =
      size.inner_most t.a D h.ordered.one_a (2 ^ 60) D (widths_of t) [] (spread h.ordered) h.reach
      (size.one_step t.a D h.ordered.one_a)
