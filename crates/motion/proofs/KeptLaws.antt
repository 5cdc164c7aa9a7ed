-- Demand 3, line by line: the lines that both orders share for any profile over widths that keeps the bounds and leaves a small shortfall,
-- and the lines on the snap for any four intervals.
use mathlib.Core.List.{List, ◌∷◌}
use mathlib.Core.Path.{◌≡◌, sym, ap, subst, ◌∙◌}
use Prim.Native.Nat.{ℕ, ◌≤◌}
use native.Mathlib.Nat.{le_refl}
use lib.IntN.{ℤ, ◌-ℤ◌, +ℤ_assoc, +ℤ_idr}
use Rattle.planner.specs.Quantities.{along}
use Rattle.planner.specs.Intervals.{Intervals, N, P}
use Rattle.planner.specs.Outcome.{distance_of}
use Rattle.planner.specs.declared.Move.{Move}
use Rattle.profile.specs.Profile.{sum}
use Rattle.profile.specs.Inner.Widths.{span, product}
use Rattle.profile.specs.Inner.Facts.{jerk_over, AtEnd}
use Rattle.profile.proofs.AnyOrder.{any_order_end}
use Rattle.motion.specs.Sampling.{Values, values_at, units_of, position_from}
use Rattle.motion.specs.Demand3.{KeptSnap, HalfCount, Kept}
use Rattle.motion.specs.Inner.Planned.{directed_position}
use Rattle.motion.specs.declared.Sample.{Sample}
use Rattle.motion.proofs.IntegerLaws.{distance_from}
use Rattle.motion.proofs.RoundedValues.{with_rounding}
use Rattle.motion.proofs.KeptRules.{Keeps, KeepsFourth, Follows, fourth_follows}
use Rattle.motion.proofs.SumsFromRest as sums
use Rattle.motion.proofs.BoundRules as bounds
use Rattle.motion.proofs.HalfCountRule.{half_count}
use Rattle.motion.proofs.RestLaws as rest
use Rattle.motion.proofs.EndRule.{count_end}

module _
    {m : Move} {a : ℕ} {inner : List ℕ} {c e D short : ℕ} (f : Keeps m a inner c e D short)
    {v : ℕ → Values} (w : Follows m.displacement (jerk_over a inner c e D) v)
    {E : ℕ → ℤ} (exact : (k : ℕ) → E k ≡ along m.displacement (sum (sum (sum (jerk_over a inner c e (distance_of m)))) k))
  where
    end : AtEnd a inner c e D (span a (e ∷ c ∷ inner))
    end = any_order_end a inner c e f.spread D (span a (e ∷ c ∷ inner)) (le_refl _)

    -- the way to a position is the distance that the profile gives
    ways : ◌≡◌ {A = ℕ → ℤ} (λ k. position_from m.start (v k).position -ℤ units_of m.start) (λ k. (v k).position)
    ways = λ i k. distance_from (units_of m.start) (v k).position i

    pub kept_any : Kept m (span a (e ∷ c ∷ inner)) (product a (e ∷ c ∷ inner)) E (λ k. with_rounding m.start (v k))
    kept_any =
        record {
          acceleration_rest = sums.acceleration_rest w;
          velocity_rest = sums.velocity_rest w;
          position_rest = ap (position_from m.start) (sums.position_rest w) ∙ +ℤ_idr (units_of m.start);
          acceleration_sum = λ k l. sums.acceleration_sum w k;
          velocity_sum = λ k l. sums.velocity_sum w k;
          position_sum = λ k l.
              ap (position_from m.start) (sums.position_sum w k) ∙ sym (+ℤ_assoc (units_of m.start) (v k).position (v k).velocity);
          jerk_bound = λ k l. bounds.jerk_bound f w k;
          acceleration_bound = λ k l. bounds.acceleration_bound f w k;
          velocity_bound = λ k l. bounds.velocity_bound f w k;
          forward = λ s k l. bounds.forward f w k s;
          backward = λ s k l. bounds.backward f w k s;
          half_count = subst (HalfCount m.displacement _ _ E) (sym ways) (half_count f w exact _);
          jerk_end = rest.jerk_rests w end;
          acceleration_end = rest.acceleration_rests w end;
          velocity_end = rest.velocity_rests w end;
          count_end = count_end f w m.start;
        }

-- the values in the direction of X from a start, rounded
module _ (start X : ℤ) (t : Intervals) (D : ℕ) where
  abbrev pub sample_at : ℕ → Sample
  sample_at k = with_rounding start (values_at X t D k)

  pub kept_snap : {m : Move} → D ≤ m.snap → KeptSnap m (N t) sample_at
  kept_snap l =
      record {
        jerk_rest = sums.jerk_rest X t D;
        jerk_sum = λ k _. sums.jerk_sum X t D k;
        snap_bound = λ k _. bounds.snap_bound X t D l k;
      }

pub kept :
    {m : Move} {t : Intervals} {D short : ℕ}
    → KeepsFourth m t D short
    → Kept m (N t) (P t) (directed_position m.displacement t (distance_of m)) (sample_at m.start m.displacement t D)
unfolding span product
kept {m} {t} {D} f =
    kept_any f (fourth_follows m.displacement t D) (λ k. (fourth_follows m.displacement t (distance_of m)).position_is k)
