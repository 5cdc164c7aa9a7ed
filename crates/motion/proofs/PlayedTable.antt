-- What demand 3 comes to for the table that the drive plays, in either order, said of its places and of the jerk alone; and in the fourth
-- order of the snap. Every line of demand 3 but the count at the end is used here, so none can be left out or weakened unseen.
use mathlib.Core.List.{List}
use mathlib.Core.Path.{◌≡◌, refl, sym, ap, subst, ◌∙◌}
use Prim.Native.Nat.{ℕ, ◌*◌, ◌≤◌, ◌<◌}
use native.Mathlib.Nat.{le_refl}
use lib.IntN.{ℤ, pos, neg_ℤ, nat_abs, ◌-ℤ◌, ◌*ℤ◌}
use lib.ListN.{length, get_or}
use lib.Signed.{◌≤ℤ◌, ◌<ℤ◌}
use Rattle.planner.specs.Quantities.{units_per_count}
use Rattle.std.specs.Prelude.{Result}
use Rattle.planner.specs.Outcome.{samples_of}
use Rattle.planner.specs.Third.{third_samples_of}
use Rattle.planner.specs.declared.Move.{Move}
use Rattle.profile.specs.Profile.{sum}
use Rattle.motion.specs.Sampling.{third_values_of, units_of, position_from, Motion}
use Rattle.motion.specs.Demand3.{Demand3Of, Demand3, ThirdDemand3}
use Rattle.motion.specs.declared.Sample.{Sample}
use Rattle.motion.proofs.IntegerLaws.{negated_difference, swapped_difference}
use Rattle.motion.proofs.SumsFromRest.{sums_from_lem, sums_up, sum_same}
use Rattle.motion.proofs.EitherDirection.{Along, not_positive, along_either, below_either}

module _ (m : Move) (x : Motion) (jerk : ℕ → ℤ) (table : List ℤ) where
  abbrev pub place : ℕ → ℤ
  place k = get_or table k (pos 0)

  -- what a place lacks of the exact profile, times P, read from the start
  abbrev pub lacking : ℕ → ℤ
  lacking k = x.exact k -ℤ pos x.product *ℤ (place k -ℤ units_of m.start)

  pub record Played : Type 0 where
    pub places : x.samples < length table
    -- summed three times from rest, from the start on
    pub summed : (k : ℕ) → k ≤ x.samples → place k ≡ position_from m.start (sum (sum (sum jerk)) k)
    pub jerk_most : (k : ℕ) → k ≤ x.samples → nat_abs (jerk k) ≤ m.jerk
    pub acceleration_most : (k : ℕ) → k ≤ x.samples → nat_abs (sum jerk k) ≤ m.acceleration
    pub velocity_most : (k : ℕ) → k ≤ x.samples → nat_abs (sum (sum jerk) k) ≤ m.velocity
    -- never turning back
    pub onward : (k : ℕ) → k ≤ x.samples → Along m.displacement (sum (sum jerk) k)
    -- less than half a count short, and never past
    pub short : (k : ℕ) → k ≤ x.samples → Along m.displacement (lacking k)
    pub near : (k : ℕ) → k ≤ x.samples → 2 * nat_abs (lacking k) < units_per_count * x.product
    -- at rest at the end
    pub jerk_ended : jerk x.samples ≡ pos 0
    pub acceleration_ended : sum jerk x.samples ≡ pos 0
    pub velocity_ended : sum (sum jerk) x.samples ≡ pos 0

module _
    {m : Move} {x : Motion} {sample : ℕ → Result Sample ℕ} {table : List ℤ}
    (moves : 1 ≤ nat_abs m.displacement) (d : Demand3Of m x sample table)
  where
    abbrev jerk_at : ℕ → ℤ
    jerk_at k = (d.at k).jerk

    abbrev N : ℕ
    N = x.samples

    acceleration_is : (k : ℕ) → k ≤ N → (d.at k).acceleration ≡ sum jerk_at k
    acceleration_is = sums_up N _ jerk_at jerk_at d.kept.acceleration_rest d.kept.acceleration_sum (λ k l. refl)

    velocity_is : (k : ℕ) → k ≤ N → (d.at k).velocity ≡ sum (sum jerk_at) k
    velocity_is = sums_up N _ _ (sum jerk_at) d.kept.velocity_rest d.kept.velocity_sum acceleration_is

    position_is : (k : ℕ) → k ≤ N → (d.at k).position ≡ position_from m.start (sum (sum (sum jerk_at)) k)
    position_is = sums_from_lem (units_of m.start) N _ _ (sum (sum jerk_at)) d.kept.position_rest d.kept.position_sum velocity_is

    -- the lines hold of the table's places as they hold of the entry's positions
    abbrev way : ℕ → ℤ
    way k = (d.at k).position -ℤ units_of m.start

    lack_is : (k : ℕ) → k ≤ N → x.exact k -ℤ pos x.product *ℤ way k ≡ lacking m x jerk_at table k
    lack_is k l = ap (λ y. x.exact k -ℤ pos x.product *ℤ (y -ℤ units_of m.start)) (sym (d.table_position k l))

    back_is : (k : ℕ) → k ≤ N → pos x.product *ℤ way k -ℤ x.exact k ≡ neg_ℤ (lacking m x jerk_at table k)
    back_is k l =
        sym (swapped_difference (x.exact k) (pos x.product *ℤ way k))
        ∙ negated_difference (x.exact k) (pos x.product *ℤ way k)
        ∙ ap neg_ℤ (lack_is k l)

    short_at : (k : ℕ) → k ≤ N → Along m.displacement (lacking m x jerk_at table k)
    short_at k l =
        along_either m.displacement (lacking m x jerk_at table k) moves
        (λ s. subst (λ y. pos 0 ≤ℤ y) (lack_is k l) (d.kept.half_count.never_past s k l))
        (λ s. subst (λ y. pos 0 ≤ℤ y) (back_is k l) (d.kept.half_count.never_past_back s k l))

    near_at : (k : ℕ) → k ≤ N → 2 * nat_abs (lacking m x jerk_at table k) < units_per_count * x.product
    near_at k l =
        below_either m.displacement (lacking m x jerk_at table k) (units_per_count * x.product) (short_at k l) moves
        (λ s. subst (λ y. (pos 2 *ℤ y) <ℤ pos (units_per_count * x.product)) (lack_is k l) (d.kept.half_count.below_half s k l))
        (λ s. subst (λ y. (pos 2 *ℤ y) <ℤ pos (units_per_count * x.product)) (back_is k l) (d.kept.half_count.below_half_back s k l))

    onward_at : (k : ℕ) → k ≤ N → Along m.displacement (d.at k).velocity
    onward_at k l =
        along_either m.displacement (d.at k).velocity moves
        (λ s. d.kept.forward s k l)
        (λ s. not_positive (d.at k).velocity (d.kept.backward s k l))

    pub played : Played m x jerk_at table
    played =
        record {
          places = d.table_places;
          summed = λ k l. d.table_position k l ∙ position_is k l;
          jerk_most = d.kept.jerk_bound;
          acceleration_most = λ k l. rw (← acceleration_is k l) (d.kept.acceleration_bound k l);
          velocity_most = λ k l. rw (← velocity_is k l) (d.kept.velocity_bound k l);
          onward = λ k l. subst (Along m.displacement) (velocity_is k l) (onward_at k l);
          short = short_at;
          near = near_at;
          jerk_ended = d.kept.jerk_end;
          acceleration_ended = sym (acceleration_is N (le_refl N)) ∙ d.kept.acceleration_end;
          velocity_ended = sym (velocity_is N (le_refl N)) ∙ d.kept.velocity_end;
        }

-- In the fourth order the jerk is summed too, and the snap keeps its bound.
pub record PlayedSnap (m : Move) (snap jerk : ℕ → ℤ) : Type 0 where
  pub jerk_summed : (k : ℕ) → k ≤ samples_of m → jerk k ≡ sum snap k
  pub snap_most : (k : ℕ) → k ≤ samples_of m → nat_abs (snap k) ≤ m.snap

pub played_snap :
    {m : Move} {sample : ℕ → Result Sample ℕ} {table : List ℤ} (d : Demand3 m sample table)
    → PlayedSnap m (λ k. (d.shared.at k).snap) (λ k. (d.shared.at k).jerk)
played_snap d =
    record {
      jerk_summed = sums_up _ _ _ _ d.kept_snap.jerk_rest d.kept_snap.jerk_sum (λ k l. refl);
      snap_most = d.kept_snap.snap_bound;
    }

-- In the third order the places are the sums of the jerk in its stretches, and there is no snap.
pub record PlayedThird (m : Move) (snap : ℕ → ℤ) (table : List ℤ) : Type 0 where
  pub switched :
      (k : ℕ) → k ≤ third_samples_of m → get_or table k (pos 0) ≡ position_from m.start (sum (sum (sum (λ i. (third_values_of m i).jerk))) k)
  pub snap_none : (k : ℕ) → k ≤ third_samples_of m → snap k ≡ pos 0

pub played_third :
    {m : Move} {sample : ℕ → Result Sample ℕ} {table : List ℤ} → 1 ≤ nat_abs m.displacement
    → (d : ThirdDemand3 m sample table)
    → PlayedThird m (λ k. (d.shared.at k).snap) table
played_third {m} moves d =
    record {
      switched = λ k l.
          (played moves d.shared).summed k l
          ∙ ap (position_from m.start) (sum_same _ _ _ (sum_same _ _ _ (sum_same _ _ _ d.jerk_switched)) k l);
      snap_none = d.snap_none;
    }
