-- The switched value by the widths, with the levels of the direction, is that of the segments: of the profile's in either order.
use mathlib.Core.List.{List}
use mathlib.Core.Path.{◌≡◌, sym, ap, ap₂, ◌∙◌, fun_ext}
use Prim.Native.Nat.{ℕ}
use lib.IntN.{ℤ, pos, negsuc, neg_ℤ, nat_abs}
use Rattle.planner.specs.Quantities.{along}
use Rattle.planner.specs.Intervals.{Intervals}
use Rattle.planner.specs.Third.{ThirdIntervals}
use Rattle.planner.specs.Inner.Facts.{Ordered}
use Rattle.planner.specs.Inner.ThirdFacts.{ThirdOrdered}
use Rattle.planner.proofs.DirectionLaws.{size_along}
use Rattle.profile.specs.Profile.{Segment, switched_in}
use Rattle.profile.specs.Profile as profile
use Rattle.profile.specs.Inner.Widths.{Spread, switched, switched_by}
use Rattle.profile.proofs.SwitchedLaws.{value_by_negated, value_by_widths}
use Rattle.profile.proofs.Orders.{fifteen, seven}
use Rattle.motion.specs.Sampling.{values_at}
use Rattle.motion.specs.declared.switched.Levels.{Levels}
use Rattle.motion.specs.Inner.SwitchedLevels.{AreLevels}
use Rattle.motion.specs.Inner.Planned.{widths_of, third_widths_of, directed_snap}
use Rattle.motion.specs.Inner.SegmentLists.{third_segments}
use Rattle.motion.proofs.OrderedLaws.{spread, third_spread}
use Rattle.motion.proofs.TableLaws.{directed_value}

module _ (a : ℕ) (ws : List ℕ) (s : Spread a ws) {xs : List Segment} (same : xs ≡ switched a ws) (D : ℕ) where
  forward : (k : ℕ) → switched_by a ws (pos D) (neg_ℤ (pos D)) k ≡ switched_in xs D k
  forward k = sym (value_by_widths a ws s D k) ∙ sym (ap (λ (xs : List Segment). switched_in xs D k) same)

  at_sample : (X : ℤ) (k : ℕ) → switched_by a ws (along X (pos D)) (neg_ℤ (along X (pos D))) k ≡ directed_value X xs D k
  unfolding along
  at_sample (pos m) k = forward k
  at_sample (negsuc m) k = value_by_negated a ws (pos D) (neg_ℤ (pos D)) k ∙ ap neg_ℤ (forward k)

  directed_value_lem :
      {X : ℤ} {levels : Levels}
      → AreLevels X D levels
      → switched_by a ws levels.positive levels.negative ≡ directed_value X xs D
  directed_value_lem {X} l = ap₂ (switched_by a ws) l.positive_is l.negative_is ∙ fun_ext (at_sample X)

-- the level with + and its negative are levels of the same direction and size
module _ {X : ℤ} {D : ℕ} {levels : Levels} (l : AreLevels X D levels) {x : ℤ} (is : x ≡ levels.positive) where
  pub signed_levels : AreLevels X D (record { positive = x; negative = neg_ℤ x })
  signed_levels = record { positive_is = is ∙ l.positive_is; negative_is = ap neg_ℤ (is ∙ l.positive_is) }

  pub level_size : nat_abs x ≡ D
  level_size = ap nat_abs (is ∙ l.positive_is) ∙ size_along X (pos D)

pub directed_snap_lem :
    {X : ℤ} {t : Intervals} {D : ℕ} {levels : Levels}
    → Ordered t
    → AreLevels X D levels
    → switched_by t.a (widths_of t) levels.positive levels.negative ≡ directed_snap X t D
unfolding values_at profile.snap
directed_snap_lem {t = t} {D} o l = directed_value_lem t.a (widths_of t) (spread o) (fifteen t.a t.b t.c t.e) D l

pub directed_jerk_lem :
    {X : ℤ} {t : ThirdIntervals} {D : ℕ} {levels : Levels}
    → ThirdOrdered t
    → AreLevels X D levels
    → switched_by t.b (third_widths_of t) levels.positive levels.negative ≡ directed_value X (third_segments t) D
directed_jerk_lem {t = t} {D} o l = directed_value_lem t.b (third_widths_of t) (third_spread o) (seven t.b t.c t.e) D l
