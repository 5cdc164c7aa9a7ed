-- From the last sample on, every value of a profile in the move's direction but the position is 0.
use mathlib.Core.List.{List}
use mathlib.Core.Path.{◌≡◌, ap, ◌∙◌}
use Prim.Native.Nat.{ℕ, ◌≤◌}
use lib.IntN.{ℤ, pos}
use Rattle.planner.specs.Quantities.{along}
use Rattle.planner.specs.Intervals.{Intervals, N}
use Rattle.planner.specs.Inner.Facts.{Ordered}
use Rattle.planner.proofs.DirectionLaws.{along_zero}
use Rattle.profile.specs.Profile as profile
use Rattle.profile.specs.Inner.Facts.{jerk_over, AtEnd}
use Rattle.profile.proofs.Lookup.{value_ends}
use Rattle.motion.specs.Sampling.{Values, values_at}
use Rattle.motion.specs.Inner.SegmentLists.{fourth_segments}
use Rattle.motion.proofs.OrderedLaws.{fourth_samples}
use Rattle.motion.proofs.KeptRules.{Follows}

-- a value that has ended
ended : (X y : ℤ) {x : ℤ} → x ≡ along X y → y ≡ pos 0 → x ≡ pos 0
ended X y q z = q ∙ ap (along X) z ∙ along_zero X

module _
    {X : ℤ} {a : ℕ} {inner : List ℕ} {c e D : ℕ} {v : ℕ → Values} (w : Follows X (jerk_over a inner c e D) v)
    {k : ℕ} (end : AtEnd a inner c e D k)
  where
    pub jerk_rests : (v k).jerk ≡ pos 0
    jerk_rests = ended X _ (w.jerk_is k) end.jerk_rests

    pub acceleration_rests : (v k).acceleration ≡ pos 0
    acceleration_rests = ended X _ (w.acceleration_is k) end.acceleration_rests

    pub velocity_rests : (v k).velocity ≡ pos 0
    velocity_rests = ended X _ (w.velocity_is k) end.velocity_rests

-- and the snap of the fourth order
pub snap_rests : (X : ℤ) {t : Intervals} → Ordered t → (D k : ℕ) → N t ≤ k → (values_at X t D k).snap ≡ pos 0
unfolding values_at profile.snap
snap_rests X {t} o D k l = ap (along X) (value_ends (fourth_segments t) D k (rw (fourth_samples o) l)) ∙ along_zero X
