-- Document 01, demand 3, "Bound rules" and "Never turning back", for a profile over widths that keeps the bounds.
use mathlib.Core.List.{List}
use mathlib.Core.Path.{◌≡◌}
use Prim.Native.Nat.{ℕ, ◌≤◌}
use native.Mathlib.Nat.{le_trans}
use lib.IntN.{ℤ, pos, nat_abs}
use lib.Signed.{◌≤ℤ◌, ◌<ℤ◌}
use Rattle.planner.specs.Quantities.{along}
use Rattle.planner.specs.Intervals.{Intervals}
use Rattle.planner.specs.declared.Move.{Move}
use Rattle.planner.proofs.DirectionLaws.{size_along, along_forward, along_backward}
use Rattle.profile.specs.Profile as profile
use Rattle.profile.specs.Inner.Facts.{jerk_over, At}
use Rattle.profile.proofs.ValueLaws.{value_size}
use Rattle.profile.proofs.AnyOrder.{any_order}
use Rattle.motion.specs.Sampling.{Values, values_at}
use Rattle.motion.specs.Inner.SegmentLists.{fourth_segments}
use Rattle.motion.proofs.KeptRules.{Keeps, Follows}

-- a value of one size with another
bounded : (X y : ℤ) {x : ℤ} {size bound : ℕ} → x ≡ along X y → nat_abs y ≤ size → size ≤ bound → nat_abs x ≤ bound
bounded X y q l b = rw (q, size_along X y) (le_trans l b)

module _
    {m : Move} {a : ℕ} {inner : List ℕ} {c e D short : ℕ} (f : Keeps m a inner c e D short)
    {v : ℕ → Values} (w : Follows m.displacement (jerk_over a inner c e D) v) (k : ℕ)
  where
    here : At a inner c e D k
    here = any_order a inner c e f.spread D k

    pub jerk_bound : nat_abs (v k).jerk ≤ m.jerk
    jerk_bound = bounded m.displacement _ (w.jerk_is k) here.jerk_size f.jerk

    pub acceleration_bound : nat_abs (v k).acceleration ≤ m.acceleration
    acceleration_bound = bounded m.displacement _ (w.acceleration_is k) here.acceleration_size f.acceleration

    pub velocity_bound : nat_abs (v k).velocity ≤ m.velocity
    velocity_bound = bounded m.displacement _ (w.velocity_is k) here.velocity_size f.velocity

    -- never turning back
    pub forward : pos 0 <ℤ m.displacement → pos 0 ≤ℤ (v k).velocity
    forward h = rw (w.velocity_is k) (along_forward m.displacement _ h here.forward)

    pub backward : m.displacement <ℤ pos 0 → (v k).velocity ≤ℤ pos 0
    backward h = rw (w.velocity_is k) (along_backward m.displacement _ h here.forward)

-- the snap of the fourth order
pub snap_bound : (X : ℤ) (t : Intervals) (D : ℕ) {bound : ℕ} → D ≤ bound → (k : ℕ) → nat_abs (values_at X t D k).snap ≤ bound
unfolding values_at profile.snap
snap_bound X t D l k = rw (size_along X (profile.snap _ _ _ _ D k)) (le_trans (value_size (fourth_segments t) D k) l)
