-- The sums of the switched value over any list of widths: their size, their rest, and the last as a ramp that never falls.
use mathlib.Core.Path.{◌≡◌, refl}
use mathlib.Core.List.{List, [], ◌∷◌, ◌++◌}
use Prim.Native.Nat.{ℕ, suc, ◌-◌, ◌*◌, ◌≤◌}
use native.Mathlib.Nat.{sub-le}
use native.Mathlib.Omega.{arith}
use lib.IntN.{pos, nat_abs}
use lib.Signed.{◌≤ℤ◌}
use lib.ListN.{length}
use Rattle.profile.specs.Profile.{switched_in}
use Rattle.profile.specs.Inner.Repeated.{sums}
use Rattle.profile.specs.Inner.Widths.{span, product, Spread, switched, ramp}
use Rattle.profile.proofs.Differences.{size, level, value, forward}
use Rattle.profile.proofs.RampLaws.{ramp_is, ramp_rising}
use Rattle.profile.proofs.Delays.{delays}
use Rattle.profile.proofs.DelayBounds.{delays_near, delays_within}
use Rattle.profile.proofs.SpreadLaws.{span_append, spread_outer}
use Rattle.profile.proofs.FirstSum.{DelayedRamp, first_sum}
use Rattle.profile.proofs.LaterSums.{later_sums}

-- one sum more than there are inner widths
sums_delayed :
    (a : ℕ) (outer inner : List ℕ)
    → Spread a (outer ++ inner)
    → (D : ℕ)
    → DelayedRamp D a outer inner (sums (suc (length inner)) (switched_in (switched a (outer ++ inner)) D))
sums_delayed a outer inner s D =
    later_sums D a inner outer (outer ++ inner) refl (switched_in (switched a (outer ++ inner)) D) (first_sum a D (outer ++ inner) s)

pub sum_size :
    (a : ℕ) (outer inner : List ℕ)
    → Spread a (outer ++ inner)
    → (D k : ℕ)
    → nat_abs (sums (suc (length inner)) (switched_in (switched a (outer ++ inner)) D) k) ≤ D * product a inner
sum_size a outer inner s D k =
    let within = delays_within (ramp_is a inner) outer (spread_outer a outer inner s) k in
    size (product a inner) (sums_delayed a outer inner s D k) within.0 within.1

pub sum_rests :
    (a w : ℕ) (outer inner : List ℕ)
    → Spread a (w ∷ (outer ++ inner))
    → (D k : ℕ)
    → span a (w ∷ (outer ++ inner)) ≤ k
    → sums (suc (length inner)) (switched_in (switched a (w ∷ (outer ++ inner))) D) k ≡ pos 0
sum_rests a w outer inner s D k h =
    let near = delays_near (ramp_is a inner) w outer (spread_outer a (w ∷ outer) inner s) in
    level (sums_delayed a (w ∷ outer) inner s D k) (near.rests k (rw (span_append a (w ∷ outer) inner) at h))

pub sum_forward :
    (a w : ℕ) (inner : List ℕ)
    → Spread a (w ∷ inner)
    → (D k : ℕ)
    → pos 0 ≤ℤ sums (suc (length inner)) (switched_in (switched a (w ∷ inner)) D) k
unfolding delays
sum_forward a w inner s D k =
    forward (sums_delayed a (w ∷ []) inner s D k) (omega (arith, ramp_rising a inner (k - w) k (sub-le k w)))

pub sum_ramp :
    (a : ℕ) (ws : List ℕ)
    → Spread a ws
    → (D k : ℕ)
    → sums (suc (length ws)) (switched_in (switched a ws) D) k ≡ pos (D * ramp a ws k)
unfolding delays
sum_ramp a ws s D k = value (ramp a ws k) (sums_delayed a [] ws s D k) (omega arith)
