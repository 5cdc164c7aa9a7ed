-- A machine in range: how large its numbers and u can be.
use Prim.Native.Nat.{ℕ}
use lib.Dec.{T}
use lib.IntN.{ℤ}
use lib.Ieee.{Float, lt, eq, le}
use Rattle.motion.specs.ForceRows.Machine.{Machine, plus_zero, most, least_stiffness, in_range}
use Rattle.motion.specs.ForceRows.Doubled.{Doubled, cast}
use Rattle.motion.specs.ForceRows.Force.{sum_in_u, q1, q2, q3, q4, weighted_sum, half, u}
use Rattle.motion.specs.Inner.Rows.{Castable}
use Rattle.motion.proofs.ForceRows.MachineLaws.{InRange, range_parts}
use Rattle.motion.proofs.ForceRows.SizeLaws.{◌⪯◌, ⪯-of-le, ⪯-closed, bound}
use Rattle.motion.proofs.ForceRows.BoundedFloats.{cast_bound, sum_bound, product_bound}

-- each number is at most 2^20, and c at least 2^−20
pub record BoundedMachine (m : Machine Float) : Type 0 where
  pub m1 : m.m1 ⪯ bound 1 20
  pub m2 : m.m2 ⪯ bound 1 20
  pub k1 : m.k1 ⪯ bound 1 20
  pub k2 : m.k2 ⪯ bound 1 20
  pub k12 : m.k12 ⪯ bound 1 20
  pub c : m.c ⪯ bound 1 20
  pub from_zero : T (le plus_zero m.k12)
  pub stiff : least_stiffness ⪯ m.c

bounded : (x : Float) → T (in_range x) → x ⪯ bound 1 20
bounded x h = let r = range_parts x h in ⪯-of-le x most r.0 r.1 tt

pub bounded_machine : (m : Machine Float) → InRange m → BoundedMachine m
unfolding le lt eq
bounded_machine m r =
    let stiffness = bounded m.c r.c in
    record {
      m1 = bounded m.m1 r.m1;
      m2 = bounded m.m2 r.m2;
      k1 = bounded m.k1 r.k1;
      k2 = bounded m.k2 r.k2;
      k12 = bounded m.k12 r.k12;
      c = stiffness;
      from_zero = (range_parts m.k12 r.k12).0;
      stiff = ⪯-of-le least_stiffness m.c tt r.stiff stiffness.is_finite;
    }

-- q1 to q4 are at most 1, 4, 5 and 2 times 2^40, and the cast numbers at most 2^53
pub u_bound : (m : Machine Float) (w : ℕ → Doubled ℤ) (k : ℕ) → BoundedMachine m → Castable (w k) → u m w k ⪯ bound 12 93
unfolding u sum_in_u weighted_sum q1 q2 q3 q4 cast
u_bound m w k b c =
    let masses = sum_bound b.m1 b.m2 tt in
    let dampings = sum_bound b.k1 b.k2 tt in
    let snap = product_bound (product_bound b.m1 b.m2 tt) (cast_bound _ c.d2) tt in
    let q2-bound =
    sum_bound (sum_bound (product_bound masses b.k12 tt) (product_bound b.m1 b.k2 tt) tt) (product_bound b.m2 b.k1 tt) tt in
    let q3-bound =
    sum_bound (sum_bound (product_bound masses b.c tt) (product_bound b.k1 b.k2 tt) tt) (product_bound dampings b.k12 tt) tt in
    let jerk = product_bound q2-bound (cast_bound _ c.j2) tt in
    let acceleration = product_bound q3-bound (cast_bound _ c.a2) tt in
    let velocity = product_bound (product_bound dampings b.c tt) (cast_bound _ c.v2) tt in
    product_bound (sum_bound (sum_bound (sum_bound snap jerk tt) acceleration tt) velocity tt) (⪯-closed half (bound 1 0) tt) tt
