-- Every force row of an accepted move and a machine in range is a finite number.
use mathlib.Core.Bool.{Bool, true, false, cond}
use mathlib.Core.Path.{◌≡◌, refl}
use Prim.Native.Nat.{ℕ, zero, suc, ◌+◌, ◌*◌, ◌^◌, ◌<◌}
use native.Mathlib.Nat.{one-mul}
use native.Mathlib.Omega.{arith}
use lib.Dec.{T, ltb, leb, lt→ltb}
use lib.IntN.{ℤ}
use lib.Ieee.{Float, eq}
use lib.Ieee.Fits.{and_i}
use lib.Ieee.Scale.{finite}
use lib.Ieee.Positive.{own_value}
use Rattle.planner.proofs.Acceptance.{passed_accepted}
use Rattle.motion.specs.ForceRows.Machine.{Machine, plus_zero, machine_as_read}
use Rattle.motion.specs.ForceRows.Doubled.{Doubled}
use Rattle.motion.specs.ForceRows.Force.{u, alpha, beta, rigid, filtered, drive_of, filtered_force, force_of, force_row}
use Rattle.motion.specs.Inner.Rows.{Castable}
use Rattle.motion.specs.Tables.{row_numbers, force, FillsForce}
use Rattle.motion.specs.ForceRows.Claims.{FiniteClaim}
use Rattle.motion.proofs.FillLaws.{filled_passes, filled_rows, filled_at}
use Rattle.motion.proofs.ForceRows.MachineLaws.{InRange, is_in_range, stiffness_positive}
use Rattle.motion.proofs.ForceRows.Theorems.{rows_castable, filled_range}
use Rattle.motion.proofs.ForceRows.SizeLaws.{◌⪯◌, ⪯-closed, bound, representable}
use Rattle.motion.proofs.ForceRows.BoundedFloats.{sum_bound, product_bound, quotient_bound}
use Rattle.motion.proofs.ForceRows.BoundedMachine.{BoundedMachine, bounded_machine, u_bound}
use Rattle.motion.proofs.ForceRows.BoundedDrive.{plus_of_value, plus_of_le, alpha_bound, beta_bound}

holds : (q : ℕ) → q < 2 ^ 53 → T (representable q 113)
holds q h = and_i (ltb q (2 ^ 53)) (leb 113 900) (lt→ltb q (2 ^ 53) h) tt

-- A row of a filtered drive adds at most 24·2^113, as α is at most 1.
module _ {alpha beta : Float} (a : alpha ⪯ bound 1 0) (b : beta ⪯ bound 1 20) where
  next_bound :
      {y' u u' : Float} {q : ℕ}
      → y' ⪯ bound q 113
      → u ⪯ bound 12 93
      → u' ⪯ bound 12 93
      → q + 24 < 2 ^ 53
      → filtered_force alpha beta y' u u' ⪯ bound (q + 24) 113
  unfolding filtered_force
  next_bound {q} y v v' small =
      let kept = rw (one-mul q) at (product_bound a y (rw (one-mul q) (holds q (omega arith)))) in
      sum_bound kept (product_bound b (sum_bound v v' tt) tt) (holds (q + 24) small)

  filtered_bound :
      {u : ℕ → Float} → ((k : ℕ) → u k ⪯ bound 12 93) → (k : ℕ) → k < 4098 → force_of (filtered alpha beta) u k ⪯ bound (24 * suc k) 113
  unfolding force_of
  filtered_bound v zero l = next_bound (⪯-closed plus_zero (bound 0 113) tt) (v 0) (⪯-closed plus_zero (bound 12 93) tt) (omega arith)
  filtered_bound v (suc k) l =
      let more : 24 * suc k + 24 ≡ 24 * suc (suc k) = omega arith in
      rw more at (next_bound (filtered_bound v k (omega arith)) (v (suc k)) (v k) (omega arith))

-- A move has at most 4,096 samples, so at most 4,098 rows.
module _ (m : Machine Float) (w : ℕ → Doubled ℤ) (range : InRange m) (casts : (k : ℕ) → Castable (w k)) where
  open m use {k12, c}

  row_finite : (k : ℕ) → k < 4098 → T (finite (force_row m w k))
  unfolding force_row drive_of
  row_finite k l = by_drive (eq k12 plus_zero) refl
    where
      b : BoundedMachine m
      b = bounded_machine m range

      bounds : (k : ℕ) → u m w k ⪯ bound 12 93
      bounds k = u_bound m w k b (casts k)

      by_drive : (t : Bool) → eq k12 plus_zero ≡ t → T (finite (force_of (cond t (rigid c) (filtered (alpha k12 c) (beta k12 c))) (u m w) k))
      by_drive true h = unfold force_of in (quotient_bound b.stiff b.c.is_finite (bounds k) tt).is_finite
      by_drive false h =
          let p = plus_of_le k12 b.k12.is_finite b.from_zero h in
          let q = plus_of_value c _ _ (own_value c (stiffness_positive m range)) in
          let a = alpha_bound b.k12 b.c b.stiff p q in
          (filtered_bound a (beta_bound b.k12 b.c b.stiff p q) bounds k l).is_finite

pub rows_finite : FiniteClaim
unfolding FillsForce force
rows_finite m machine old new rows filled k l absent =
    let h = passed_accepted m (filled_passes filled) in
    rw (filled_at filled absent k l)
    (row_finite (machine_as_read machine) (row_numbers m) (is_in_range (machine_as_read machine) (filled_range machine filled)) (rows_castable h) k
    (omega (arith, h.short_enough, filled_rows filled)))
