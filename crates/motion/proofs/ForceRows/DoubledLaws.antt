-- The doubled numbers of a plan's rows: after the last sample there is nothing to cut off, and no cast loses anything.
use mathlib.Core.Bool.{Bool, true, false, not, cond}
use mathlib.Core.Path.{◌≡◌, refl, sym, fun_ext}
use Prim.Native.Nat.{ℕ, zero, suc, ◌≤◌, ◌^◌, zero-le}
use native.Mathlib.Nat.{le_of_lt}
use native.Mathlib.Omega.{arith}
use lib.Dec.{T, leb, nleb→lt}
use lib.IntN.{ℤ, pos, nat_abs, ◌+ℤ◌, ◌*ℤ◌}
use Rattle.planner.specs.Intervals.{Intervals, N}
use Rattle.profile.specs.Inner.Repeated.{sums}
use Rattle.motion.specs.Inner.Rows.{Castable}
use Rattle.motion.specs.Sampling.{values_at}
use Rattle.motion.specs.ForceRows.Doubled.{Doubled, earlier, up_to, doubled}
use Rattle.motion.specs.Inner.Steps.{state_at}
use Rattle.motion.specs.Inner.Planned.{WithinRange, directed_snap, planned_numbers}
use Rattle.planner.proofs.IntegerSizes.{size_sum}
use Rattle.motion.proofs.IntegerLaws.{size_doubled}
use Rattle.motion.proofs.OrderedLaws.{fourth_end}
use Rattle.motion.proofs.KeptRules.{fourth_follows}
use Rattle.motion.proofs.RestLaws as rest
use Rattle.motion.proofs.StateLaws.{directed, state_is, snap_below, jerk_below, acceleration_below, velocity_below}

-- a value that is 0 after N anyway
cut : (N : ℕ) (f : ℕ → ℤ) → ((k : ℕ) → N ≤ k → f k ≡ pos 0) → up_to N f ≡ f
unfolding up_to
cut N f h = fun_ext (λ k. by_test k (leb k N) (λ l. h k (le_of_lt (nleb→lt k N l))))
  where
    by_test : (k : ℕ) (t : Bool) → (T (not t) → f k ≡ pos 0) → cond t (f k) (pos 0) ≡ f k
    by_test k true z = refl
    by_test k false z = sym (z tt)

pub earlier_size : (f : ℕ → ℤ) (most : ℕ) → ((k : ℕ) → nat_abs (f k) ≤ most) → (n k : ℕ) → nat_abs (earlier f n k) ≤ most
unfolding earlier
earlier_size f most h zero k = h k
earlier_size f most h (suc n) zero = zero-le
earlier_size f most h (suc n) (suc k) = earlier_size f most h n k

twice : (x : ℤ) → nat_abs x ≤ 2 ^ 50 → nat_abs (pos 2 *ℤ x) ≤ 2 ^ 53
twice x h = omega (arith, size_doubled x)

both : (x y : ℤ) → nat_abs x ≤ 2 ^ 50 → nat_abs y ≤ 2 ^ 50 → nat_abs (x +ℤ y) ≤ 2 ^ 53
both x y h k = omega (arith, size_sum x y)

module _ (X : ℤ) (t : Intervals) (D : ℕ) (h : WithinRange t D) where
  abbrev snap : ℕ → ℤ
  snap = directed_snap X t D

  -- the numbers as the sums of the snap give them
  abbrev pub summed_numbers : ℕ → Doubled ℤ
  summed_numbers = doubled snap (sums 1 snap) (sums 2 snap) (sums 3 snap)

  by_sums : (k : ℕ) → directed X t D k ≡ state_at snap k
  by_sums k = sym (state_is X t D k)

  pub numbers_are : planned_numbers X t D ≡ summed_numbers
  numbers_are =
      let n = N t in
      let o = h.ordered in
      rw (
        cut n snap (rest.snap_rests X o D),
        cut n (λ k. (values_at X t D k).jerk) (λ k l. rest.jerk_rests (fourth_follows X t D) (fourth_end o D k l)),
        cut n (λ k. (values_at X t D k).acceleration) (λ k l. rest.acceleration_rests (fourth_follows X t D) (fourth_end o D k l)),
        cut n (λ k. (values_at X t D k).velocity) (λ k l. rest.velocity_rests (fourth_follows X t D) (fourth_end o D k l)),
      )
      (λ i. doubled snap (λ k. (by_sums k i).jerk) (λ k. (by_sums k i).acceleration) (λ k. (by_sums k i).velocity))

  pub castable : (k : ℕ) → Castable (summed_numbers k)
  unfolding doubled sums
  castable k =
      record {
        d2 = twice (earlier snap 2 k) (earlier_size snap (2 ^ 50) (snap_below X t D h (2 ^ 50) h.speed) 2 k);
        j2 =
            both (earlier (sums 1 snap) 1 k) (earlier (sums 1 snap) 2 k)
            (earlier_size (sums 1 snap) (2 ^ 50) (jerk_below X t D h (2 ^ 50) h.speed) 1 k)
            (earlier_size (sums 1 snap) (2 ^ 50) (jerk_below X t D h (2 ^ 50) h.speed) 2 k);
        a2 = twice (earlier (sums 2 snap) 1 k) (earlier_size (sums 2 snap) (2 ^ 50) (acceleration_below X t D h (2 ^ 50) h.speed) 1 k);
        v2 =
            both (earlier (sums 3 snap) 0 k) (earlier (sums 3 snap) 1 k)
            (earlier_size (sums 3 snap) (2 ^ 50) (velocity_below X t D h (2 ^ 50) h.speed) 0 k)
            (earlier_size (sums 3 snap) (2 ^ 50) (velocity_below X t D h (2 ^ 50) h.speed) 1 k);
      }
