-- A start in its span: its position is at most 2^60 in size, and neither the position nor the count of a sample from it leaves its range.
use mathlib.Core.Path.{◌≡◌, refl, sym, ap, subst, ◌∙◌}
use Prim.Native.Nat.{suc, ◌*◌, ◌≤◌, ◌^◌}
use native.Mathlib.Nat.{mul-le-mul_left}
use native.Mathlib.Omega.{arith}
use lib.IntN.{ℤ, pos, negsuc, neg_ℤ, nat_abs, ◌+ℤ◌, ◌-ℤ◌, +ℤ-neg_ℤ_cancel}
use mir.Syntax.{w64}
use mir.Val.{SFits, to_z, of_z}
use mir.Facts.{to_z-of_z}
use Rattle.planner.specs.Quantities.{units_per_count}
use Rattle.planner.specs.Outcome.{most_counts}
use Rattle.planner.proofs.Sign.{size_negated}
use Rattle.motion.specs.Sampling.{Values, units_of, RoundsTo}
use Rattle.motion.specs.Inner.Planned.{IsSampleOf}
use Rattle.motion.specs.declared.Sample.{Sample}
use Rattle.planner.proofs.IntegerSizes.{size_sum}
use Rattle.motion.proofs.IntegerLaws.{small_fits, wide_sum_fits}

units_are : (c : ℤ) → nat_abs (units_of c) ≡ units_per_count * nat_abs c
units_are (pos n) = refl
units_are (negsuc n) = size_negated (pos (units_per_count * suc n))

-- the count of a distance is as large as the distance in counts, and a half more at most
pub count_size : (x c r : ℤ) → nat_abs x ≤ 2 ^ 61 → RoundsTo x c r → nat_abs c ≤ 2 ^ 22
count_size x c r h is =
    let units : units_of c ≡ x -ℤ r = sym (+ℤ-neg_ℤ_cancel (units_of c) r) ∙ ap (λ (y : ℤ). y -ℤ r) (sym is.position_is) in
    omega (arith, units_are c, ap nat_abs units, size_sum x (neg_ℤ r), size_negated r, is.nearest)

module _ (start : ℤ) (h : nat_abs start ≤ most_counts) where
  pub units_size : nat_abs (units_of start) ≤ 2 ^ 60
  units_size = rw (units_are start) (mul-le-mul_left units_per_count h)

  pub units_fit : SFits w64 (units_of start)
  units_fit = small_fits (units_of start) units_size

  -- of a sample at this distance
  pub position_fits : (x : ℤ) → nat_abs x ≤ 2 ^ 60 → SFits w64 (units_of start +ℤ x)
  position_fits x l = wide_sum_fits (units_of start) x (omega (arith, units_size)) (omega arith)

  pub count_fits : (x c r : ℤ) → nat_abs x ≤ 2 ^ 61 → RoundsTo x c r → SFits w64 (start +ℤ c)
  count_fits x c r l is = wide_sum_fits start c (omega (arith, h)) (omega (arith, count_size x c r l is))

-- a start that is passed on is read back as it is, and so are its units
module _ (start : ℤ) (h : nat_abs start ≤ most_counts) where
  start_read : to_z w64 (of_z w64 start) ≡ start
  start_read = to_z-of_z (small_fits start (omega (arith, h)))

  pub units_passed : {r : ℤ} → SFits w64 r → r ≡ units_of (to_z w64 (of_z w64 start)) → to_z w64 (of_z w64 r) ≡ units_of start
  units_passed k is = to_z-of_z k ∙ is ∙ ap units_of start_read

-- a sample of these values from this start, by what they are
pub same_sample : {start start' : ℤ} {v v' : Values} {r : Sample} → start ≡ start' → v ≡ v' → IsSampleOf start v r → IsSampleOf start' v' r
same_sample {start} {v' = v'} {r = r} p q h =
    subst (λ (start : ℤ). IsSampleOf start v' r) p (subst (λ (v : Values). IsSampleOf start v r) q h)
