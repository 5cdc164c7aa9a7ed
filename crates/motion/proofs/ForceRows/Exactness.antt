-- Document 01, "Force rows": where every product and partial sum is at most 2^53 in size, u is exactly half the whole-number sum,
-- and the force of a rigid drive is u/c rounded once.
use mathlib.Core.Path.{◌≡◌}
use Prim.Native.Nat.{ℕ, ◌*◌, ◌<◌}
use lib.IntN.{ℤ, pos}
use lib.Ieee.{Float, binary64, add, mul, of_int}
use Rattle.motion.specs.ForceRows.Machine.{Machine}
use Rattle.motion.specs.ForceRows.Doubled.{Doubled, map_doubled, cast}
use Rattle.motion.specs.ForceRows.Force.{Arithmetic, wholes, sum_in_u, q1, q2, q3, q4, weighted_sum, u, drive_of, force_of, force_row}
use Rattle.motion.specs.ForceRows.Claims.{IsWhole, IsHalf, IsRounded, IsWholeMachine, Expression, constant, sum_of, product_of, in_wholes, Within53, expression_of_u}
use Rattle.motion.specs.Inner.Rows.{Castable}
use Rattle.motion.proofs.ForceRows.WholeFloats.{cast_exact, whole_sum, whole_product, half_exact, zero_equals}
use Rattle.motion.proofs.ForceRows.RoundedLaws.{quotient_rounded}

-- A formula with a float beside each of its whole numbers.
data Paired : Type 0 where
  pair : (float : Float) (whole : ℤ) → Paired
  sum_pair product_pair : Paired → Paired → Paired

abbrev pairs : Arithmetic Paired
pairs = record { ◌⊞◌ = sum_pair; ◌⊠◌ = product_pair }

unfoldable whole : Paired → Expression
whole (pair x z) = constant z
whole (sum_pair s t) = sum_of (whole s) (whole t)
whole (product_pair s t) = product_of (whole s) (whole t)

unfoldable in_floats : Paired → Float
in_floats (pair x z) = x
in_floats (sum_pair s t) = add binary64 (in_floats s) (in_floats t)
in_floats (product_pair s t) = mul binary64 (in_floats s) (in_floats t)

-- Each number is whole; its own size does not matter.
unfoldable Wholes : Paired → Type 0
Wholes (pair x z) = IsWhole x z
Wholes (sum_pair s t) = Wholes s × Wholes t
Wholes (product_pair s t) = Wholes s × Wholes t

formula_exact : (t : Paired) → Wholes t → Within53 (whole t) → IsWhole (in_floats t) (in_wholes (whole t))
unfolding whole in_floats in_wholes Wholes Within53
formula_exact (pair x z) h b = h
formula_exact (sum_pair s t) h b = whole_sum (formula_exact s h.0 b.0) (formula_exact t h.1 b.1) b.2
formula_exact (product_pair s t) h b = whole_product (formula_exact s h.0 b.0) (formula_exact t h.1 b.1) b.2

module _ (m : Machine Float) (n : Machine ℤ) (w : ℕ → Doubled ℤ) (k : ℕ) where
  -- q1 to q4 and the sum in u, as floats and as whole numbers
  abbrev paired_machine : Machine Paired
  paired_machine =
      record {
        m1 = pair m.m1 n.m1;
        m2 = pair m.m2 n.m2;
        k1 = pair m.k1 n.k1;
        k2 = pair m.k2 n.k2;
        k12 = pair m.k12 n.k12;
        c = pair m.c n.c;
      }

  abbrev paired : Paired
  paired = sum_in_u pairs paired_machine (map_doubled (λ z. pair (of_int binary64 z) z) (w k))

  numbers_whole : IsWholeMachine m n → Castable (w k) → Wholes paired
  unfolding Wholes sum_in_u weighted_sum q1 q2 q3 q4
  numbers_whole h f = search cast_exact depth 12

  -- "u is exactly half the whole-number sum"
  pub u_exact :
      IsWholeMachine m n → Castable (w k) → Within53 (expression_of_u n (w k)) → IsHalf (u m w k) (sum_in_u wholes n (w k))
  unfolding whole in_floats in_wholes Within53 sum_in_u weighted_sum q1 q2 q3 q4 u cast
  u_exact h f b = half_exact (formula_exact paired (numbers_whole h f) b) b.2

  -- "The drive is rigid if k12 is zero: the force is u/c."
  pub rigid_exact :
      {c : ℕ}
      → IsWholeMachine m n
      → Castable (w k)
      → Within53 (expression_of_u n (w k))
      → n.k12 ≡ pos 0
      → n.c ≡ pos c
      → 0 < c
      → IsRounded (force_row m w k) (sum_in_u wholes n (w k)) (2 * c)
  unfolding force_row drive_of force_of
  rigid_exact h f b rigid stiffness positive =
      rw (zero_equals (rw rigid at h.k12)) (quotient_rounded (u_exact h f b) (rw stiffness at h.c) positive)
