-- `at` meets its contract: each product is the one before it, times one factor more.
use mathlib.Core.Path.{◌≡◌, ap, ◌∙◌}
use Prim.Native.Nat.{ℕ, ◌≤◌}
use native.Mathlib.Omega.{arith}
use mir.Syntax.{w64}
use mir.Val.{to_z, of_z}
use lib.IntN.{ℤ, pos, ◌-ℤ◌, ◌*ℤ◌}
use Rattle.planner.specs.Outcome.{most_samples}
use Rattle.profile.specs.Inner.ClosedForm.{falling, differences}
use Rattle.motion.proofs.FallingFactorials.{sample_read, product_fits, product_read, next_product}
use Rattle.motion.proofs.closed_form.Products.at.Goals as goal

module _ (k : ℕ) (h : k ≤ most_samples) where
  -- k less n, and the products, as the machine has them
  abbrev factor : ℕ → ℤ
  factor n = to_z w64 (of_z w64 (to_z w64 k -ℤ pos n))

  abbrev second : ℤ
  second = to_z w64 k *ℤ factor 1

  abbrev third : ℤ
  third = to_z w64 (of_z w64 second) *ℤ factor 2

  abbrev fourth : ℤ
  fourth = to_z w64 (of_z w64 third) *ℤ factor 3

  first_is : to_z w64 k ≡ pos (falling 1 k)
  unfolding falling
  first_is = sample_read k h ∙ ap pos (omega arith)

  second_is : second ≡ pos (falling 2 k)
  second_is = next_product k h 1 (omega arith) _ first_is

  third-is : third ≡ pos (falling 3 k)
  third-is = next_product k h 2 (omega arith) _ (product_read k h 2 (omega arith) _ second_is)

  fourth-is : fourth ≡ pos (falling 4 k)
  fourth-is = next_product k h 3 (omega arith) _ (product_read k h 3 (omega arith) _ third-is)

pub overflow_mul-third : goal.overflow_mul-third
overflow_mul-third c = product_fits c.args.k c.requires 3 (omega arith) _ (third-is c.args.k c.requires)

pub overflow_mul-fourth : goal.overflow_mul-fourth
overflow_mul-fourth c = product_fits c.args.k c.requires 4 (omega arith) _ (fourth-is c.args.k c.requires)

pub returns : goal.returns
unfolding differences
returns c =
    let k = c.args.k in
    let h = c.requires in
    λ i.
    record {
      first = first_is k h i;
      second = product_read k h 2 (omega arith) _ (second_is k h) i;
      third = product_read k h 3 (omega arith) _ (third-is k h) i;
      fourth = product_read k h 4 (omega arith) _ (fourth-is k h) i;
    }
