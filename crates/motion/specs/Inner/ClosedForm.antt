-- The closed form as the code has it.
use Rattle.std.specs.Prelude.{List, ℕ, ℤ, pos, ◌-ℤ◌, ◌*ℤ◌, ◌<ℤ◌}
use Rattle.std.specs.Int.Signed.{quot_z}
use Rattle.std.specs.Int.{w64}
use Rattle.std.proofs.Common.{SFits}
use Rattle.profile.specs.Inner.ClosedForm.{falling, differences}
use Rattle.motion.specs.declared.closed_form.Products.{Products}

-- The differences of the four falling factorials over the widths ws, at sample k.
abbrev pub products_over : List ℕ → ℕ → Products
products_over ws k =
    record {
      first = differences ws (falling 1) k;
      second = differences ws (falling 2) k;
      third = differences ws (falling 3) k;
      fourth = differences ws (falling 4) k;
    }

abbrev pub difference_of : Products → Products → Products
difference_of x y =
    record {
      first = x.first -ℤ y.first;
      second = x.second -ℤ y.second;
      third = x.third -ℤ y.third;
      fourth = x.fourth -ℤ y.fourth;
    }

-- No difference leaves its range.
pub record DifferenceFits (x y : Products) : Type 0 where
  pub first : SFits w64 (x.first -ℤ y.first)
  pub second : SFits w64 (x.second -ℤ y.second)
  pub third : SFits w64 (x.third -ℤ y.third)
  pub fourth : SFits w64 (x.fourth -ℤ y.fourth)

-- Neither does the unit profile's value, nor its product with D.
pub record ScaledFits (level product factorial : ℤ) : Type 0 where
  pub divides : pos 0 <ℤ factorial
  pub unit : SFits w64 (quot_z product factorial)
  pub result : SFits w64 (level *ℤ quot_z product factorial)
