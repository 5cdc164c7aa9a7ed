-- The values of a sample with the count and the remainder that their position has; there are no others.
use mathlib.Core.Path.{◌≡◌}
use lib.IntN.{ℤ, ◌+ℤ◌}
use Rattle.motion.specs.Sampling.{Values, position_from, sample_of, Rounding}
use Rattle.motion.specs.declared.Sample.{Sample}
use Rattle.motion.proofs.CountLaws.{one_rounding}
use Rattle.motion.proofs.RoundingLaws.{rounding_of}

abbrev pub with_rounding : (start : ℤ) → Values → Sample
with_rounding start v = sample_of start v (rounding_of v.position)

pub one_rounded_sample : (start : ℤ) (v : Values) (r : Rounding v.position) → sample_of start v r ≡ with_rounding start v
one_rounded_sample start v r =
    let same = one_rounding r (rounding_of v.position) in
    λ i.
    record {
      snap = v.snap;
      jerk = v.jerk;
      acceleration = v.acceleration;
      velocity = v.velocity;
      position = position_from start v.position;
      count = start +ℤ same.0 i;
      remainder = same.1 i;
    }
