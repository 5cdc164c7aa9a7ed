-- A sample is rounded from its start, and its remainder is what its position has more than its count.
use mathlib.Core.Path.{◌≡◌, sym, ap, subst, ◌∙◌}
use lib.IntN.{ℤ, ◌+ℤ◌, ◌-ℤ◌}
use Rattle.planner.specs.Quantities.{units_per_count}
use Rattle.planner.specs.AxesClaims.{axis_at}
use Rattle.motion.specs.Sampling.{Values, units_of, position_from, fourth_order, third_order}
use Rattle.motion.specs.StartClaims.{in_fourth, in_third, in_set, RoundedFrom, RoundedFromStartClaim}
use Rattle.motion.proofs.IntegerLaws.{distance_from, shifted_difference, multiple_sum}
use Rattle.motion.proofs.CountLaws.{remainder_difference}
use Rattle.motion.proofs.RoundingLaws.{rounding_of}
use Rattle.motion.proofs.RoundedValues.{with_rounding}
use Rattle.motion.proofs.GivenSamples.{rule_sample_lem, rule_row}

-- the rule's own sample
from_start : (start : ℤ) (v : Values) → RoundedFrom start (with_rounding start v)
from_start start v =
    let r = rounding_of v.position in
    let units : units_of (start +ℤ r.count) ≡ units_of start +ℤ units_of r.count = multiple_sum units_per_count start r.count in
    record {
      rounded = rw (distance_from (units_of start) v.position, distance_from start r.count) r.rounded;
      remainder_is =
          remainder_difference v.position r.count r.remainder r.rounded
          ∙ sym
          (ap (λ (u : ℤ). position_from start v.position -ℤ u) units
          ∙ shifted_difference (units_of start) v.position (units_of r.count));
    }

pub rounded_from_start : RoundedFromStartClaim
rounded_from_start k _ _ (in_fourth m s h) =
    subst (RoundedFrom m.start) (sym (rule_sample_lem (fourth_order m) h)) (from_start m.start _)
rounded_from_start k _ _ (in_third m s h) =
    subst (RoundedFrom m.start) (sym (rule_sample_lem (third_order m) h)) (from_start m.start _)
rounded_from_start k _ _ (in_set count moves sent samples h i c) =
    subst (RoundedFrom (axis_at moves i).start) (sym (rule_row sent h c)) (from_start (axis_at moves i).start _)
