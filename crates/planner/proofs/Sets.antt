-- Sets of laws that the attribute `#[tactic(auto, using(..))]` of a function names. A name with a dash stands in an attribute only so.
use native.Mathlib.Nat.{pow-zero}
use mir.Facts.{to_z-of_z}
use lib.ListN.{length-set, drop_of_length-le}
use mathlib.Core.List.{append-nil}
use lib.Seq.{take_all}
use Rattle.planner.proofs.ReachLaws.{pow_one, pow_two, pow_three}
use Rattle.planner.proofs.EachLaws.{each_at}
use Rattle.planner.proofs.PaddedLaws.{mapped_at, mapped_next}
use Rattle.planner.proofs.UndividedAnswers.{found_divisible, found_outcome, refused_outcome}
use Rattle.planner.proofs.AxisLaws.{moving_is, resting_refused, resting_outside, resting_found}

pub ruleset pow_set = (pow-zero, pow_one, pow_two, pow_three)

pub ruleset raise_set = (each_at, mapped_at, mapped_next, length-set, drop_of_length-le, append-nil, take_all)

pub ruleset move_set = (to_z-of_z, found_divisible, found_outcome, refused_outcome)

pub ruleset axis_set = (to_z-of_z, moving_is, resting_refused, resting_outside, resting_found)
