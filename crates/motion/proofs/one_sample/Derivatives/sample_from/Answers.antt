-- `sample_from` meets its contract: the values are passed on, the rounding is the distance's, and the start is added to both.
use native.Mathlib.Omega.{arith}
use mir.Facts.{to_z-of_z}
use Rattle.motion.proofs.IntegerLaws.{small_fits}
use Rattle.motion.proofs.OneSample.{gained_position}
use Rattle.motion.proofs.one_sample.Derivatives.sample_from.Goals as goal

pub returns : goal.returns
returns c =
    let distance_is = to_z-of_z (small_fits c.args.self.now.distance c.requires.position_bound) in
    let position_is = gained_position c.args.m.now.start c.args.self.now.distance c.requires c.units_of.ensures in
    record {
      rounding = record { count = _; remainder = _; rounded = rw distance_is at c.round_to_count-rounded.ensures };
      sample_is = grind (arith, to_z-of_z, position_is);
    }
