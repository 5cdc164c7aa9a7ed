-- `patterns::float_of`: a pattern that without its sign is at most infinity's is no NaN's.
use Rattle.std.proofs.Common.{◌%◌, Bool, not, T, sym, ◌∙◌, subst, le-ltb}
use lib.Ieee.{binary64}
use lib.Ieee.Bits.{nan_bits_above}
use Rattle.vectors.proofs.forces.patterns.float_of.Goals as goal

pub float_from_bits-result : goal.float_from_bits-result
float_from_bits-result c =
    let n = c.args.bits in
    let no_nan = nan_bits_above binary64 n ∙ le-ltb 9218868437227405312 (n % 9223372036854775808) c.if-bits-gt-INFINITY.false in
    subst (λ (b : Bool). T (not b)) (sym no_nan) tt
