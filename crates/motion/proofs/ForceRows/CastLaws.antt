-- Whole numbers within 2^53 fit an i64, and an f64 counts them without a gap.
use Prim.Native.Nat.{◌≤◌, ◌^◌}
use native.Mathlib.Omega.{arith}
use lib.Dec.{T, le→leb, lt→ltb}
use lib.IntN.{ℤ, pos, negsuc, nat_abs}
use lib.Ieee.{binary64, in_float}
use mir.Syntax.{w64}
use mir.Val.{SFits}
use Rattle.motion.proofs.IntegerLaws.{small_fits}

pub within_53 : (z : ℤ) → nat_abs z ≤ 2 ^ 53 → SFits w64 z
within_53 z h = small_fits z (omega arith)

pub in_float_lem : (z : ℤ) → nat_abs z ≤ 2 ^ 53 → T (in_float binary64 z)
unfolding in_float
in_float_lem (pos n) h = le→leb n (2 ^ 53) h
in_float_lem (negsuc n) h = lt→ltb n (2 ^ 53) h
