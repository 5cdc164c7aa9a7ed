-- The decimal of a number that a u64 holds is std's, which `itoa` writes.
use Prim.Native.Nat.{ℕ, suc, ◌^◌, ◌<◌}
use native.Mathlib.Omega.{arith}
use mathlib.Core.Path.{◌≡◌}
use Rattle.std.specs.Fmt as std
use Rattle.std.proofs.lemmas.Fmt.{decimal_from_appends, length-decimal-le_succ}
use Rattle.route_sheet.specs.Text.{digits_up_to, decimal}
use Rattle.route_sheet.proofs.DecimalLaws.{one_step, more_step}

pub decimal_same : (n : ℕ) → n < 2 ^ 64 → decimal n ≡ std.decimal n
unfolding decimal
decimal_same n h = decimal_from_appends digits_up_to (record { one = one_step; more = more_step }) (suc n) n h (omega (arith, length-decimal-le_succ n h))
