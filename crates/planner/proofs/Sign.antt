-- The size of a signed number, by its sign; and a size with a minus before it, as 64 bits hold it.
use mathlib.Core.Path.{◌≡◌, refl}
use Prim.Native.Nat.{ℕ, zero, suc, ◌^◌, ◌<◌}
use native.Mathlib.Omega.{arith}
use lib.Dec.{lit<}
use lib.IntN.{ℤ, pos, negsuc, neg_ℤ, nat_abs, ◌-ℤ◌, +ℤ_idl}
use mir.Syntax.{w64}
use mir.Val.{SFits, to_z}
use mir.ValLaws.{to_z_pos}

pub size_negated : (x : ℤ) → nat_abs (neg_ℤ x) ≡ nat_abs x
size_negated (pos zero) = refl
size_negated (pos (suc n)) = refl
size_negated (negsuc n) = refl

pub negative_fits : (n : ℕ) → n < 2 ^ 63 → SFits w64 (neg_ℤ (pos n))
negative_fits zero h = record { sfits = lit< tt }
negative_fits (suc n) h = record { sfits = omega arith }

-- 0 less a size.
pub negated : (n : ℕ) → n < 2 ^ 63 → pos 0 -ℤ to_z w64 n ≡ neg_ℤ (pos n)
negated n h = rw (to_z_pos w64 n h) (+ℤ_idl (neg_ℤ (pos n)))
