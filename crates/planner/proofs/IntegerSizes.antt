-- The sizes of sums and differences of signed numbers, and when a number fits 64 bits.
use mathlib.Core.Bool.{Bool, true, false, cond}
use mathlib.Core.Path.{◌≡◌, refl}
use Prim.Native.Nat.{ℕ, zero, suc, ◌+◌, ◌-◌, ◌^◌, ◌≤◌}
use native.Mathlib.Nat.{le_refl}
use native.Mathlib.Omega.{arith}
use borrow.Author.Tests.{ltb-true, ltb-false}
use lib.Dec.{ltb}
use lib.IntN.{ℤ, pos, negsuc, nat_abs, ◌+ℤ◌, ◌-ℤ◌, +ℤ_comm}
use mir.Syntax.{w64}
use mir.Val.{SFits}

-- the distance of two natural numbers
size_below : (m n : ℕ) (t : Bool) → ltb m n ≡ t → nat_abs (cond t (negsuc (n - suc m)) (pos (m - n))) ≡ (m - n) + (n - m)
size_below m n true h = omega (arith, ltb-true m n h)
size_below m n false h = omega (arith, ltb-false m n h)

pub size_difference : (m n : ℕ) → nat_abs (pos m -ℤ pos n) ≡ (m - n) + (n - m)
size_difference m zero = omega arith
size_difference m (suc n) = size_below m (suc n) (ltb m (suc n)) refl

-- a sum is at most as large as its parts together
pub size_sum : (x y : ℤ) → nat_abs (x +ℤ y) ≤ nat_abs x + nat_abs y
size_sum (pos m) (pos n) = le_refl (m + n)
size_sum (pos m) (negsuc n) = omega (arith, size_difference m (suc n))
size_sum (negsuc m) (pos n) = rw (+ℤ_comm (negsuc m) (pos n)) (omega (arith, size_difference n (suc m)))
size_sum (negsuc m) (negsuc n) = omega arith

-- what is at most 2^62 in size fits an i64
pub size_fits : (x : ℤ) → nat_abs x ≤ 2 ^ 62 → SFits w64 x
size_fits (pos n) h = record { sfits = omega arith }
size_fits (negsuc n) h = record { sfits = omega arith }
