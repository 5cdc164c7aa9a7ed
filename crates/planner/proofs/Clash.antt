-- Two constructors are never equal: `cc` makes 0 ≡ 1 of an equation between them, and this a contradiction.
use mathlib.Core.Path.{◌≡◌}
use Prim.Native.Nat.{ℕ}
use native.Mathlib.Omega.{arith}

pub clash : ◌≡◌ {A = ℕ} 0 1 → ⊥
clash e = omega arith
