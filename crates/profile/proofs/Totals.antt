-- Laws of `total`: it never falls, it grows evenly where its summand holds, and a late start stays late.
use mathlib.Core.Path.{◌≡◌, refl}
use Prim.Native.Nat.{ℕ, zero, suc, ◌+◌, ◌-◌, ◌*◌, ◌≤◌}
use native.Mathlib.Nat.{le_refl, zero-sub, add-suc, add-zero, mul-suc, mul-zero}
use native.Mathlib.Omega.{arith}
use native.Mathlib.Decide.{dec_le, le_ind}
use Rattle.profile.specs.Inner.Widths.{total}

pub total_of_none : (k : ℕ) → total (λ _. 0) k ≡ 0
unfolding total
total_of_none zero = refl
total_of_none (suc k) = omega (arith, total_of_none k)

pub total_rising : (f : ℕ → ℕ) (i k : ℕ) → i ≤ k → total f i ≤ total f k
unfolding total
total_rising f i k h = le_ind (λ (n : ℕ). total f i ≤ total f n) (le_refl (total f i)) (λ n _ l. omega arith) k h

-- w more samples of value t
pub total_even : (f : ℕ → ℕ) (t i w : ℕ) → ((k : ℕ) → i ≤ k → f k ≡ t) → total f (i + w) ≡ total f i + t * w
unfolding total
total_even f t i zero h = rw (add-zero i, mul-zero t) (omega arith)
total_even f t i (suc w) h = rw (add-suc i w, mul-suc t w) (omega (arith, total_even f t i w h, h (i + w) (omega arith)))

-- one more sample of g, w samples late
pub late_step : (g : ℕ → ℕ) (w k : ℕ) → g 0 ≡ 0 → Dec (w ≤ k) → total g (suc k - w) ≡ total g (k - w) + g (k - w)
unfolding total
late_step g w k z (yes h) = let next : suc k - w ≡ suc (k - w) = omega arith in rw next
late_step g w k z (no h) =
    let start : k - w ≡ 0 = omega arith in
    let still : suc k - w ≡ 0 = omega arith in
    rw (still, start) (omega arith)

pub total_late : (f g : ℕ → ℕ) (w k : ℕ) → g 0 ≡ 0 → total (λ (i : ℕ). f i + g (i - w)) k ≡ total f k + total g (k - w)
unfolding total
total_late f g w zero z = rw zero-sub
total_late f g w (suc k) z = omega (arith, total_late f g w k z, late_step g w k z (dec_le w k))
