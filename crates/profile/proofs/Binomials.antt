-- Binomials as sums of sums of 1, and as falling factorials over factorials.
use mathlib.Core.Path.{◌≡◌, refl, sym, ap, ◌∙◌}
use Prim.Native.Nat.{ℕ, zero, suc, ◌+◌, ◌-◌, ◌*◌, ◌≤◌, ◌<◌}
use native.Mathlib.Nat.{mul-add, mul_assoc, mul_comm, mul-zero, zero-mul}
use native.Mathlib.Omega.{arith}
use native.Mathlib.Decide.{dec_le}
use Rattle.profile.specs.Inner.Widths.{total}
use Rattle.profile.specs.Inner.ClosedForm.{falling, factorial}

-- 1, k, k(k−1)/2, .. at k: each is the sum of the one before
unfoldable pub binomial : ℕ → ℕ → ℕ
binomial zero k = 1
binomial (suc n) k = total (binomial n) k

pub binomial_start : (n : ℕ) → binomial (suc n) 0 ≡ 0
unfolding binomial total
binomial_start n = refl

pub binomial_one : (k : ℕ) → binomial 1 k ≡ k
unfolding binomial total
binomial_one zero = refl
binomial_one (suc k) = omega (arith, binomial_one k)

falling_next : (n k : ℕ) → falling (suc n) (suc k) ≡ suc k * falling n k
unfolding falling
falling_next zero k = omega arith
falling_next (suc n) k =
    let less : suc k - suc n ≡ k - n = omega arith in
    rw (less, falling_next n k) (mul_assoc (suc k) (falling n k) (k - n))

pub falling_none : (n k : ℕ) → k < n → falling n k ≡ 0
unfolding falling
falling_none zero k h = absurd (omega arith)
falling_none (suc n) k h = let none : k - n ≡ 0 = omega arith in rw none (mul-zero (falling n k))

-- one sample on, as in Pascal's triangle
falling_more : (n k : ℕ) → Dec (n ≤ k) → falling (suc n) (suc k) ≡ falling (suc n) k + suc n * falling n k
unfolding falling
falling_more n k (yes h) =
    let whole : k - n + suc n ≡ suc k = omega arith in
    falling_next n k
    ∙ rw (mul_comm (suc n) (falling n k), ← mul-add (falling n k) (k - n) (suc n), whole) (mul_comm (suc k) (falling n k))
falling_more n k (no h) =
    falling_next n k ∙ rw (falling_none n k (omega arith)) (omega (arith, mul-zero (suc k), mul-zero (suc n), zero-mul (k - n)))

pub falling_binomial : (n k : ℕ) → falling n k ≡ factorial n * binomial n k
unfolding binomial total factorial falling
falling_binomial zero k = refl
falling_binomial (suc n) zero = falling_none (suc n) 0 (omega arith) ∙ sym (mul-zero (factorial (suc n)))
falling_binomial (suc n) (suc k) =
    falling_more n k (dec_le n k)
    ∙ rw (falling_binomial (suc n) k, falling_binomial n k, mul-add (suc n * factorial n) (total (binomial n) k) (binomial n k))
    (ap (λ (x : ℕ). suc n * factorial n * total (binomial n) k + x) (sym (mul_assoc (suc n) (factorial n) (binomial n k))))
