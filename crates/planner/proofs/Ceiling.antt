-- The division that takes a bound to the other side: ⌈t/k⌉ ≤ x is t ≤ k·x.
use Prim.Native.Nat.{ℕ, suc, ◌*◌, ◌≤◌, ◌<◌}
use native.Mathlib.Nat.{le_trans, mul-le-mul_right, suc-mul, mul_comm}
use native.Mathlib.Omega.{arith}
use Rattle.std.specs.Int.{div_ceil}
use Rattle.std.proofs.lemmas.Grind.{div_ceil_times}
use Rattle.planner.specs.Inner.Search.{LeastWithin}

module _ (k t : ℕ) (hk : 1 ≤ k) where
  abbrev quotient : ℕ
  quotient = div_ceil t k

  reached : (x : ℕ) → quotient ≤ x → t ≤ k * x
  reached x h = rw (mul_comm k x) (le_trans (div_ceil_times t k hk).0 (mul-le-mul_right k h))

  missed : (x : ℕ) → x < quotient → k * x < t
  missed x h =
      let next : suc x * k ≤ quotient * k = mul-le-mul_right k h in
      omega (arith, next, (div_ceil_times t k hk).1, suc-mul x k, mul_comm x k)

  -- a search for the quotient is one for t
  pub within_scaled : {reach : ℕ → ℕ} {lo hi r : ℕ} → LeastWithin quotient reach lo hi r → LeastWithin t (λ n. k * reach n) lo hi r
  within_scaled {reach} {r = r} w =
      record {
        low = w.low;
        high = w.high;
        before = λ n l h. missed (reach n) (w.before n l h);
        here = λ h. reached (reach r) (w.here h);
      }
