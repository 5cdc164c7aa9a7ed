-- Laws of n·(u+n)^d: small powers, bounds, growth with n, and what a search finds for it.
use mathlib.Core.Path.{◌≡◌, ap, subst, ◌∙◌}
use Prim.Native.Nat.{ℕ, zero, suc, ◌+◌, ◌*◌, ◌^◌, ◌≤◌, min, max}
use native.Mathlib.Nat.{le_trans, mul-le-mul, mul-le-mul_left, pow-zero, pow-suc, pow-le-pow_left, pow-le-pow_right, one-le-pow, one-mul, mul_comm, le-mul_of_pos_right}
use native.Mathlib.Omega.{arith}
use Rattle.planner.specs.Least.{least}
use Rattle.planner.specs.Inner.Search.{growth, scaled, LeastWithin}
use Rattle.planner.proofs.LeastLaws.{least_is}
use Rattle.planner.proofs.SpanLaws.{Rising, within_least}
use Rattle.std.specs.Int.{div_ceil}
use Rattle.planner.proofs.Ceiling.{within_scaled}

pub pow_one : (m : ℕ) → m ^ 1 ≡ m
pow_one m = pow-suc m 0 ∙ ap (λ (x : ℕ). x * m) (pow-zero m) ∙ one-mul m

pub pow_two : (m : ℕ) → m ^ 2 ≡ m * m
pow_two m = pow-suc m 1 ∙ ap (λ (x : ℕ). x * m) (pow_one m)

pub pow_three : (m : ℕ) → m ^ 3 ≡ m * m * m
pow_three m = pow-suc m 2 ∙ ap (λ (x : ℕ). x * m) (pow_two m)

-- a power fits where its base and its exponent are small
pub pow_bound : {m d : ℕ} → m ≤ 2 ^ 15 → d ≤ 3 → m ^ d ≤ 2 ^ 45
pow_bound {m} {d} hm hd = le_trans (pow-le-pow_left hm d) (pow-le-pow_right (omega arith) hd)

pub growth_rising : (u d : ℕ) → Rising (growth u d)
growth_rising u d m n h = mul-le-mul h (pow-le-pow_left (omega arith) d)

pub growth_at_least : (u d n : ℕ) → n ≤ growth u d n
growth_at_least u d zero = omega arith
growth_at_least u d (suc n) = le-mul_of_pos_right (suc n) (one-le-pow d (u + suc n) (omega arith))

module _ (k u d : ℕ) (hk : 1 ≤ k) where
  pub scaled_at_least : (n : ℕ) → n ≤ scaled k u d n
  scaled_at_least n = le_trans (growth_at_least u d n) (le_times (growth u d n))
    where
      le_times : (x : ℕ) → x ≤ k * x
      le_times x = subst (λ (y : ℕ). x ≤ y) (mul_comm x k) (le-mul_of_pos_right x hk)

  -- what the search finds for the quotient is the least number for the bound, as far as the span goes
  pub least_between :
      (t : ℕ) {lo hi r : ℕ} → 1 ≤ lo → lo ≤ hi →
      LeastWithin (div_ceil t k) (growth u d) lo hi r → r ≡ max lo (min hi (least t (scaled k u d)))
  least_between t one h w =
      within_least (λ m n le. mul-le-mul_left k (growth_rising u d m n le)) one h (least_is t (scaled k u d) scaled_at_least)
      (within_scaled k t hk w)
