-- How large casts, sums, products and quotients of finite floats can be.
use mathlib.Core.Bool.{Bool, false}
use mathlib.Core.Path.{◌≡◌}
use Prim.Native.Nat.{ℕ, suc, ◌+◌, ◌*◌, ◌^◌, ◌≤◌, ◌<◌}
use native.Mathlib.Nat.{le_refl, le_trans, lt_of_lt_of_le, mul-one, one-mul, mul_assoc, mul_comm, mul_left_comm, add-mul, mul-pos, mul-le-mul, mul-le-mul_right}
use native.Mathlib.Omega.{arith}
use lib.Dec.{T, lit<, lit≤}
use lib.Pow.{pow-add}
use lib.IntN.{ℤ, negsuc, nat_abs, ◌+ℤ◌}
use lib.Ieee.{Float, nan, inf, fin, binary64, up, down, unlike, round, add, mul, div, of_int}
use lib.Ieee.Scale.{finite}
use lib.Ieee.Positive.{num, den, den_pos, first_pos}
use Rattle.planner.specs.Quantities.{signed}
use Rattle.motion.specs.ForceRows.Claims.{IsRounded}
use Rattle.planner.proofs.IntegerSizes.{size_sum}
use Rattle.motion.proofs.ForceRows.SignedLaws.{size_signed}
use Rattle.motion.proofs.ForceRows.SignedSums.{signed_sum}
use Rattle.motion.proofs.ForceRows.RoundedLaws.{cast_rounded, opened_sum, opened_product, opened_quotient}
use Rattle.motion.proofs.ForceRows.SizeLaws.{◌⪯◌, round_bound, bound, representable}

-- x is a fraction of at most n/d in size, rounded once
pub record RoundsAtMost (x : Float) (n d : ℕ) : Type 0 where
  pub negative : Bool
  pub size : ℕ
  pub size_le : size ≤ n
  pub rounded : x ≡ round binary64 negative size d

at_most : {x : Float} {n d : ℕ} (q j : ℕ) → RoundsAtMost x n d → 0 < d → n ≤ q * 2 ^ j * d → T (representable q j) → x ⪯ bound q j
at_most {n} {d} q j h D l f = rw h.rounded (round_bound h.negative h.size d q j D (le_trans h.size_le l) f)

of_rounded : {x : Float} {z : ℤ} {n d : ℕ} → IsRounded x z d → nat_abs z ≤ n → RoundsAtMost x n d
of_rounded h l =
    let small = rw (h.whole_is, size_signed h.negative h.size) at l in
    record { negative = h.negative; size = h.size; size_le = small; rounded = h.rounded }

pub cast_bound : (z : ℤ) → nat_abs z ≤ 2 ^ 53 → of_int binary64 z ⪯ bound 1 53
cast_bound z h = at_most 1 53 (of_rounded (cast_rounded z) h) (lit< tt) (lit≤ tt) tt

-- two finite floats
by_finite :
    (P : Float → Float → Type 0)
    → ((s t : Bool) (m n : ℕ) (e d : ℤ) → P (fin s m e) (fin t n d))
    → (x y : Float) → T (finite x) → T (finite y) → P x y
by_finite P f nan y h k = absurd h
by_finite P f (inf s) y h k = absurd h
by_finite P f (fin s m e) nan h k = absurd k
by_finite P f (fin s m e) (inf t) h k = absurd k
by_finite P f (fin s m e) (fin t n d) h k = f s t m n e d

signed_size : (s t : Bool) (a b : ℕ) → nat_abs (signed s a +ℤ signed t b) ≤ a + b
signed_size s t a b = omega (arith, size_sum (signed s a) (signed t b), size_signed s a, size_signed t b)

pub sum_size : (x y : Float) → T (finite x) → T (finite y) → RoundsAtMost (add binary64 x y) (num x * den y + num y * den x) (den x * den y)
sum_size =
    by_finite (λ x y. RoundsAtMost (add binary64 x y) (num x * den y + num y * den x) (den x * den y))
    (λ s t m n e d. rw (opened_sum s t m n e d) (of_rounded (signed_sum s t _ _ _) (signed_size s t _ _)))

product_size : (x y : Float) → T (finite x) → T (finite y) → RoundsAtMost (mul binary64 x y) (num x * num y) (den x * den y)
product_size =
    by_finite (λ x y. RoundsAtMost (mul binary64 x y) (num x * num y) (den x * den y))
    (λ s t m n e d. record {
      negative = unlike s t;
      size = m * up e * (n * up d);
      size_le = le_refl _;
      rounded = opened_product s t m n e d;
    })

quotient_size : (x y : Float) → T (finite x) → T (finite y) → 0 < num y → RoundsAtMost (div binary64 x y) (num x * den y) (num y * den x)
quotient_size =
    by_finite (λ x y. 0 < num y → RoundsAtMost (div binary64 x y) (num x * den y) (num y * den x))
    (λ s t m n e d p.
    record { negative = unlike s t; size = m * up e * down d; size_le = le_refl _; rounded = opened_quotient s t m n e d (first_pos n (up d) p) })

-- bounds
pub ruleset products = (mul-one, one-mul, mul_assoc, mul_comm, mul_left_comm)

crossed_sum : (a b p q u v w : ℕ) → a * 1 ≤ p * w * u → b * 1 ≤ q * w * v → a * v + b * u ≤ (p + q) * w * (u * v)
crossed_sum a b p q u v w h k =
    let l : a * v ≤ p * w * (u * v) = simp products (simp products at (mul-le-mul_right v h)) in
    let r : b * u ≤ q * w * (u * v) = simp products (simp products at (mul-le-mul_right u k)) in
    rw (add-mul p q w, add-mul (p * w) (q * w) (u * v)) (omega arith)

pub sum_bound : {x y : Float} {p q j : ℕ} → x ⪯ bound p j → y ⪯ bound q j → T (representable (p + q) j) → add binary64 x y ⪯ bound (p + q) j
sum_bound {x} {y} {p} {q} {j} h k f =
    at_most (p + q) j (sum_size x y h.is_finite k.is_finite) (mul-pos (den_pos x) (den_pos y))
    (crossed_sum (num x) (num y) p q (den x) (den y) (2 ^ j) h.size_le k.size_le) f

pub product_bound :
    {x y : Float} {p q i j : ℕ} → x ⪯ bound p i → y ⪯ bound q j → T (representable (p * q) (i + j)) → mul binary64 x y ⪯ bound (p * q) (i + j)
product_bound {x} {y} {p} {q} {i} {j} h k f =
    at_most (p * q) (i + j) (product_size x y h.is_finite k.is_finite) (mul-pos (den_pos x) (den_pos y))
    (simp (pow-add, products) (simp products at (mul-le-mul h.size_le k.size_le))) f

-- a divisor of at least 2^−i
module _ {y : Float} {i : ℕ} (k : fin false 1 (negsuc i) ⪯ y) (F : T (finite y)) where
  above_zero : 0 < num y
  above_zero = first_pos (num y) (2 ^ suc i) (lt_of_lt_of_le (den_pos y) (simp products at k.size_le))

  pub quotient_bound : {x : Float} {p j : ℕ} → x ⪯ bound p j → T (representable p (j + suc i)) → div binary64 x y ⪯ bound p (j + suc i)
  quotient_bound {x} {p} {j} h f =
      at_most p (j + suc i) (quotient_size x y h.is_finite F above_zero) (mul-pos above_zero (den_pos x))
      (simp (pow-add, products) (simp products at (mul-le-mul h.size_le k.size_le))) f

  -- .. that is at least as large
  pub ratio_bound : {x : Float} → x ⪯ y → div binary64 x y ⪯ bound 1 0
  ratio_bound {x} h =
      at_most 1 0 (quotient_size x y h.is_finite F above_zero) (mul-pos above_zero (den_pos x))
      (rw (one-mul (num y * den x)) h.size_le) tt
