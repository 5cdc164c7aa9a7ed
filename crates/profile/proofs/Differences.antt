-- A signed number as D times the difference of two natural numbers: its sums, its size, its sign and its value.
use mathlib.Core.Path.{◌≡◌, refl, ap, subst₂, ◌∙◌}
use mathlib.Core.Bool.{Bool, true, false, cond}
use Prim.Native.Nat.{ℕ, zero, suc, ◌+◌, ◌-◌, ◌*◌, ◌≤◌}
use native.Mathlib.Nat.{mul-add, mul-zero, one-mul, mul-le-mul_left}
use native.Mathlib.Omega.{arith}
use lib.Dec.{ltb, le→leb}
use lib.IntN.{ℤ, pos, negsuc, sub_ℕ, nat_abs, neg_ℤ, ◌+ℤ◌, ◌*ℤ◌}
use lib.Signed.{◌≤ℤ◌}
use borrow.Author.Tests.{ltb-true, ltb-false}

-- x is u − v
abbrev Is : ℤ → ℕ → ℕ → Type 0
Is (pos n) u v = u ≡ n + v
Is (negsuc n) u v = v ≡ suc n + u

sub_by : (a b u v : ℕ) (t : Bool) → ltb a b ≡ t → u + b ≡ v + a → Is (cond t (negsuc (b - suc a)) (pos (a - b))) u v
sub_by a b u v true e q = omega (arith, ltb-true a b e)
sub_by a b u v false e q = omega (arith, ltb-false a b e)

sub_is : (a b u v : ℕ) → u + b ≡ v + a → Is (sub_ℕ a b) u v
sub_is a b u v q = sub_by a b u v (ltb a b) refl q

plus_is : (x y : ℤ) (u v s t : ℕ) → Is x u v → Is y s t → Is (x +ℤ y) (u + s) (v + t)
plus_is (pos a) (pos b) u v s t p q = omega arith
plus_is (pos a) (negsuc b) u v s t p q = sub_is a (suc b) (u + s) (v + t) (omega arith)
plus_is (negsuc a) (pos b) u v s t p q = sub_is b (suc a) (u + s) (v + t) (omega arith)
plus_is (negsuc a) (negsuc b) u v s t p q = omega arith

negated_is : (x : ℤ) (u v : ℕ) → Is x u v → Is (neg_ℤ x) v u
negated_is (pos zero) u v p = omega arith
negated_is (pos (suc n)) u v p = p
negated_is (negsuc n) u v p = p

same_is : (x : ℤ) (u v s t : ℕ) → Is x u v → u + t ≡ v + s → Is x s t
same_is (pos n) u v s t p q = omega arith
same_is (negsuc n) u v s t p q = omega arith

size_is : (x : ℤ) (u v t : ℕ) → Is x u v → u ≤ v + t → v ≤ u + t → nat_abs x ≤ t
size_is (pos n) u v t p h l = omega arith
size_is (negsuc n) u v t p h l = omega arith

value_is : (x : ℤ) (u v n : ℕ) → Is x u v → u ≡ n + v → x ≡ pos n
value_is (pos m) u v n p q = ap pos (omega arith)
value_is (negsuc m) u v n p q = absurd (omega arith)

one_value : (x y : ℤ) (u v : ℕ) → Is x u v → Is y u v → x ≡ y
one_value (pos m) (pos n) u v p q = ap pos (omega arith)
one_value (pos m) (negsuc n) u v p q = absurd (omega arith)
one_value (negsuc m) (pos n) u v p q = absurd (omega arith)
one_value (negsuc m) (negsuc n) u v p q = ap negsuc (omega arith)

times_is : (m : ℕ) (x : ℤ) (u v : ℕ) → Is x u v → Is (pos m *ℤ x) (m * u) (m * v)
times_is m (pos n) u v p = rw p (mul-add m n v)
times_is m (negsuc n) u v p = negated_is (pos (m * suc n)) (m * v) (m * u) (rw p (mul-add m (suc n) u))

forward_is : (x : ℤ) (u v : ℕ) → Is x u v → v ≤ u → pos 0 ≤ℤ x
forward_is (pos n) u v p h = record { le = le→leb 0 n (omega arith) }
forward_is (negsuc n) u v p h = absurd (omega arith)

-- x is D·(u − v)
pub record Difference (D : ℕ) (x : ℤ) (u v : ℕ) : Type 0 where
  is : Is x (D * u) (D * v)

module _ {D : ℕ} where
  pub none_is : Difference D (pos 0) 0 0
  none_is = record { is = omega arith }

  pub one_is : Difference D (pos D) 1 0
  one_is = record { is = omega arith }

  pub plus : {x y : ℤ} {u v s t : ℕ} → Difference D x u v → Difference D y s t → Difference D (x +ℤ y) (u + s) (v + t)
  plus {x} {y} {u} {v} {s} {t} p q =
      record { is = rw (mul-add D u s, mul-add D v t) (plus_is x y (D * u) (D * v) (D * s) (D * t) p.is q.is) }

  pub negated : {x : ℤ} {u v : ℕ} → Difference D x u v → Difference D (neg_ℤ x) v u
  negated {x} {u} {v} p = record { is = negated_is x (D * u) (D * v) p.is }

  -- the same difference of two other numbers
  pub same : {x : ℤ} {u v s t : ℕ} → Difference D x u v → u + t ≡ v + s → Difference D x s t
  same {x} {u} {v} {s} {t} p q =
      record { is = same_is x (D * u) (D * v) (D * s) (D * t) p.is (omega (arith, ap (λ (n : ℕ). D * n) q)) }

  pub size : {x : ℤ} {u v : ℕ} (t : ℕ) → Difference D x u v → u ≤ v + t → v ≤ u + t → nat_abs x ≤ D * t
  size {x} {u} {v} t p h l =
      size_is x (D * u) (D * v) (D * t) p.is (omega (arith, mul-le-mul_left D h)) (omega (arith, mul-le-mul_left D l))

  pub value : {x : ℤ} {u v : ℕ} (n : ℕ) → Difference D x u v → u ≡ n + v → x ≡ pos (D * n)
  value {x} {u} {v} n p q = value_is x (D * u) (D * v) (D * n) p.is (omega (arith, ap (λ (i : ℕ). D * i) q))

  pub level : {x : ℤ} {u v : ℕ} → Difference D x u v → u ≡ v → x ≡ pos 0
  level p q = value 0 p (omega arith) ∙ ap pos (mul-zero D)

  pub forward : {x : ℤ} {u v : ℕ} → Difference D x u v → v ≤ u → pos 0 ≤ℤ x
  forward {x} {u} {v} p h = forward_is x (D * u) (D * v) p.is (mul-le-mul_left D h)

  -- there is one such number
  pub unique : {x y : ℤ} {u v : ℕ} → Difference D x u v → Difference D y u v → x ≡ y
  unique {x} {y} {u} {v} p q = one_value x y (D * u) (D * v) p.is q.is

-- a natural number, for D = 1
pub whole_is : (n : ℕ) → Difference 1 (pos n) n 0
whole_is n = record { is = omega arith }

-- m times a number, for D = m; and the same where m is a factor of both
module _ {x : ℤ} {u v : ℕ} where
  pub times : (m : ℕ) → Difference 1 x u v → Difference m (pos m *ℤ x) u v
  times m p = let q : Is x u v = subst₂ (Is x) (one-mul u) (one-mul v) p.is in record { is = times_is m x u v q }

  pub factored : (m : ℕ) → Difference 1 x (m * u) (m * v) → Difference m x u v
  factored m p = record { is = subst₂ (Is x) (one-mul (m * u)) (one-mul (m * v)) p.is }
