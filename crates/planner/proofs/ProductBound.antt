-- "With N ≤ 4,096, P is at most 2^39": with u = a+b and v = u+c, 4ab ≤ u², 4uc ≤ v², 2u ≤ v and 4ve ≤ N², so 32P ≤ v²·ve ≤ 2^44.
use Prim.Native.Nat.{ℕ, ◌+◌, ◌*◌, ◌^◌, ◌≤◌}
use native.Mathlib.Nat.{mul-le-mul, mul-le-mul_left, mul-le-mul_right, mul_assoc, mul_comm, mul-add, add-mul, mul_left_comm, le_dest}
use native.Mathlib.Omega.{arith}
use Rattle.planner.specs.Intervals.{Intervals, N, P}
use Rattle.planner.specs.Inner.Facts.{Ordered}

square : (x d : ℕ) → 4 * (x * (x + d)) ≤ (x + (x + d)) * (x + (x + d))
square x d = simp (mul-add, add-mul) (omega (arith, mul_comm x d))

pub four_products : {x y : ℕ} → x ≤ y → 4 * (x * y) ≤ (x + y) * (x + y)
four_products {x} h = let (d, q) = le_dest h in rw (← q) (square x d)

-- 32 times the first three of four numbers
module _ (a b c : ℕ) (ab : a ≤ b) (uc : a + b ≤ c) where
  abbrev u : ℕ
  u = a + b

  abbrev v : ℕ
  v = a + b + c

  sixteen : 16 * (a * b * c) ≤ v * v * u
  sixteen =
      let first : 4 * (a * b) * c ≤ u * u * c = mul-le-mul_right c (four_products ab) in
      let second : 4 * (u * c) * u ≤ v * v * u = mul-le-mul_right u (four_products uc) in
      omega (arith, first, second, mul_assoc 4 (a * b) c, mul_assoc 4 (u * c) u, mul_assoc u u c, mul_comm u (u * c))

  thirty_two : 32 * (a * b * c) ≤ v * v * v
  thirty_two =
      let half : 2 * u ≤ v = omega arith in
      let third : v * v * (2 * u) ≤ v * v * v = mul-le-mul_left (v * v) half in
      omega (arith, sixteen, third, mul_left_comm (v * v) 2 u)

pub product_bound : {t : Intervals} → Ordered t → N t ≤ 4096 → P t ≤ 2 ^ 39
product_bound {t} o h =
    let w : ℕ = t.a + t.b + t.c in
    let half : w ≤ 2048 = omega (arith, o.abc_e) in
    let squares : w * w ≤ 2048 * 2048 = mul-le-mul half half in
    let last : 4 * (w * t.e) ≤ (w + t.e) * (w + t.e) = four_products o.abc_e in
    let all : (w + t.e) * (w + t.e) ≤ 4096 * 4096 = mul-le-mul h h in
    let ends : w * t.e ≤ 2 ^ 22 = omega arith in
    let product : w * w * (w * t.e) ≤ 2048 * 2048 * 2 ^ 22 = mul-le-mul squares ends in
    let cubes : 32 * (t.a * t.b * t.c) * t.e ≤ w * w * w * t.e =
    mul-le-mul_right t.e (thirty_two t.a t.b t.c o.a_b o.ab_c) in
    omega (arith, cubes, product, mul_assoc 32 (t.a * t.b * t.c) t.e, mul_assoc (w * w) w t.e)
