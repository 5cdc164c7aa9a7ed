-- The sizes of floats: what is rounded keeps their order, and the sign does not matter.
use mathlib.Core.Bool.{Bool, true, false, cond, ◌&&◌, ◌||◌}
use mathlib.Core.Path.{◌≡◌, sym, ◌∙◌}
use Prim.Native.Nat.{ℕ, zero, suc, ◌+◌, ◌*◌, ◌^◌, ◌≤◌, ◌<◌, zero-le}
use native.Mathlib.Nat.{le_refl, le_of_lt, le_of_eq, le_trans, zero-mul, mul-one, mul_assoc, lt_of_lt_of_le}
use native.Mathlib.Omega.{arith}
use lib.Dec.{T, leb, ltb, eqb, leb→le, ltb→lt, eqb→eq, lit<}
use lib.Pow.{pow-add, pow_mono, shl_lt}
use lib.IntN.{ℤ, pos}
use lib.Ieee.{Float, nan, inf, fin, binary64, up, down, odd, units, round, lt, eq, le}
use lib.Ieee.Fits.{and_l, and_r, round_is}
use lib.Ieee.Exact.{HasValue, round_exact}
use lib.Ieee.Order.{round_mono}
use lib.Ieee.Scale.{finite}
use lib.Ieee.Positive.{num, den, den_pos, through}
use Rattle.motion.specs.ForceRows.Machine.{plus_zero}

infix 4 ◌⪯◌
-- x is finite, and at most as large as y in size
pub record ◌⪯◌ (x y : Float) : Type 0 where
  pub is_finite : T (finite x)
  pub size_le : num x * den y ≤ num y * den x

⪯-trans : {x y z : Float} → x ⪯ y → y ⪯ z → x ⪯ z
⪯-trans {x} {y} {z} h k =
    record { is_finite = h.is_finite; size_le = through (num x) (num y) (num z) (den x) (den y) (den z) (den_pos y) h.size_le k.size_le }

-- two floats that are written out
pub ⪯-closed : (x y : Float) → T (finite x && leb (num x * den y) (num y * den x)) → x ⪯ y
⪯-closed x y h =
    let n = num x * den y in
    let m = num y * den x in
    record { is_finite = and_l (finite x) (leb n m) h; size_le = leb→le n m (and_r (finite x) (leb n m) h) }

-- the order of floats from zero on
equal : (a b : ℕ) (t : Bool) → T (eqb a b && t) → a ≡ b
equal a b t h = eqb→eq a b (and_l (eqb a b) t h)

-- only a zero has the sign of a negative number
pub minus_zero_lem : (m : ℕ) (e : ℤ) → T (le plus_zero (fin true m e)) → m * up e ≡ 0
unfolding le lt eq
minus_zero_lem m e h = sym (mul-one (m * up e)) ∙ sym (equal (0 * down e) (m * up e * 1) (eqb (0 * down e) 0) h) ∙ zero-mul (down e)

≤-of-le : (a b : ℕ) (p t : Bool) → (T p → a < b) → T (p || (eqb a b && t)) → a ≤ b
≤-of-le a b true t l h = le_of_lt (l tt)
≤-of-le a b false t l h = le_of_eq (equal a b t h)

pub ⪯-of-le : (x y : Float) → T (le plus_zero x) → T (le x y) → T (finite y) → x ⪯ y
unfolding le lt eq
⪯-of-le nan y z h f = absurd h
⪯-of-le (inf true) y z h f = absurd z
⪯-of-le (inf false) nan z h f = absurd f
⪯-of-le (inf false) (inf t) z h f = absurd f
⪯-of-le (inf false) (fin t n d) z h f = absurd h
⪯-of-le (fin s m e) nan z h f = absurd f
⪯-of-le (fin s m e) (inf t) z h f = absurd f
⪯-of-le (fin true m e) (fin t n d) z h f = record { is_finite = tt; size_le = rw (minus_zero_lem m e z, zero-mul (down d)) zero-le }
⪯-of-le (fin false m e) (fin true n d) z h f =
    let a = m * up e * down d in
    record { is_finite = tt; size_le = ≤-of-le a (n * up d * down e) false (eqb a 0) absurd h }
⪯-of-le (fin false m e) (fin false n d) z h f =
    let a = m * up e * down d in
    let b = n * up d * down e in
    record { is_finite = tt; size_le = ≤-of-le a b (ltb a b) true (ltb→lt a b) h }

-- the sign of what is rounded
signs_units : (s t : Bool) (q k : ℕ) → T (finite (units binary64 t q k)) → units binary64 s q k ⪯ units binary64 t q k
unfolding units odd
signs_units s t q k = by_test (ltb (q * 2 ^ k) (2 ^ 2098)) q
  where
    by_test :
        (b : Bool) (q : ℕ)
        → T (finite (cond b (odd 54 t q k 1074) (inf t)))
        → cond b (odd 54 s q k 1074) (inf s) ⪯ cond b (odd 54 t q k 1074) (inf t)
    by_test true zero h = record { is_finite = tt; size_le = le_refl _ }
    by_test true (suc q) h = record { is_finite = tt; size_le = le_refl _ }
    by_test false q h = absurd h

signs : (s t : Bool) (a b : ℕ) → T (finite (round binary64 t a b)) → round binary64 s a b ⪯ round binary64 t a b
signs s t a b = rw (round_is binary64 s a b, round_is binary64 t a b) (signs_units s t _ _)

-- of two fractions the larger is rounded to the larger
pub round-⪯ :
    (s t : Bool) (a b c d : ℕ)
    → 0 < b
    → 0 < d
    → a * d ≤ c * b
    → T (finite (round binary64 t c d))
    → round binary64 s a b ⪯ round binary64 t c d
unfolding round
round-⪯ s t a b c d B D l f =
    let above = signs false t c d f in
    let from_zero = round_mono binary64 0 1 a b (lit< tt) B (le_trans (le_of_eq (zero-mul b)) zero-le) in
    let below =
    ⪯-of-le (round binary64 false a b) (round binary64 false c d) from_zero (round_mono binary64 a b c d B D l) above.is_finite in
    ⪯-trans (signs s false a b below.is_finite) (⪯-trans below above)

-- the bound q·2^j
abbrev pub bound : ℕ → ℕ → Float
bound q j = fin false q (pos j)

-- A float holds this whole number.
abbrev pub representable : ℕ → ℕ → Bool
representable q j = ltb q (2 ^ 53) && leb j 900

⪯-bound : (x : Float) (q j : ℕ) → HasValue x false (q * 2 ^ j) 1 → x ⪯ bound q j
⪯-bound nan q j h = absurd h
⪯-bound (inf s) q j h = absurd h
⪯-bound (fin s m e) q j h = record { is_finite = tt; size_le = le_of_eq h.1 }

pub round_bound : (s : Bool) (a b q j : ℕ) → 0 < b → a ≤ q * 2 ^ j * b → T (representable q j) → round binary64 s a b ⪯ bound q j
round_bound s a b q j B l h =
    let small = ltb→lt q (2 ^ 53) (and_l (ltb q (2 ^ 53)) (leb j 900) h) in
    let near : 53 + (j + 1074) ≤ 2098 = omega (arith, leb→le j 900 (and_r (ltb q (2 ^ 53)) (leb j 900) h)) in
    let room : q * 2 ^ (j + 1074) < 2 ^ 2098 = lt_of_lt_of_le (shl_lt 53 (j + 1074) small) (pow_mono near) in
    let units : q * 2 ^ j * 2 ^ 1074 ≡ q * 2 ^ (j + 1074) * 1 = rw (pow-add 2 j 1074, mul-one, mul_assoc) in
    let n = q * 2 ^ j in
    let exact = ⪯-bound (round binary64 false n 1) q j (round_exact binary64 false n 1 q (j + 1074) (lit< tt) small room units) in
    ⪯-trans (round-⪯ s false a b n 1 B (lit< tt) (rw (mul-one a) l) exact.is_finite) exact
