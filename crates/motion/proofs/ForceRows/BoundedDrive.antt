-- The drive of a machine in range: α is at most 1 in size, and β at most 2^20.
use mathlib.Core.Bool.{true, false, true≢false}
use mathlib.Core.Path.{◌≡◌, refl, sym, ◌∙◌}
use Prim.Native.Nat.{ℕ, ◌+◌, ◌*◌, ◌^◌, ◌≤◌, ◌<◌}
use native.Mathlib.Nat.{zero-mul, mul-one, mul-pos, mul-le-mul_right}
use native.Mathlib.Omega.{arith}
use lib.Dec.{T, lit<}
use lib.IntN.{ℤ, pos}
use lib.Ieee.{Float, nan, inf, fin, binary64, up, down, round, sum, neg, add, sub, mul, eq, le}
use lib.Ieee.Exact.{HasValue}
use lib.Ieee.Scale.{finite, round_val, round_under}
use lib.Ieee.Positive.{num, den, den_pos}
use Rattle.planner.specs.Quantities.{signed}
use Rattle.motion.specs.ForceRows.Machine.{plus_zero, least_stiffness}
use Rattle.motion.specs.ForceRows.Force.{one, two, g, alpha, beta}
use Rattle.motion.specs.ForceRows.Claims.{IsWhole}
use Rattle.motion.proofs.ForceRows.WholeFloats.{zero_equals}
use Rattle.motion.proofs.ForceRows.RoundedLaws.{opened_sum, opened_product}
use Rattle.motion.proofs.ForceRows.SizeLaws.{◌⪯◌, minus_zero_lem, ⪯-closed, round-⪯, bound}
use Rattle.motion.proofs.ForceRows.BoundedFloats.{products, RoundsAtMost, sum_size, sum_bound, product_bound, quotient_bound, ratio_bound}

-- a finite float with the sign of a positive number
pub data Plus : Float → Type 0 where
  plus : {m : ℕ} {e : ℤ} → Plus (fin false m e)

pub plus_of_value : (x : Float) (a c : ℕ) → HasValue x false a c → Plus x
plus_of_value nan a c h = absurd h
plus_of_value (inf s) a c h = absurd h
plus_of_value (fin s m e) a c h = rw h.0 plus

pub plus_of_le : (x : Float) → T (finite x) → T (le plus_zero x) → eq x plus_zero ≡ false → Plus x
unfolding signed
plus_of_le nan f z h = absurd f
plus_of_le (inf s) f z h = absurd f
plus_of_le (fin false m e) f z h = plus
plus_of_le (fin true m e) f z h =
    let v : m * up e * 1 ≡ 0 * down e = mul-one (m * up e) ∙ minus_zero_lem m e z ∙ sym (zero-mul (down e)) in
    let zero : IsWhole (fin true m e) (pos 0) = record { negative = true; size = 0; whole_is = refl; value = (refl, v) } in
    absurd (true≢false (sym (zero_equals zero) ∙ h))

twice_plus : {x : Float} → Plus x → T (finite (mul binary64 two x)) → Plus (mul binary64 two x)
twice_plus (plus {m} {e}) f =
    let a = 2 * (m * up e) in
    let d = 1 * down e in
    let is = opened_product false false 1 m (pos 1) e in
    rw is (plus_of_value (round binary64 false a d) _ _ (round_val binary64 a d (round_under binary64 a d (rw is at f))))

-- of two such numbers the sum is larger than the difference
abbrev numerator : (x y : Float) → ℕ
numerator x y = num x * den y + num y * den x

sum_is : {x y : Float} → Plus x → Plus y → add binary64 x y ≡ round binary64 false (numerator x y) (den x * den y)
unfolding sum
sum_is (plus {m} {e}) (plus {m = n} {e = d}) = opened_sum false false m n e d

difference_size : {x y : Float} → Plus x → Plus y → RoundsAtMost (sub binary64 x y) (numerator x y) (den x * den y)
unfolding sub neg
difference_size (plus {m} {e}) (plus {m = n} {e = d}) = sum_size (fin false m e) (fin true n d) tt tt

scaled : (v b u w : ℕ) → 1 * v ≤ b * w → u * v ≤ b * u * w
scaled v b u w h = simp products (simp products at (mul-le-mul_right u h))

module _ {x y : Float} (p : Plus x) (q : Plus y) (f : T (finite (add binary64 x y))) where
  abbrev n : ℕ
  n = numerator x y

  abbrev d : ℕ
  d = den x * den y

  d_pos : 0 < d
  d_pos = mul-pos (den_pos x) (den_pos y)

  difference-⪯ : sub binary64 x y ⪯ add binary64 x y
  difference-⪯ =
      let h = difference_size p q in
      rw (h.rounded, sum_is p q) (round-⪯ h.negative false h.size d n d d_pos d_pos (mul-le-mul_right d h.size_le)
      (rw (sum_is p q) at f))

  stiff_sum : least_stiffness ⪯ y → least_stiffness ⪯ add binary64 x y
  unfolding round
  stiff_sum h =
      let l = scaled (den y) (num y) (den x) (2 ^ 20) h.size_le in
      rw (sum_is p q) (round-⪯ false false 1 (2 ^ 20) n d (lit< tt) d_pos (omega arith) (rw (sum_is p q) at f))

module _ {k12 c : Float} (damping : k12 ⪯ bound 1 20) (stiffness : c ⪯ bound 1 20) (stiff : least_stiffness ⪯ c) (p : Plus k12) (q : Plus c) where
  twice : mul binary64 two k12 ⪯ bound 2 20
  twice = product_bound (⪯-closed two (bound 2 0) tt) damping tt

  g_bound : g k12 c ⪯ bound 3 20
  unfolding g
  g_bound = sum_bound twice stiffness tt

  stiff_g : least_stiffness ⪯ g k12 c
  unfolding g
  stiff_g = stiff_sum (twice_plus p twice.is_finite) q g_bound.is_finite stiff

  pub alpha_bound : alpha k12 c ⪯ bound 1 0
  unfolding alpha g
  alpha_bound = ratio_bound stiff_g g_bound.is_finite (difference-⪯ (twice_plus p twice.is_finite) q g_bound.is_finite)

  pub beta_bound : beta k12 c ⪯ bound 1 20
  unfolding beta
  beta_bound = quotient_bound stiff_g g_bound.is_finite (⪯-closed one (bound 1 0) tt) tt
