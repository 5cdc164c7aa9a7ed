-- The paper's segments are the switched ones: of e, c and b around a in the fourth order, and of e and c around b in the third. So what is
-- true of any list of widths is true of both profiles.
use mathlib.Core.Path.{◌≡◌, ap}
use mathlib.Core.List.{List, [], ◌∷◌}
use Prim.Native.Nat.{ℕ, ◌+◌, ◌-◌, ◌≤◌}
use native.Mathlib.Nat.{sub-add-eq}
use Rattle.profile.specs.Profile.{Segment, segments, seven_segments, switched_in, sum}
use Rattle.profile.specs.Profile as profile
use Rattle.profile.specs.Inner.Repeated.{sums}
use Rattle.profile.specs.Inner.Widths.{span, Spread, opposite, with_opposite_signs, switched}
use Rattle.profile.specs.Inner.Facts.{jerk_over}

pub fifteen : (a b c e : ℕ) → segments a (b - a) (c - a - b) (e - a - b - c) ≡ switched a (e ∷ c ∷ b ∷ [])
unfolding segments switched span with_opposite_signs opposite
fifteen a b c e = rw (sub-add-eq c a b, sub-add-eq e (a + b) c, sub-add-eq e a b)

pub seven : (b c e : ℕ) → seven_segments b c e ≡ switched b (e ∷ c ∷ [])
unfolding seven_segments switched span with_opposite_signs opposite
seven b c e = rw (sub-add-eq e b c)

pub fourth_spread : (a b c e : ℕ) → a ≤ b → a + b ≤ c → a + b + c ≤ e → Spread a (e ∷ c ∷ b ∷ [])
unfolding Spread span
fourth_spread a b c e ab abc abce = (abce, (abc, (ab, tt)))

pub third_spread : (b c e : ℕ) → b ≤ c → b + c ≤ e → Spread b (e ∷ c ∷ [])
unfolding Spread span
third_spread b c e bc bce = (bce, (bc, tt))

-- the jerk of either profile
pub fourth_jerk_lem : (a b c e D : ℕ) → profile.jerk a (b - a) (c - a - b) (e - a - b - c) D ≡ jerk_over a (b ∷ []) c e D
unfolding profile.jerk profile.snap jerk_over sums
fourth_jerk_lem a b c e D = ap (λ (xs : List Segment). sum (switched_in xs D)) (fifteen a b c e)

pub third_jerk_lem : (b c e D : ℕ) → switched_in (seven_segments b c e) D ≡ jerk_over b [] c e D
unfolding jerk_over sums
third_jerk_lem b c e D = ap (λ (xs : List Segment). switched_in xs D) (seven b c e)
