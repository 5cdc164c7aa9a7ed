-- The profile over a list of interval widths, the outermost first, around an innermost interval of a samples. The fourth order is
-- e ∷ c ∷ b ∷ [] around a, and the third e ∷ c ∷ [] around b. No rule of the paper stands here; the laws are stated over it.
use Rattle.std.specs.Prelude.{cond, List, [], ◌∷◌, ◌++◌, ℕ, zero, suc, ◌+◌, ◌-◌, ◌*◌, ◌≤◌, min, ltb, ℤ, pos, neg_ℤ}
use Rattle.profile.specs.Profile.{Sign, positive, none, negative, Segment, segment, level}

-- The value of size D in a segment of this sign.
abbrev pub switched_with : Sign → ℕ → ℤ
switched_with sign D = level sign (pos D) (neg_ℤ (pos D))

-- The samples that all intervals take: the paper's N.
unfoldable pub span : ℕ → List ℕ → ℕ
span a [] = a
span a (w ∷ ws) = span a ws + w

-- The product of all intervals: the paper's P.
unfoldable pub product : ℕ → List ℕ → ℕ
product a [] = a
product a (w ∷ ws) = product a ws * w

-- Each width is at least the sum of those before it, from the innermost out.
unfoldable pub Spread : ℕ → List ℕ → Type 0
Spread a [] = Unit {0}
Spread a (w ∷ ws) = (span a ws ≤ w) × Spread a ws

unfoldable pub opposite : Sign → Sign
opposite positive = negative
opposite none = none
opposite negative = positive

unfoldable pub with_opposite_signs : List Segment → List Segment
with_opposite_signs [] = []
with_opposite_signs (segment n sign ∷ rest) = segment n (opposite sign) ∷ with_opposite_signs rest

-- The segments of the inner intervals, a pause, and the same with the signs changed, which start w samples after the first.
unfoldable pub switched : ℕ → List ℕ → List Segment
switched a [] = segment a positive ∷ []
switched a (w ∷ ws) = switched a ws ++ (segment (w - span a ws) none ∷ with_opposite_signs (switched a ws))

-- The switched value at k by the widths: u in segments with +, v in those with −, and they change places from w on.
unfoldable pub switched_by : ℕ → List ℕ → (u v : ℤ) → ℕ → ℤ
switched_by a [] u v k = cond (ltb k a) u (pos 0)
switched_by a (w ∷ ws) u v k = cond (ltb k w) (switched_by a ws u v k) (switched_by a ws v u (k - w))

-- The sum of the first k values of f.
unfoldable pub total : (ℕ → ℕ) → ℕ → ℕ
total f zero = 0
total f (suc k) = total f k + f k

-- The position of the profile at sample k for size 1: it rises from 0 to the product of all intervals. Each width w turns
-- it into its sum over the last w samples.
unfoldable pub ramp : ℕ → List ℕ → ℕ → ℕ
ramp a [] k = min k a
ramp a (w ∷ ws) k = total (ramp a ws) k - total (ramp a ws) (k - w)
