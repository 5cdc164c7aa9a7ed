-- Document 01, "The profile": the segments (the paper's stretches) in which the snap holds, the sums from rest, and the five values at
-- sample k, for the durations p, q, r, s and a snap of size D. The exact profile times P is the same with W for D. And the segments of
-- document 02, 3, in which the jerk is the switched value.
use Rattle.std.specs.Prelude.{cond, List, [], ◌∷◌, ℕ, zero, suc, ◌-◌, ltb, ℤ, pos, neg_ℤ, ◌+ℤ◌}

-- The paper's + 0 −.
pub data Sign : Type 0 where
  positive : Sign
  none : Sign
  negative : Sign

-- So many samples with one sign.
pub data Segment : Type 0 where
  segment : (samples : ℕ) (sign : Sign) → Segment

-- "fifteen stretches of p, q, p, r, p, q, p, s, p, q, p, r, p, q, p samples with signs + 0 − 0 − 0 + 0 − 0 + 0 + 0 −"
unfoldable pub segments : (p q r s : ℕ) → List Segment
segments p q r s =
    segment p positive
    ∷ segment q none
    ∷ segment p negative
    ∷ segment r none
    ∷ segment p negative
    ∷ segment q none
    ∷ segment p positive
    ∷ segment s none
    ∷ segment p negative
    ∷ segment q none
    ∷ segment p positive
    ∷ segment r none
    ∷ segment p positive
    ∷ segment q none
    ∷ segment p negative
    ∷ []

-- "seven stretches of b, c−b, b, e−b−c, b, c−b, b samples with signs + 0 − 0 − 0 +".
unfoldable pub seven_segments : (b c e : ℕ) → List Segment
seven_segments b c e =
    segment b positive
    ∷ segment (c - b) none
    ∷ segment b negative
    ∷ segment (e - b - c) none
    ∷ segment b negative
    ∷ segment (c - b) none
    ∷ segment b positive
    ∷ []

-- u in segments with +, v in those with −.
unfoldable pub level : Sign → (u v : ℤ) → ℤ
level positive u v = u
level none u v = pos 0
level negative u v = v

-- The switched value, "of size D", at sample k: that of the segment that k lies in. It is 0 from the end of the last segment on.
unfoldable pub switched_in : List Segment → (D k : ℕ) → ℤ
switched_in [] D k = pos 0
switched_in (segment n sign ∷ rest) D k = cond (ltb k n) (level sign (pos D) (neg_ℤ (pos D))) (switched_in rest D (k - n))

-- Sums from rest: 0 at sample 0; at sample k+1 its value at k plus the next higher derivative f at k.
unfoldable pub sum : (ℕ → ℤ) → ℕ → ℤ
sum f zero = pos 0
sum f (suc k) = sum f k +ℤ f k

module _ (p q r s D : ℕ) where
  unfoldable pub snap : ℕ → ℤ
  snap = switched_in (segments p q r s) D

  unfoldable pub jerk : ℕ → ℤ
  jerk = sum snap

  unfoldable pub acceleration : ℕ → ℤ
  acceleration = sum jerk

  unfoldable pub velocity : ℕ → ℤ
  velocity = sum acceleration

  unfoldable pub position : ℕ → ℤ
  position = sum velocity
