-- The numbers of the closed form: falling factorials, and their differences over a list of widths. No rule of the paper stands here; that
-- the sums from rest come to them is a law.
use Rattle.std.specs.Prelude.{List, [], ◌∷◌, ℕ, zero, suc, ◌-◌, ◌*◌, ℤ, pos, ◌-ℤ◌}

-- k(k−1)..(k−n+1), n factors; 0 where k is below n.
unfoldable pub falling : ℕ → ℕ → ℕ
falling zero k = 1
falling (suc n) k = falling n k * (k - n)

unfoldable pub factorial : ℕ → ℕ
factorial zero = 1
factorial (suc n) = suc n * factorial n

-- f, less the same w samples later, for each width w. It is for an f that is 0 at 0: then k - w is right before w too.
unfoldable pub differences : List ℕ → (f : ℕ → ℕ) → ℕ → ℤ
differences [] f k = pos (f k)
differences (w ∷ ws) f k = differences ws f k -ℤ differences ws f (k - w)
