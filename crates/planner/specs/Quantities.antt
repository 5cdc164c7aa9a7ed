-- Document 01, "Quantities", and the direction of a move.
use Rattle.std.specs.Prelude.{Bool, cond, ℕ, ◌*◌, ◌^◌, ℤ, pos, negsuc, nat_abs, neg_ℤ}

-- The sub-count units in one count: the paper's G, in grains.
abbrev pub units_per_count : ℕ
units_per_count = 2 ^ 40

-- The paper's W: G times the size of the displacement X, in sub-count units.
unfoldable pub distance : ℤ → ℕ
distance X = units_per_count * nat_abs X

-- "The profile": "For a negative X every value changes sign."
unfoldable pub along : (X value : ℤ) → ℤ
along (pos n) value = value
along (negsuc n) value = neg_ℤ value

-- The number of this sign and size.
unfoldable pub signed : (negative : Bool) (size : ℕ) → ℤ
signed negative size = cond negative (neg_ℤ (pos size)) (pos size)
