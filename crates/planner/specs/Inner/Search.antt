-- The search. All ten searches have one form: k·n·(u+n)^d is to reach t, with k a bound, t the target, and u the intervals before.
use Rattle.std.specs.Prelude.{ℕ, ◌+◌, ◌*◌, ◌^◌, ◌≤◌, ◌<◌}

abbrev pub growth : (u d n : ℕ) → ℕ
growth u d n = n * (u + n) ^ d

abbrev pub scaled : (k u d n : ℕ) → ℕ
scaled k u d n = k * growth u d n

-- r is the least number from lo on that reaches t, or hi where none below hi does.
pub record LeastWithin (t : ℕ) (reach : ℕ → ℕ) (lo hi r : ℕ) : Type 0 where
  pub low : lo ≤ r
  pub high : r ≤ hi
  pub before : (n : ℕ) → lo ≤ n → n < r → reach n < t
  pub here : r < hi → t ≤ reach r

-- The arguments of a search: small enough that no product leaves 64 bits. The span ends at four times the cap at most.
pub record SearchArgs (cap u d lo hi : ℕ) : Type 0 where
  pub offset : u ≤ 2 * cap
  pub degree : d ≤ 3
  pub ordered : lo ≤ hi
  pub top : hi ≤ 4 * cap

-- The arguments of one of the ten: k·n·(u+n)^d is to reach t.
pub record ReachArgs (cap k u d t lo hi : ℕ) : Type 0 where
  pub bound : 1 ≤ k
  pub bound_top : k ≤ 2 ^ 53
  pub target : t ≤ 2 ^ 60
  pub from_one : 1 ≤ lo
  pub span : SearchArgs cap u d lo hi
