-- Document 01, "The four intervals". The letters are the paper's. V₀, A₀, J₀ and S₀ are its bounds V, A, J and S as they were sent,
-- and J₁, A₁ and V₁ its J1, A1 and V1. `least W (λ n. 8 * S₀ * n ^ 4)` is its "least n with 8·S·n^4 ≥ W".
use Rattle.std.specs.Prelude.{ℕ, ◌+◌, ◌-◌, ◌*◌, ◌/◌, ◌^◌, min, max}
use Rattle.planner.specs.Least.{least}

pub record Intervals : Type 0 where
  pub a : ℕ
  pub b : ℕ
  pub c : ℕ
  pub e : ℕ

-- "a is the smallest of: .."
unfoldable pub interval_a : (W V₀ A₀ J₀ S₀ : ℕ) → ℕ
interval_a W V₀ A₀ J₀ S₀ =
    min (least W (λ n. 8 * S₀ * n ^ 4))
    (min (least V₀ (λ n. 2 * S₀ * n ^ 3))
    (min (least A₀ (λ n. S₀ * n ^ 2))
    (least J₀ (λ n. S₀ * n))))

-- "b is the smallest of: ..; but b is never below a"
unfoldable pub interval_b : (W V₀ A₀ J₁ a : ℕ) → ℕ
interval_b W V₀ A₀ J₁ a =
    max a
    (min (least W (λ n. 2 * J₁ * n * (a + n) ^ 2))
    (min (least V₀ (λ n. J₁ * n * (a + n)))
    (least A₀ (λ n. J₁ * n))))

-- "c is the smaller of: ..; but c is never below a+b"
unfoldable pub interval_c : (W V₀ A₁ a b : ℕ) → ℕ
interval_c W V₀ A₁ a b =
    max (a + b)
    (min (least W (λ n. A₁ * n * (a + b + n)))
    (least V₀ (λ n. A₁ * n)))

-- "e is the least n with V1·n ≥ W, but never below a+b+c"
unfoldable pub interval_e : (W V₁ a b c : ℕ) → ℕ
interval_e W V₁ a b c = max (a + b + c) (least W (λ n. V₁ * n))

-- In the paper's order, for a move with distance W: up to b.
module _ (W V₀ A₀ J₀ S₀ : ℕ) where
  unfoldable pub a : ℕ
  a = interval_a W V₀ A₀ J₀ S₀

  unfoldable pub J₁ : ℕ
  J₁ = min J₀ (S₀ * a)

  unfoldable pub b : ℕ
  b = interval_b W V₀ A₀ J₁ a

-- From b on. Both orders of plans follow these rules, the third (document 02, 3) with a = 0 and J₁ = J₀.
module _ (W V₀ A₀ J₁ a b : ℕ) where
  unfoldable pub A₁ : ℕ
  A₁ = min A₀ (J₁ * b)

  unfoldable pub c : ℕ
  c = interval_c W V₀ A₁ a b

  unfoldable pub V₁ : ℕ
  V₁ = min V₀ (A₁ * c)

  unfoldable pub e : ℕ
  e = interval_e W V₁ a b c

-- What a rule from b on gives for these numbers.
abbrev pub from_b : ((W V₀ A₀ J₁ a b : ℕ) → ℕ) → (W V₀ A₀ J₀ S₀ : ℕ) → ℕ
from_b rule W V₀ A₀ J₀ S₀ = rule W V₀ A₀ (J₁ W V₀ A₀ J₀ S₀) (a W V₀ A₀ J₀ S₀) (b W V₀ A₀ J₀ S₀)

abbrev pub intervals_by : (W V₀ A₀ J₀ S₀ : ℕ) → Intervals
intervals_by W V₀ A₀ J₀ S₀ =
    record { a = a W V₀ A₀ J₀ S₀; b = b W V₀ A₀ J₀ S₀; c = from_b c W V₀ A₀ J₀ S₀; e = from_b e W V₀ A₀ J₀ S₀ }

-- What follows from them, and the distance W.
module _ (t : Intervals) where
  -- The durations: the lengths of the profile's segments.
  abbrev pub p : ℕ
  p = t.a

  abbrev pub q : ℕ
  q = t.b - t.a

  abbrev pub r : ℕ
  r = t.c - t.a - t.b

  abbrev pub s : ℕ
  s = t.e - t.a - t.b - t.c

  -- The samples that the move takes.
  abbrev pub N : ℕ
  N = t.a + t.b + t.c + t.e

  abbrev pub P : ℕ
  P = t.a * t.b * t.c * t.e

  -- The size of the snap: "W divided by P, rounded down".
  abbrev pub D : (W : ℕ) → ℕ
  D W = W / P

  -- What the last position lacks of W.
  abbrev pub shortfall : (W : ℕ) → ℕ
  shortfall W = W - D W * P
