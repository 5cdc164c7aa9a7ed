-- Document 01, "The four intervals": "least n" is the least whole number from 1 up with the stated property. Each such property in
-- the paper is that n reaches a target: reach n ≥ target.
use Rattle.std.specs.Prelude.{true, false, ℕ, zero, suc, ◌≤◌, ◌<◌, leb}

-- The first number from n on that reaches the target, where it is among the next `count` numbers. `leb t x` is the test t ≤ x.
unfoldable pub first_from : (target : ℕ) (reach : ℕ → ℕ) (count n : ℕ) → ℕ
first_from target reach zero n = n
first_from target reach (suc count) n =
    elim (leb target (reach n)) [ true ↦ n | false ↦ first_from target reach count (suc n) ]

-- "Least n with reach n ≥ target". Where n ≤ reach n, it need look at `target` numbers only: the last of them reaches the target
-- (`LeastClaim`).
unfoldable pub least : (target : ℕ) (reach : ℕ → ℕ) → ℕ
least target reach = first_from target reach target 1

-- m is the least number from 1 up that reaches the target.
pub record IsLeast (target : ℕ) (reach : ℕ → ℕ) (m : ℕ) : Type 0 where
  pub from_one : 1 ≤ m
  pub reaches : target ≤ reach m
  pub none_before : (n : ℕ) → 1 ≤ n → n < m → reach n < target
