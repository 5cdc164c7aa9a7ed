-- Document 01, "Moves to check by": the starred rows, column by column, and that the rules give them (`starred_moves`).
use Rattle.std.specs.Prelude.{List, [], ◌∷◌, map, ◌≡◌, ℕ, ◌*◌, ◌^◌, pos, Result, Ok, Err}
use Rattle.planner.specs.Quantities.{units_per_count as G}
use Rattle.planner.specs.Intervals.{p, q, r, s, N}
use Rattle.planner.specs.Outcome.{intervals_in, outcome_of}
use Rattle.planner.specs.declared.Move.{Move}
use Rattle.planner.specs.declared.Plan.{Plan}

-- The columns "p q r s", N, D and shortfall, or the refusal.
pub data Columns : Type 0 where
  refusal : (number : ℕ) → Columns
  columns : (p q r s N D short : ℕ) → Columns

abbrev pub shown : Result Plan ℕ → Columns
shown (Err number) = refusal number
shown (Ok x) = let t = intervals_in x in columns (p t) (q t) (r t) (s t) (N t) x.snap x.shortfall

-- A row: what is sent, and what must come out. "S = J = G unless said", and the start is 0.
abbrev pub row : (X V₀ A₀ : ℕ) → Columns → Move × Columns
row X V₀ A₀ result = (record { displacement = pos X; velocity = V₀; acceleration = A₀; jerk = G; snap = G; start = pos 0 }, result)

unfoldable pub starred : List (Move × Columns)
starred =
    row 8 (2 * G) G (columns 1 0 0 0 8 G 0)
    ∷ row 8 G G (columns 1 0 0 4 12 (2 ^ 39) 0)
    ∷ row 1 219902325556 G (columns 1 0 0 1 9 109951162777 6)
    ∷ row 1 219902325555 G (columns 1 0 0 2 10 91625968981 4)
    ∷ row 96 (1000 * G) (4 * G) (columns 1 2 0 0 16 G 0)
    ∷ row 96 (1000 * G) (2 * G) (columns 1 1 3 0 18 977343669134 24)
    ∷ row 4092 G G (columns 1 0 0 4088 4096 (2 ^ 39) 0)
    ∷ row 4093 G G (refusal 7)
    ∷ []

abbrev pub StarredClaim : Type 0
StarredClaim = map (λ (x : Move × Columns). shown (outcome_of x.0)) starred ≡ map (λ (x : Move × Columns). x.1) starred
