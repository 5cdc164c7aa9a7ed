-- Document 01, "Force rows": where the rows are exact, and that each is finite. The theorems are `u_is_half`, `rigid_row` and `rows_finite`;
-- `exact_example` shows that the hypotheses of exactness can be met.
use Rattle.std.specs.Prelude.{Bool, List, ◌≡◌, ℕ, ◌*◌, ◌^◌, ◌≤◌, ◌<◌, T, ℤ, pos, nat_abs, ◌+ℤ◌, ◌*ℤ◌, Float, get_or, Ok}
use Rattle.std.specs.Float.{binary64}
use Rattle.std.specs.Float.Ieee.{round}
use Rattle.std.specs.Float.Ieee.Exact.{HasValue}
use Rattle.std.specs.Float.Ieee.Scale.{finite}
use Rattle.planner.specs.Quantities.{signed}
use Rattle.planner.specs.Claims.{Accepted}
use Rattle.planner.specs.declared.Move.{Move}
use Rattle.motion.specs.ForceRows.Machine.{Machine, map_machine, machine_as_read}
use Rattle.motion.specs.ForceRows.Doubled.{Doubled, map_doubled}
use Rattle.motion.specs.ForceRows.Force.{Arithmetic, wholes, sum_in_u, u}
use Rattle.motion.specs.Tables.{row_numbers, FillsForce}

-- The float x is z/n and nothing is lost. Either zero is 0.
pub record IsFraction (x : Float) (z : ℤ) (n : ℕ) : Type 0 where
  pub negative : Bool
  pub size : ℕ
  pub whole_is : z ≡ signed negative size
  pub value : HasValue x negative size n

abbrev pub IsWhole : Float → ℤ → Type 0
IsWhole x z = IsFraction x z 1

abbrev pub IsHalf : Float → ℤ → Type 0
IsHalf x z = IsFraction x z 2

-- The float x is z/n rounded once. The sign of a zero is left open.
pub record IsRounded (x : Float) (z : ℤ) (n : ℕ) : Type 0 where
  pub negative : Bool
  pub size : ℕ
  pub whole_is : z ≡ signed negative size
  pub rounded : x ≡ round binary64 negative size n

-- "the six numbers are whole"
pub record IsWholeMachine (machine : Machine Float) (whole : Machine ℤ) : Type 0 where
  pub m1 : IsWhole machine.m1 whole.m1
  pub m2 : IsWhole machine.m2 whole.m2
  pub k1 : IsWhole machine.k1 whole.k1
  pub k2 : IsWhole machine.k2 whole.k2
  pub k12 : IsWhole machine.k12 whole.k12
  pub c : IsWhole machine.c whole.c

-- A formula as it is written, over whole numbers.
pub data Expression : Type 0 where
  constant : ℤ → Expression
  sum_of product_of : Expression → Expression → Expression

abbrev pub expressions : Arithmetic Expression
expressions = record { ◌⊞◌ = sum_of; ◌⊠◌ = product_of }

unfoldable pub in_wholes : Expression → ℤ
in_wholes (constant z) = z
in_wholes (sum_of s t) = in_wholes s +ℤ in_wholes t
in_wholes (product_of s t) = in_wholes s *ℤ in_wholes t

-- "every product and partial sum is at most 2^53 in size"
unfoldable pub Within53 : Expression → Type 0
Within53 (constant z) = Unit {0}
Within53 (sum_of s t) = Within53 s × Within53 t × (nat_abs (in_wholes s +ℤ in_wholes t) ≤ 2 ^ 53)
Within53 (product_of s t) = Within53 s × Within53 t × (nat_abs (in_wholes s *ℤ in_wholes t) ≤ 2 ^ 53)

-- q1 to q4 and the sum in u.
abbrev pub expression_of_u : Machine ℤ → Doubled ℤ → Expression
expression_of_u whole w = sum_in_u expressions (map_machine constant whole) (map_doubled constant w)

-- "If the six numbers are whole and every product and partial sum is at most 2^53 in size, then u is exactly half the whole-number sum."
abbrev pub HalfSumClaim : Type 0
HalfSumClaim =
    (m : Move) → Accepted m
    → (machine : Machine Float) (whole : Machine ℤ) → IsWholeMachine machine whole
    → (k : ℕ) → Within53 (expression_of_u whole (row_numbers m k))
    → IsHalf (u (machine_as_read machine) (row_numbers m) k) (sum_in_u wholes whole (row_numbers m k))

-- Hence row k of every table that is filled for a rigid drive is that half-sum divided by c, rounded once. Whatever an absent place counts
-- as, place k is there.
abbrev pub RigidClaim : Type 0
RigidClaim =
    (m : Move) (machine : Machine Float) (whole : Machine ℤ)
    → IsWholeMachine machine whole
    → whole.k12 ≡ pos 0
    → (old new : List Float) (rows : ℕ)
    → FillsForce m machine old (Ok rows) new
    → (k : ℕ) → k < rows → Within53 (expression_of_u whole (row_numbers m k))
    → (absent : Float) → IsRounded (get_or new k absent) (sum_in_u wholes whole (row_numbers m k)) (2 * nat_abs whole.c)

-- Every row of every filled table is a finite number: no NaN and no infinity reaches the drive.
abbrev pub FiniteClaim : Type 0
FiniteClaim =
    (m : Move) (machine : Machine Float) (old new : List Float) (rows : ℕ)
    → FillsForce m machine old (Ok rows) new
    → (k : ℕ) → k < rows
    → (absent : Float) → T (finite (get_or new k absent))
