-- Document 01, "Force rows": q1 to q4 and the sum in u, over numbers of any kind; then u, the drive, and the force of row k in floats. `m`
-- is the machine as read, and `w` the doubled numbers of each row.
use Rattle.std.specs.Prelude.{false, cond, ℕ, zero, suc, ℤ, pos, negsuc, ◌+ℤ◌, ◌*ℤ◌, Float}
use Rattle.std.specs.Float.{fin, binary64}
use Rattle.std.specs.Float.Ieee.{add, sub, mul, div, eq}
use Rattle.motion.specs.ForceRows.Machine.{Machine, plus_zero}
use Rattle.motion.specs.ForceRows.Doubled.{Doubled, cast}

-- A kind of numbers, with its sums and products.
pub record Arithmetic (A : Type 0) : Type 0 where
  pub ◌⊞◌ : A → A → A
  pub ◌⊠◌ : A → A → A

-- "In floats, each operation rounded once".
abbrev pub floats : Arithmetic Float
floats = record { ◌⊞◌ = add binary64; ◌⊠◌ = mul binary64 }

abbrev pub wholes : Arithmetic ℤ
wholes = record { ◌⊞◌ = ◌+ℤ◌; ◌⊠◌ = ◌*ℤ◌ }

-- "brackets first, then products .., then sums .., each from the left": ⊠ binds tighter than ⊞, and both bind to the left.
module _ {A : Type 0} (arithmetic : Arithmetic A) where
  open arithmetic use {◌⊞◌, ◌⊠◌}

  infixl 6 ◌⊞◌
  infixl 7 ◌⊠◌
  module _ (m : Machine A) where
    open m use {m1, m2, k1, k2, k12, c}

    unfoldable pub q1 : A
    q1 = m1 ⊠ m2

    unfoldable pub q2 : A
    q2 = (m1 ⊞ m2) ⊠ k12 ⊞ m1 ⊠ k2 ⊞ m2 ⊠ k1

    unfoldable pub q3 : A
    q3 = (m1 ⊞ m2) ⊠ c ⊞ k1 ⊠ k2 ⊞ (k1 ⊞ k2) ⊠ k12

    unfoldable pub q4 : A
    q4 = (k1 ⊞ k2) ⊠ c

  -- q1·d2 + q2·j2 + q3·a2 + q4·v2, for any four coefficients.
  unfoldable pub weighted_sum : (q1 q2 q3 q4 : A) → Doubled A → A
  weighted_sum q1 q2 q3 q4 w = q1 ⊠ w.d2 ⊞ q2 ⊠ w.j2 ⊞ q3 ⊠ w.a2 ⊞ q4 ⊠ w.v2

  -- The sum in u, before it is halved.
  unfoldable pub sum_in_u : Machine A → Doubled A → A
  sum_in_u m = weighted_sum (q1 m) (q2 m) (q3 m) (q4 m)

-- 0.5, 1 and 2.
abbrev pub half : Float
half = fin false 1 (negsuc 0)

abbrev pub one : Float
one = fin false 1 (pos 0)

abbrev pub two : Float
two = fin false 1 (pos 1)

-- "u = (q1·d2 + q2·j2 + q3·a2 + q4·v2)·0.5"
unfoldable pub u : Machine Float → (ℕ → Doubled ℤ) → ℕ → Float
u m w k = mul binary64 (sum_in_u floats m (cast (w k))) half

-- "g = 2·k12+c, α = (2·k12−c)/g and β = 1/g"
module _ (k12 c : Float) where
  unfoldable pub g : Float
  g = add binary64 (mul binary64 two k12) c

  unfoldable pub alpha : Float
  alpha = div binary64 (sub binary64 (mul binary64 two k12) c) g

  unfoldable pub beta : Float
  beta = div binary64 one g

pub data DriveKind : Type 0 where
  rigid : (stiffness : Float) → DriveKind
  filtered : (alpha beta : Float) → DriveKind

-- "The drive is rigid if k12 is zero .. Otherwise it is filtered".
unfoldable pub drive_of : (k12 c : Float) → DriveKind
drive_of k12 c = cond (eq k12 plus_zero) (rigid c) (filtered (alpha k12 c) (beta k12 c))

-- "the force y is α·y' + β·(u+u')", with y' and u' of the row before.
unfoldable pub filtered_force : (alpha beta y' u u' : Float) → Float
filtered_force alpha beta y' u u' = add binary64 (mul binary64 alpha y') (mul binary64 beta (add binary64 u u'))

-- "the force is u/c", or the filtered one, where "y' and u' .. start at 0".
unfoldable pub force_of : DriveKind → (u : ℕ → Float) → ℕ → Float
force_of (rigid stiffness) u k = div binary64 (u k) stiffness
force_of (filtered alpha beta) u zero = filtered_force alpha beta plus_zero (u zero) plus_zero
force_of (filtered alpha beta) u (suc k) = filtered_force alpha beta (force_of (filtered alpha beta) u k) (u (suc k)) (u k)

unfoldable pub force_row : Machine Float → (ℕ → Doubled ℤ) → ℕ → Float
force_row m w = force_of (drive_of m.k12 m.c) (u m w)
