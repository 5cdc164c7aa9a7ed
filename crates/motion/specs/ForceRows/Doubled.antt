-- Document 01, "Force rows": the "doubled whole numbers" of row k.
use Rattle.std.specs.Prelude.{cond, ℕ, zero, suc, leb, ℤ, pos, ◌+ℤ◌, ◌*ℤ◌, Float}
use Rattle.std.specs.Float.{binary64}
use Rattle.std.specs.Float.Ieee.{of_int}
use Rattle.motion.specs.Sampling.{Values}

-- d2, j2, a2 and v2, as numbers of any kind.
pub record Doubled (A : Type 0) : Type 0 where
  pub d2 : A
  pub j2 : A
  pub a2 : A
  pub v2 : A

abbrev pub map_doubled : {A B : Type 0} → (A → B) → Doubled A → Doubled B
map_doubled f w = record { d2 = f w.d2; j2 = f w.j2; a2 = f w.a2; v2 = f w.v2 }

-- The paper's f[k−n]: "values before sample 0 .. are 0".
unfoldable pub earlier : (ℕ → ℤ) → (n k : ℕ) → ℤ
earlier f zero k = f k
earlier f (suc n) zero = pos 0
earlier f (suc n) (suc k) = earlier f n k

-- ".. or after N are 0".
unfoldable pub up_to : (N : ℕ) → (ℕ → ℤ) → ℕ → ℤ
up_to N f k = cond (leb k N) (f k) (pos 0)

unfoldable pub doubled : (snap jerk acceleration velocity : ℕ → ℤ) (k : ℕ) → Doubled ℤ
doubled snap jerk acceleration velocity k =
    record {
      d2 = pos 2 *ℤ earlier snap 2 k;
      j2 = earlier jerk 1 k +ℤ earlier jerk 2 k;
      a2 = pos 2 *ℤ earlier acceleration 1 k;
      v2 = earlier velocity 0 k +ℤ earlier velocity 1 k;
    }

-- Of the values at each sample from 0 to N.
abbrev pub doubled_values : (N : ℕ) (values : ℕ → Values) → (k : ℕ) → Doubled ℤ
doubled_values N values =
    doubled (up_to N (λ k. (values k).snap)) (up_to N (λ k. (values k).jerk)) (up_to N (λ k. (values k).acceleration))
    (up_to N (λ k. (values k).velocity))

-- Cast to floats: a zero becomes +0.0.
unfoldable pub cast : Doubled ℤ → Doubled Float
cast = map_doubled (of_int binary64)
