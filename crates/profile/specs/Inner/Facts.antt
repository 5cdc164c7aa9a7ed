-- What the laws say of a profile from its jerk on, whichever its order: over two widths e and c around the inner ones. The fourth order has
-- b ∷ [] around a for them, and its jerk is the first sum; the third has none around b, and its jerk is the switched value itself.
use Rattle.std.specs.Prelude.{List, [], ◌∷◌, ◌≡◌, ℕ, ◌*◌, ◌≤◌, ℤ, pos, nat_abs, length, ◌≤ℤ◌}
use Rattle.profile.specs.Profile.{switched_in, sum}
use Rattle.profile.specs.Inner.Repeated.{sums}
use Rattle.profile.specs.Inner.Widths.{product, switched, ramp}

-- The size of the jerk for D = 1.
unfoldable pub jerk_unit : ℕ → List ℕ → ℕ
jerk_unit a [] = 1
jerk_unit a (w ∷ inner) = product a inner

module _ (a : ℕ) (inner : List ℕ) (c e D : ℕ) where
  unfoldable pub jerk_over : ℕ → ℤ
  jerk_over = sums (length inner) (switched_in (switched a (e ∷ c ∷ inner)) D)

  -- At every sample, also after the last.
  pub record At (k : ℕ) : Type 0 where
    pub jerk_size : nat_abs (jerk_over k) ≤ D * jerk_unit a inner
    pub acceleration_size : nat_abs (sum jerk_over k) ≤ D * product a inner
    pub velocity_size : nat_abs (sum (sum jerk_over) k) ≤ D * product a (c ∷ inner)
    pub forward : pos 0 ≤ℤ sum (sum jerk_over) k
    pub position_is : sum (sum (sum jerk_over)) k ≡ pos (D * ramp a (e ∷ c ∷ inner) k)
    pub position_top : ramp a (e ∷ c ∷ inner) k ≤ product a (e ∷ c ∷ inner)

  -- From the last sample on.
  pub record AtEnd (k : ℕ) : Type 0 where
    pub jerk_rests : jerk_over k ≡ pos 0
    pub acceleration_rests : sum jerk_over k ≡ pos 0
    pub velocity_rests : sum (sum jerk_over) k ≡ pos 0
    pub position_full : sum (sum (sum jerk_over)) k ≡ pos (D * product a (e ∷ c ∷ inner))
