-- The laws of a profile from its jerk on, for every list of widths.
use mathlib.Core.List.{List, [], ◌∷◌}
use mathlib.Core.Path.{◌≡◌, ap, ◌∙◌}
use Prim.Native.Nat.{ℕ, ◌*◌, ◌≤◌}
use native.Mathlib.Nat.{mul-one}
use lib.IntN.{pos, nat_abs}
use Rattle.profile.specs.Inner.Repeated.{sums}
use Rattle.profile.specs.Inner.Widths.{span, Spread, switched}
use Rattle.profile.specs.Inner.Facts.{jerk_unit, jerk_over, At, AtEnd}
use Rattle.profile.proofs.RampLaws.{ramp_top, ramp_full}
use Rattle.profile.proofs.ValueLaws.{value_size}
use Rattle.profile.proofs.SwitchedLaws.{value_rests}
use Rattle.profile.proofs.WidthLaws.{sum_size, sum_rests, sum_forward, sum_ramp}

jerk_size : (a : ℕ) (inner : List ℕ) (c e : ℕ) → Spread a (e ∷ c ∷ inner) → (D k : ℕ) → nat_abs (jerk_over a inner c e D k) ≤ D * jerk_unit a inner
unfolding jerk_over jerk_unit sums
jerk_size a [] c e s D k = rw (mul-one D) (value_size (switched a (e ∷ c ∷ [])) D k)
jerk_size a (w ∷ inner) c e s D k = sum_size a (e ∷ c ∷ w ∷ []) inner s D k

jerk_rests :
    (a : ℕ) (inner : List ℕ) (c e : ℕ) → Spread a (e ∷ c ∷ inner) → (D k : ℕ) → span a (e ∷ c ∷ inner) ≤ k → jerk_over a inner c e D k ≡ pos 0
unfolding jerk_over sums
jerk_rests a [] c e s D k h = value_rests a (e ∷ c ∷ []) s D k h
jerk_rests a (w ∷ inner) c e s D k h = sum_rests a e (c ∷ w ∷ []) inner s D k h

module _ (a : ℕ) (inner : List ℕ) (c e : ℕ) (s : Spread a (e ∷ c ∷ inner)) (D k : ℕ) where
  pub any_order : At a inner c e D k
  unfolding jerk_over sums
  any_order =
      record {
        jerk_size = jerk_size a inner c e s D k;
        acceleration_size = sum_size a (e ∷ c ∷ []) inner s D k;
        velocity_size = sum_size a (e ∷ []) (c ∷ inner) s D k;
        forward = sum_forward a e (c ∷ inner) s D k;
        position_is = sum_ramp a (e ∷ c ∷ inner) s D k;
        position_top = ramp_top a (e ∷ c ∷ inner) k;
      }

  pub any_order_end : span a (e ∷ c ∷ inner) ≤ k → AtEnd a inner c e D k
  unfolding jerk_over sums
  any_order_end h =
      record {
        jerk_rests = jerk_rests a inner c e s D k h;
        acceleration_rests = sum_rests a e (c ∷ []) inner s D k h;
        velocity_rests = sum_rests a e [] (c ∷ inner) s D k h;
        position_full = any_order.position_is ∙ ap (λ (n : ℕ). pos (D * n)) (ramp_full a (e ∷ c ∷ inner) k h);
      }
