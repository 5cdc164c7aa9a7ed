-- Each further sum takes one more width, the innermost, into the ramp.
use mathlib.Core.Path.{◌≡◌, refl, sym, subst, ◌∙◌}
use mathlib.Core.List.{List, [], ◌∷◌, ◌++◌, append-nil, append_assoc}
use Prim.Native.Nat.{ℕ, zero, suc, ◌+◌, ◌-◌}
use native.Mathlib.Nat.{sub-le}
use native.Mathlib.Omega.{arith}
use lib.IntN.{ℤ}
use lib.ListN.{length}
use Rattle.profile.specs.Profile.{sum}
use Rattle.profile.specs.Inner.Repeated.{sums}
use Rattle.profile.specs.Inner.Widths.{total, ramp}
use Rattle.profile.proofs.Differences.{Difference, none_is, plus, same}
use Rattle.profile.proofs.Totals.{total_rising, total_of_none}
use Rattle.profile.proofs.RampLaws.{ramp_start}
use Rattle.profile.proofs.Delays.{delay, delays, delays_summed, delays_same}
use Rattle.profile.proofs.FirstSum.{DelayedRamp}

pub sum_is :
    (D : ℕ) (x : ℕ → ℤ) (f g : ℕ → ℕ)
    → ((i : ℕ) → Difference D (x i) (f i) (g i))
    → (k : ℕ)
    → Difference D (sum x k) (total f k) (total g k)
unfolding sum total
sum_is D x f g d zero = none_is
sum_is D x f g d (suc k) = plus (sum_is D x f g d k) (d k)

module _ (D a : ℕ) (outer : List ℕ) (w : ℕ) (inner : List ℕ) where
  abbrev f : ℕ → ℕ
  f = ramp a inner

  abbrev g : ℕ → ℕ
  g = λ _. 0

  -- the sums differ by the next ramp
  next_ramp : (i : ℕ) → delay w (total f) (total g) i + 0 ≡ delay w (total g) (total f) i + ramp a (w ∷ inner) i
  unfolding ramp
  next_ramp i = omega (arith, total_rising f (i - w) i (sub-le i w), total_of_none i, total_of_none (i - w))

  next_sum : (x : ℕ → ℤ) → DelayedRamp D a (outer ++ (w ∷ [])) inner x → DelayedRamp D a outer (w ∷ inner) (sum x)
  next_sum x t k =
      let both = delays_same outer (delay w (total f) (total g)) (delay w (total g) (total f)) (ramp a (w ∷ inner)) g next_ramp k in
      let start = ramp_start a inner in
      same (sum_is D x (delays (outer ++ (w ∷ [])) f g) (delays (outer ++ (w ∷ [])) g f) t k)
      (omega (arith, both, delays_summed outer w f g start refl k, delays_summed outer w g f refl start k))

pub later_sums :
    (D a : ℕ) (inner outer ws : List ℕ)
    → ws ≡ outer ++ inner
    → (x : ℕ → ℤ)
    → DelayedRamp D a ws [] (sum x)
    → DelayedRamp D a outer inner (sums (suc (length inner)) x)
unfolding sums
later_sums D a [] outer ws e x t = subst (λ (vs : List ℕ). DelayedRamp D a vs [] (sum x)) (e ∙ append-nil outer) t
later_sums D a (w ∷ inner) outer ws e x t =
    next_sum D a outer w inner (sums (suc (length inner)) x)
    (later_sums D a inner (outer ++ (w ∷ [])) ws (e ∙ sym (append_assoc outer (w ∷ []) inner)) x t)
