-- Sums with the row of a reference table: they step as the sums alone.
use mathlib.Core.List.{List, [], ◌∷◌}
use mathlib.Core.Path.{◌≡◌, refl, sym, ap, subst}
use Prim.Native.Nat.{ℕ, zero, suc}
use lib.IntN.{ℤ}
use Rattle.motion.specs.declared.sums.Stretch.{Stretch}
use Rattle.motion.specs.declared.sums.Paired.{Paired}
use Rattle.motion.specs.Inner.Stretches.{after, CanRun, stretch_end}
use Rattle.motion.specs.Inner.PairedSums.{paired_step}

module _ {S : Type 0} (row : S → ℤ) (stepped : ℤ → S → S) where
  after_pair : (x : ℤ) (s : Paired S) (k : ℕ) → (after (paired_step row stepped x) s k).state ≡ after (stepped x) s.state k
  after_pair x s zero = refl
  after_pair x s (suc k) = ap (stepped x) (after_pair x s k)

  pub pair_can :
      (can : ℤ → S → Type 0) (xs : List Stretch) (s : Paired S)
      → CanRun can stepped xs s.state
      → CanRun (λ x s. can x s.state) (paired_step row stepped) xs s
  pair_can can [] s h = tt
  pair_can can (x ∷ xs) s h = (
    (λ k l. subst (can x.level) (sym (after_pair x.level s k)) (h.0 k l)),
    pair_can can xs (stretch_end (paired_step row stepped) x s) (subst (CanRun can stepped xs) (sym (after_pair x.level s x.samples)) h.1),
  )
