-- Pairs: the sums of the pairs of a value are the pairs of its sums.
use mathlib.Core.Path.{◌≡◌, refl, ap, ◌∙◌}
use Prim.Native.Nat.{ℕ, zero, suc}
use lib.IntN.{ℤ, ◌+ℤ◌}
use Rattle.profile.specs.Profile.{sum}
use Rattle.profile.specs.Inner.Repeated.{sums}
use Rattle.profile.proofs.SumLaws.{sum_of_equal}
use Rattle.motion.specs.ForceRows.Doubled.{earlier}
use Rattle.motion.proofs.IntegerLaws.{exchanged}

-- a value plus the one before it
abbrev pub pairs : (ℕ → ℤ) → ℕ → ℤ
pairs f k = f k +ℤ earlier f 1 k

module _ (f : ℕ → ℤ) where
  -- a sum is what it was one sample earlier, and the value there
  earlier_sum : (k : ℕ) → earlier (sum f) 1 k +ℤ earlier f 1 k ≡ sum f k
  unfolding sum earlier
  earlier_sum zero = refl
  earlier_sum (suc k) = refl

  sum_pairs : (k : ℕ) → sum (pairs f) k ≡ pairs (sum f) k
  unfolding sum earlier
  sum_pairs zero = refl
  sum_pairs (suc k) =
      ap (λ (x : ℤ). x +ℤ pairs f k) (sum_pairs k)
      ∙ exchanged (sum f k) (earlier (sum f) 1 k) (f k) (earlier f 1 k)
      ∙ ap (λ (x : ℤ). (sum f k +ℤ f k) +ℤ x) (earlier_sum k)

pub sums_pairs : (n : ℕ) (f : ℕ → ℤ) (k : ℕ) → sums n (pairs f) k ≡ pairs (sums n f) k
unfolding sums
sums_pairs zero f k = refl
sums_pairs (suc n) f k = sum_of_equal (sums n (pairs f)) (pairs (sums n f)) (sums_pairs n f) k ∙ sum_pairs (sums n f) k
