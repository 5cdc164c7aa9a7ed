-- Laws of `least`: where n ≤ reach n, it gives the least number that reaches the target.
use mathlib.Core.Path.{◌≡◌, refl, sym, subst, ◌∙◌}
use mathlib.Core.Bool.{Bool, true, false}
use mathlib.Core.Logic.{⊎_elim}
use Prim.Native.Nat.{ℕ, zero, suc, ◌+◌, ◌≤◌, ◌<◌}
use native.Mathlib.Nat.{le_refl, add-suc, suc-add, zero-add, eq-or-lt_of_le}
use native.Mathlib.Omega.{arith}
use lib.Dec.{leb}
use borrow.Author.Tests.{leb-true, leb-false}
use Rattle.planner.specs.Least.{first_from, least}
use Rattle.planner.specs.Claims.{LeastClaim}

module _ (t : ℕ) (reach : ℕ → ℕ) where
  -- m is the first number from n on that reaches t
  record FirstFrom (n m : ℕ) : Type 0 where
    low : n ≤ m
    reaches : t ≤ reach m
    before : (k : ℕ) → n ≤ k → k < m → reach k < t

  first_here : (n : ℕ) → t ≤ reach n → FirstFrom n n
  first_here n h = record { low = le_refl n; reaches = h; before = λ k lo hi. absurd (omega arith) }

  first_later : (n m : ℕ) → reach n < t → FirstFrom (suc n) m → FirstFrom n m
  first_later n m h f =
      record {
        low = omega (arith, f.low);
        reaches = f.reaches;
        before = λ k lo hi. ⊎_elim (λ (q : n ≡ k). subst (λ (i : ℕ). reach i < t) q h) (λ q. f.before k q hi) (eq-or-lt_of_le lo);
      }

  first_by : (n m : ℕ) (b : Bool) → leb t (reach n) ≡ b → FirstFrom (suc n) m → FirstFrom n (elim b [ true ↦ n | false ↦ m ])
  first_by n m true e f = first_here n (leb-true t (reach n) e)
  first_by n m false e f = first_later n m (leb-false t (reach n) e) f

  first_from_lem : (count n : ℕ) → t ≤ reach (count + n) → FirstFrom n (first_from t reach count n)
  unfolding first_from
  first_from_lem zero n h = first_here n (subst (λ (k : ℕ). t ≤ reach k) (zero-add n) h)
  first_from_lem (suc count) n h =
      first_by n (first_from t reach count (suc n)) (leb t (reach n)) refl
      (first_from_lem count (suc n) (subst (λ (k : ℕ). t ≤ reach k) (suc-add count n ∙ sym (add-suc count n)) h))

  low_by : (n m : ℕ) (b : Bool) → n ≤ m → n ≤ (elim b [ true ↦ n | false ↦ m ])
  low_by n m true h = le_refl n
  low_by n m false h = h

  first_low : (count n : ℕ) → n ≤ first_from t reach count n
  unfolding first_from
  first_low zero n = le_refl n
  first_low (suc count) n = low_by n (first_from t reach count (suc n)) (leb t (reach n)) (omega (arith, first_low count (suc n)))

  -- "from 1 up", whatever the reach
  pub least_positive : 1 ≤ least t reach
  unfolding least
  least_positive = first_low t 1

pub least_is : LeastClaim
unfolding least
least_is t reach up =
    let f = first_from_lem t reach t 1 (omega (arith, up (t + 1))) in
    record { from_one = f.low; reaches = f.reaches; none_before = f.before }
