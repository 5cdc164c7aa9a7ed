-- Laws of the sums from rest: of equal functions, of a negated one, and of one that goes on with another after w samples.
use mathlib.Core.Path.{◌≡◌, refl, sym, ap, fun_ext, ◌∙◌}
use mathlib.Core.Bool.{Bool, cond}
use Prim.Native.Nat.{ℕ, zero, suc, ◌-◌, ◌≤◌}
use native.Mathlib.Nat.{zero-sub}
use native.Mathlib.Omega.{arith}
use native.Mathlib.Decide.{dec_le}
use lib.Dec.{ltb}
use lib.IntN.{ℤ, pos, neg_ℤ, neg_ℤ-+ℤ, ◌+ℤ◌, +ℤ_assoc, +ℤ_idr}
use borrow.Author.Tests.{lt-ltb, le-ltb}
use Rattle.profile.specs.Profile.{sum}
use Rattle.profile.specs.Inner.Repeated.{sums}

pub sum_of_equal : (f g : ℕ → ℤ) → ((i : ℕ) → f i ≡ g i) → (k : ℕ) → sum f k ≡ sum g k
sum_of_equal f g e k = ap (λ (h : ℕ → ℤ). sum h k) (fun_ext e)

pub sum_negated : (f : ℕ → ℤ) (k : ℕ) → sum (λ (i : ℕ). neg_ℤ (f i)) k ≡ neg_ℤ (sum f k)
unfolding sum
sum_negated f zero = refl
sum_negated f (suc k) = ap (λ (x : ℤ). x +ℤ neg_ℤ (f k)) (sum_negated f k) ∙ sym (neg_ℤ-+ℤ (sum f k) (f k))

pub sums_negated : (n : ℕ) (f : ℕ → ℤ) (k : ℕ) → sums n (λ (i : ℕ). neg_ℤ (f i)) k ≡ neg_ℤ (sums n f k)
unfolding sums
sums_negated zero f k = refl
sums_negated (suc n) f k =
    sum_of_equal (sums n (λ (i : ℕ). neg_ℤ (f i))) (λ (i : ℕ). neg_ℤ (sums n f i)) (sums_negated n f) k ∙ sum_negated (sums n f) k

-- x, which has ended by sample w, and from there y from its start on
module _ (x y : ℕ → ℤ) (w : ℕ) (ends : (i : ℕ) → w ≤ i → x i ≡ pos 0) where
  abbrev joined : ℕ → ℤ
  joined i = cond (ltb i w) (x i) (y (i - w))

  joined_step : (k : ℕ) → Dec (w ≤ k) → (sum x k +ℤ sum y (k - w)) +ℤ joined k ≡ sum x (suc k) +ℤ sum y (suc k - w)
  unfolding sum
  joined_step k (yes h) =
      let late : joined k ≡ y (k - w) = ap (λ (t : Bool). cond t (x k) (y (k - w))) (le-ltb k w h) in
      let next : suc k - w ≡ suc (k - w) = omega arith in
      cc (late, next, ends k h, +ℤ_idr (sum x k), +ℤ_assoc (sum x k) (sum y (k - w)) (y (k - w)))
  joined_step k (no h) =
      let early : joined k ≡ x k = ap (λ (t : Bool). cond t (x k) (y (k - w))) (lt-ltb k w (omega arith)) in
      let start : k - w ≡ 0 = omega arith in
      let still : suc k - w ≡ 0 = omega arith in
      cc (early, start, still, +ℤ_idr (sum x k), +ℤ_idr (sum x k +ℤ x k))

  pub sum_joined : (k : ℕ) → sum (λ (i : ℕ). cond (ltb i w) (x i) (y (i - w))) k ≡ sum x k +ℤ sum y (k - w)
  unfolding sum
  sum_joined zero = rw zero-sub
  sum_joined (suc k) = ap (λ (z : ℤ). z +ℤ joined k) (sum_joined k) ∙ joined_step k (dec_le w k)
