-- Document 01, demand 3, "Sums from rest", in the direction of X.
use mathlib.Core.Path.{◌≡◌, refl, sym, ap, ap₂, ◌∙◌}
use Prim.Native.Nat.{ℕ, zero, suc, ◌+◌, ◌≤◌, ◌<◌}
use native.Mathlib.Numerals.{add-one}
use native.Mathlib.Omega.{arith}
use lib.IntN.{ℤ, pos, ◌+ℤ◌, +ℤ_assoc, +ℤ_idl, +ℤ_idr}
use Rattle.planner.specs.Quantities.{along}
use Rattle.planner.specs.Intervals.{Intervals}
use Rattle.planner.proofs.DirectionLaws.{along_zero, along_sum}
use Rattle.profile.specs.Profile.{sum}
use Rattle.profile.specs.Profile as profile
use Rattle.motion.specs.Sampling.{Values, values_at}
use Rattle.motion.proofs.KeptRules.{Follows}

-- each value at k+1 is its value at k plus the next higher derivative at k
one_sum : (X : ℤ) (f : ℕ → ℤ) (k : ℕ) → along X (sum f (k + 1)) ≡ along X (sum f k) +ℤ along X (f k)
unfolding sum
one_sum X f k = ap (λ (n : ℕ). along X (sum f n)) (add-one k) ∙ along_sum X (sum f k) (f k)

-- a value that is such a sum, by the one above it
module _ (X : ℤ) (f : ℕ → ℤ) (x y : ℕ → ℤ) (below : (k : ℕ) → x k ≡ along X (sum f k)) (above : (k : ℕ) → y k ≡ along X (f k)) where
  grows : (k : ℕ) → x (k + 1) ≡ x k +ℤ y k
  grows k = below (k + 1) ∙ one_sum X f k ∙ sym (ap₂ (λ (u v : ℤ). u +ℤ v) (below k) (above k))

  rests : x 0 ≡ pos 0
  unfolding sum
  rests = below 0 ∙ along_zero X

-- from the jerk on, in either order
module _ {X : ℤ} {j : ℕ → ℤ} {v : ℕ → Values} (f : Follows X j v) where
  pub acceleration_sum : (k : ℕ) → (v (k + 1)).acceleration ≡ (v k).acceleration +ℤ (v k).jerk
  acceleration_sum = grows X j (λ k. (v k).acceleration) (λ k. (v k).jerk) f.acceleration_is f.jerk_is

  pub velocity_sum : (k : ℕ) → (v (k + 1)).velocity ≡ (v k).velocity +ℤ (v k).acceleration
  velocity_sum = grows X (sum j) (λ k. (v k).velocity) (λ k. (v k).acceleration) f.velocity_is f.acceleration_is

  pub position_sum : (k : ℕ) → (v (k + 1)).position ≡ (v k).position +ℤ (v k).velocity
  position_sum = grows X (sum (sum j)) (λ k. (v k).position) (λ k. (v k).velocity) f.position_is f.velocity_is

  pub acceleration_rest : (v 0).acceleration ≡ pos 0
  acceleration_rest = rests X j (λ k. (v k).acceleration) (λ k. (v k).jerk) f.acceleration_is f.jerk_is

  pub velocity_rest : (v 0).velocity ≡ pos 0
  velocity_rest = rests X (sum j) (λ k. (v k).velocity) (λ k. (v k).acceleration) f.velocity_is f.acceleration_is

  pub position_rest : (v 0).position ≡ pos 0
  position_rest = rests X (sum (sum j)) (λ k. (v k).position) (λ k. (v k).velocity) f.position_is f.velocity_is

-- and the jerk of the fourth order
module _ (X : ℤ) (t : Intervals) (D : ℕ) where
  pub jerk_sum : (k : ℕ) → (values_at X t D (k + 1)).jerk ≡ (values_at X t D k).jerk +ℤ (values_at X t D k).snap
  unfolding values_at profile.jerk
  jerk_sum k = one_sum X _ k

  pub jerk_rest : (values_at X t D 0).jerk ≡ pos 0
  unfolding values_at profile.jerk sum
  jerk_rest = along_zero X

-- a value that starts at u and grows by another is its sum from there
pub sums_from_lem :
    (u : ℤ) (N : ℕ) (f g h : ℕ → ℤ)
    → f 0 ≡ u
    → ((k : ℕ) → k < N → f (k + 1) ≡ f k +ℤ g k)
    → ((k : ℕ) → k ≤ N → g k ≡ h k)
    → (k : ℕ)
    → k ≤ N
    → f k ≡ u +ℤ sum h k
unfolding sum
sums_from_lem u N f g h first step same zero l = first ∙ sym (+ℤ_idr u)
sums_from_lem u N f g h first step same (suc k) l =
    ap f (sym (add-one k)) ∙ step k l
    ∙ ap₂ (λ x y. x +ℤ y) (sums_from_lem u N f g h first step same k (omega arith)) (same k (omega arith))
    ∙ +ℤ_assoc u (sum h k) (h k)

-- from rest
pub sums_up :
    (N : ℕ) (f g h : ℕ → ℤ)
    → f 0 ≡ pos 0
    → ((k : ℕ) → k < N → f (k + 1) ≡ f k +ℤ g k)
    → ((k : ℕ) → k ≤ N → g k ≡ h k)
    → (k : ℕ)
    → k ≤ N
    → f k ≡ sum h k
sums_up N f g h rest step same k l = sums_from_lem (pos 0) N f g h rest step same k l ∙ +ℤ_idl (sum h k)

-- values that are the same up to N have the same sums there
pub sum_same : (N : ℕ) (f g : ℕ → ℤ) → ((k : ℕ) → k ≤ N → f k ≡ g k) → (k : ℕ) → k ≤ N → sum f k ≡ sum g k
unfolding sum
sum_same N f g same = sums_up N (sum f) f g refl (λ k l. ap (sum f) (add-one k)) same
