-- The closed form: over any list of widths, each at least the sum of those inside it, the sums from rest are D times the differences of
-- binomials.
use mathlib.Core.Path.{◌≡◌, refl, sym, ap, ◌∙◌, fun_ext}
use mathlib.Core.List.{List, [], ◌∷◌, ◌++◌}
use Prim.Native.Nat.{ℕ, zero, suc, ◌-◌, ◌*◌, ◌/◌, ◌<◌}
use native.Mathlib.Nat.{mul-zero, mul-pos, mul-div_cancel_left}
use native.Mathlib.Omega.{arith}
use lib.IntN.{ℤ, pos, negsuc, neg_ℤ, ◌*ℤ◌}
use lib.Signed.{quot_z}
use Rattle.profile.specs.Profile.{switched_in, sum}
use Rattle.profile.specs.Inner.Repeated.{sums}
use Rattle.profile.specs.Inner.Widths.{total, ramp, Spread, switched}
use Rattle.profile.specs.Inner.ClosedForm.{falling, factorial, differences}
use Rattle.profile.proofs.Differences.{Difference, whole_is, plus, negated, same, unique, times, factored}
use Rattle.profile.proofs.Totals.{total_of_none}
use Rattle.profile.proofs.Delays.{delay, delays, delays_inner, delays_total, delays_same, delays_times}
use Rattle.profile.proofs.FirstSum.{DelayedRamp, first_sum}
use Rattle.profile.proofs.LaterSums.{sum_is}
use Rattle.profile.proofs.Binomials.{binomial, binomial_start, binomial_one, falling_binomial}

-- x is D times the differences of f over all widths
abbrev Delayed : (D : ℕ) (ws : List ℕ) (f : ℕ → ℕ) (x : ℕ → ℤ) → Type 0
Delayed D ws f x = (k : ℕ) → Difference D (x k) (delays ws f (λ _. 0) k) (delays ws (λ _. 0) f k)

differences_are : (ws : List ℕ) (f : ℕ → ℕ) → Delayed 1 ws f (differences ws f)
unfolding differences delays
differences_are [] f k = whole_is (f k)
differences_are (w ∷ ws) f k = plus (differences_are ws f k) (negated (differences_are ws f (k - w)))

-- the ramp of a samples is k less k − a
first_closed : (D a : ℕ) (ws : List ℕ) (x : ℕ → ℤ) → DelayedRamp D a ws [] x → Delayed D (ws ++ (a ∷ [])) (binomial 1) x
unfolding ramp
first_closed D a ws x d k =
    same (d k)
    (omega (
      arith,
      delays_same ws (ramp a []) (λ _. 0) (delay a (binomial 1) (λ _. 0)) (delay a (λ _. 0) (binomial 1))
          (λ i. omega (arith, binomial_one i, binomial_one (i - a))) k,
      delays_inner ws a (binomial 1) (λ _. 0) k,
      delays_inner ws a (λ _. 0) (binomial 1) k,
    ))

next_closed :
    (D : ℕ) (ws : List ℕ) (n : ℕ) (x : ℕ → ℤ) → Delayed D ws (binomial (suc n)) x → Delayed D ws (binomial (suc (suc n))) (sum x)
unfolding binomial
next_closed D ws n x d k =
    let none : total (λ _. 0) ≡ (λ _. 0) = fun_ext total_of_none in
    let up = rw none at (delays_total ws (binomial (suc n)) (λ _. 0) (binomial_start n) refl k) in
    let down = rw none at (delays_total ws (λ _. 0) (binomial (suc n)) refl (binomial_start n) k) in
    same (sum_is D x (delays ws (binomial (suc n)) (λ _. 0)) (delays ws (λ _. 0) (binomial (suc n))) d k) (omega (arith, up, down))

module _ (a : ℕ) (ws : List ℕ) (s : Spread a ws) where
  delayed : (D n : ℕ) → Delayed D (ws ++ (a ∷ [])) (binomial (suc n)) (sums (suc n) (switched_in (switched a ws) D))
  unfolding sums
  delayed D zero = first_closed D a ws (sum (switched_in (switched a ws) D)) (first_sum a D ws s)
  delayed D (suc n) = next_closed D (ws ++ (a ∷ [])) n (sums (suc n) (switched_in (switched a ws) D)) (delayed D n)

  closed_form :
      (D n k : ℕ) → sums (suc n) (switched_in (switched a ws) D) k ≡ pos D *ℤ differences (ws ++ (a ∷ [])) (binomial (suc n)) k
  closed_form D n k = unique (delayed D n k) (times D (differences_are (ws ++ (a ∷ [])) (binomial (suc n)) k))

-- what is m times f has m times the differences
differences_times :
    (ws : List ℕ) (m : ℕ) (f h : ℕ → ℕ) → ((k : ℕ) → h k ≡ m * f k) → (k : ℕ) → differences ws h k ≡ pos m *ℤ differences ws f k
differences_times ws m f h p k =
    let none : ℕ → 0 ≡ m * 0 = λ _. sym (mul-zero m) in
    let up = delays_times ws m f (λ _. 0) h (λ _. 0) p none k in
    let down = delays_times ws m (λ _. 0) f (λ _. 0) h none p k in
    unique (factored m (same (differences_are ws h k) (omega (arith, up, down)))) (times m (differences_are ws f k))

-- a multiple of m, divided by m
negative_quotient : (m n : ℕ) → 0 < n → quot_z (neg_ℤ (pos n)) (pos m) ≡ neg_ℤ (pos (n / m))
negative_quotient m zero h = absurd (omega arith)
negative_quotient m (suc n) h = refl

quotient : (m : ℕ) → 0 < m → (x : ℤ) → quot_z (pos m *ℤ x) (pos m) ≡ x
quotient m h (pos n) = ap pos (mul-div_cancel_left n h)
quotient m h (negsuc n) =
    negative_quotient m (m * suc n) (mul-pos h (omega arith)) ∙ ap (λ (i : ℕ). neg_ℤ (pos i)) (mul-div_cancel_left (suc n) h)

pub factorial_positive : (n : ℕ) → 0 < factorial n
unfolding factorial
factorial_positive zero = omega arith
factorial_positive (suc n) = mul-pos {m = suc n} {n = factorial n} (omega arith) (factorial_positive n)

-- by falling factorials: their differences divided by the factorial, times D
pub by_products :
    (a : ℕ) (ws : List ℕ)
    → Spread a ws
    → (D n k : ℕ)
    → sums (suc n) (switched_in (switched a ws) D) k
    ≡ pos D *ℤ quot_z (differences (ws ++ (a ∷ [])) (falling (suc n)) k) (pos (factorial (suc n)))
by_products a ws s D n k =
    let m = factorial (suc n) in
    let binomials = differences (ws ++ (a ∷ [])) (binomial (suc n)) k in
    let products = differences_times (ws ++ (a ∷ [])) m (binomial (suc n)) (falling (suc n)) (falling_binomial (suc n)) k in
    closed_form a ws s D n k
    ∙ ap (λ x. pos D *ℤ x) (sym (ap (λ x. quot_z x (pos m)) products ∙ quotient m (factorial_positive (suc n)) binomials))
