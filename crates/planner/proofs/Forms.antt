-- The reaches of the paper's ten searches have the form that the code takes, k·n·(u+n)^d.
use mathlib.Core.Path.{◌≡◌, sym, ap, subst, fun_ext, ◌∙◌}
use Prim.Native.Nat.{ℕ, suc, ◌+◌, ◌*◌, ◌^◌, ◌≤◌}
use native.Mathlib.Nat.{mul-one, mul_assoc, zero-add, pow-zero, pow-succ'}
use Rattle.planner.specs.Least.{least, IsLeast}
use Rattle.planner.specs.Inner.Search.{scaled}
use Rattle.planner.proofs.LeastLaws.{least_is}
use Rattle.planner.proofs.ReachLaws.{pow_one, scaled_at_least}

pub power_form : (k d : ℕ) → scaled k 0 d ≡ (λ n. k * n ^ suc d)
power_form k d = fun_ext (λ n. ap (λ (x : ℕ). k * x) (ap (λ (m : ℕ). n * m ^ d) (zero-add n) ∙ sym (pow-succ' n d)))

pub linear_form : (k u : ℕ) → scaled k u 0 ≡ (λ n. k * n)
linear_form k u = fun_ext (λ n. ap (λ (x : ℕ). k * x) (ap (λ (x : ℕ). n * x) (pow-zero (u + n)) ∙ mul-one n))

pub product_form : (k u d : ℕ) → scaled k u d ≡ (λ n. k * n * (u + n) ^ d)
product_form k u d = fun_ext (λ n. sym (mul_assoc k n ((u + n) ^ d)))

pub square_form : (k u : ℕ) → scaled k u 1 ≡ (λ n. k * n * (u + n))
square_form k u = product_form k u 1 ∙ fun_ext (λ n. ap (λ (x : ℕ). k * n * x) (pow_one (u + n)))

-- so where k is at least 1, what `least` gives for such a reach is the least
pub form_least : (k u d t : ℕ) {reach : ℕ → ℕ} → scaled k u d ≡ reach → 1 ≤ k → IsLeast t reach (least t reach)
form_least k u d t form hk = least_is t _ (subst (λ (f : ℕ → ℕ). (n : ℕ) → n ≤ f n) form (scaled_at_least k u d hk))
