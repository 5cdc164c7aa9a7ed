-- Which refusal a list of checks gives: the first that applies, and where they rise the lowest.
use mathlib.Core.Bool.{Bool, true, false, true≢false}
use mathlib.Core.List.{List, [], ◌∷◌}
use mathlib.Core.Logic.{inl, inr}
use mathlib.Core.Path.{◌≡◌, refl, sym, ap, subst}
use Prim.Native.Nat.{ℕ, ◌≤◌}
use native.Mathlib.Nat.{le_refl}
use native.Mathlib.Omega.{arith}
use Rattle.planner.specs.Refusals.{Each, Check, check, first_refusal}
use Rattle.std.specs.Prelude.{Err}
use Rattle.planner.specs.Order.{rank, FirstClaim, Rising, NotBelow, LowestClaim, PlanOrderClaim}
use Rattle.planner.proofs.ResultLaws.{refused_or_given, same_refused}

pub first_given : FirstClaim
unfolding first_refusal
first_given R A [] x n = (λ h. refused_or_given n x (sym h), λ h. absurd h)
first_given R A (check number true ∷ xs) x n = (
  λ h. inl (refl, same_refused h),
  λ h. elim h [ inl p ↦ ap Err p.1 | inr p ↦ absurd (true≢false p.0) ],
)
first_given R A (check number false ∷ xs) x n = (
  λ h. inr (refl, (first_given R A xs x n).0 h),
  λ h. elim h [ inl p ↦ absurd (true≢false (sym p.0)) | inr p ↦ (first_given R A xs x n).1 p.1 ],
)

-- the checks after one stand above it
above : (m n : ℕ) (t : Bool) (xs : List (Check ℕ)) → rank m ≤ rank n → Rising (check n t ∷ xs) → Each (NotBelow m) xs
above m n t [] l r = tt
above m n t (check k u ∷ xs) l r = (λ _. omega (arith, r.0), above m k u xs (omega (arith, r.0)) r.1)

rising_after : (x : Check ℕ) (xs : List (Check ℕ)) → Rising (x ∷ xs) → Rising xs
rising_after x [] r = tt
rising_after x (y ∷ xs) r = r.1

pub lowest_given : LowestClaim
unfolding first_refusal
lowest_given A [] x n r h = tt
lowest_given A (check m true ∷ xs) x n r h =
    let same : m ≡ n = cc in
    subst (λ (k : ℕ). Each (NotBelow k) (check m true ∷ xs)) same (λ _. le_refl (rank m), above m m true xs (le_refl (rank m)) r)
lowest_given A (check m false ∷ xs) x n r h =
    (λ e. absurd (true≢false (sym e)), lowest_given A xs x n (rising_after (check m false) xs r) h)

pub plan_order : PlanOrderClaim
unfolding rank
plan_order m = (refl, omega arith)
