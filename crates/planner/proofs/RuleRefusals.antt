-- The rule refuses with none but 1 to 7 and 14; and in the third order not with 6.
use mathlib.Core.Bool.{true, false}
use mathlib.Core.List.{List, [], ◌∷◌}
use mathlib.Core.Path.{◌≡◌, sym, subst}
use Prim.Native.Nat.{ℕ, ◌+◌, ◌-◌, ◌≤◌}
use native.Mathlib.Omega.{arith}
use Rattle.planner.specs.Refusals.{Each, Check, check, first_refusal}
use Rattle.std.specs.Prelude.{Ok, Err}
use Rattle.planner.specs.Outcome.{checks, distance_of, intervals_of, plan_of, outcome_of}
use Rattle.planner.specs.Third.{third_intervals_of, third_plan_of, third_checks, third_outcome_of}
use Rattle.planner.specs.ThirdClaims.{NeverSixClaim}
use Rattle.planner.specs.declared.Move.{Move}
use Rattle.planner.proofs.Clash.{clash}
use Rattle.planner.proofs.ResultLaws.{same_refused}

-- a property of the refusal of a check, and so of the one that is given
abbrev pub Has : {R : Type 0} → (R → Type 0) → Check R → Type 0
Has P (check refusal applies) = P refusal

pub refusal_has :
    {R A : Type 0} (P : R → Type 0) (xs : List (Check R)) (x : A) → Each (Has P) xs → (n : R) → first_refusal xs (Ok x) ≡ Err n → P n
unfolding first_refusal
refusal_has P [] x h n e = absurd (clash cc)
refusal_has P (check refusal true ∷ xs) x h n e = subst P (same_refused e) h.0
refusal_has P (check refusal false ∷ xs) x h n e = refusal_has P xs x h.1 n e

-- a number from `least` to `most`
abbrev pub Between : (least most n : ℕ) → Type 0
Between least most n = (least ≤ n) × (n ≤ most)

pub refused_most : (m : Move) (n : ℕ) → outcome_of m ≡ Err n → Between 1 14 n
unfolding outcome_of
refused_most m = refusal_has (Between 1 14) (checks m) (plan_of (distance_of m) (intervals_of m)) (omega arith)

-- a number from 1 up other than 6
abbrev pub OtherThanSix : ℕ → Type 0
OtherThanSix n = (1 ≤ n) × (1 ≤ n - 6 + (6 - n))

pub third_checks_other : (m : Move) → Each (Has OtherThanSix) (third_checks m)
third_checks_other m = omega arith

pub third_not_six : (m : Move) (n : ℕ) → third_outcome_of m ≡ Err n → OtherThanSix n
unfolding third_outcome_of
third_not_six m = refusal_has OtherThanSix (third_checks m) (third_plan_of (distance_of m) (third_intervals_of m)) (third_checks_other m)

pub never_six : NeverSixClaim
never_six m h = omega (arith, (third_not_six m 6 (sym h.outcome_is)).1)
