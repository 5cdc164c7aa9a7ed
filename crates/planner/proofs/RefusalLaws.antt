-- Laws of the checks: what they come to, one after the other.
use mathlib.Core.Logic.{◌↔◌}
use mathlib.Core.Path.{◌≡◌, refl, sym, ap, subst, ◌∙◌}
use mathlib.Core.Bool.{Bool, true, false, ◌||◌, true≢false}
use mathlib.Core.List.{List, [], ◌∷◌, ◌++◌}
use Prim.Native.Nat.{ℕ, ◌≤◌, ◌<◌}
use native.Mathlib.Nat.{pos_of_ne-zero}
use native.Mathlib.Omega.{arith}
use borrow.Author.Tests.{lt-ltb, le-ltb, ne_eqb, ltb-false, eqb-false}
use lib.Dec.{eqb, ltb}
use Rattle.planner.specs.Refusals.{Each, Check, check, first_refusal}
use Rattle.std.specs.Prelude.{Result, Ok, Err}
use Rattle.planner.specs.Intervals.{Intervals, N, intervals_by}
use Rattle.planner.specs.Outcome.{out_of_range, bound_checks, most_bound, most_samples}
use Rattle.planner.specs.Claims.{BoundInRange, BoundsInRange, IsPlanned}
use Rattle.planner.specs.Inner.Capped.{IntervalsAgree}
use Rattle.planner.specs.Inner.Undivided.{undivided, undivided_within, checked}
use Rattle.planner.proofs.Clash.{clash}
use Rattle.planner.proofs.ResultLaws.{same_given}

-- p is what the checks xs leave of the outcome o
pub record Gives {R A : Type 0} (xs : List (Check R)) (o p : Result A R) : Type 0 where
  pub is : p ≡ first_refusal xs o

-- a check that applies, and one that does not
module _ {R A : Type 0} where
  pub stop : {n : R} {t : Bool} {xs : List (Check R)} {o : Result A R} → t ≡ true → Gives (check n t ∷ xs) o (Err n)
  unfolding first_refusal
  stop {t = true} h = record { is = refl }
  stop {t = false} h = absurd (true≢false (sym h))

  pub skip : {n : R} {t : Bool} {xs : List (Check R)} {o p : Result A R} → t ≡ false → Gives xs o p → Gives (check n t ∷ xs) o p
  unfolding first_refusal
  skip {t = true} h g = absurd (true≢false h)
  skip {t = false} h g = record { is = g.is }

  pub none_left : {o : Result A R} → Gives [] o o
  unfolding first_refusal
  none_left = record { is = refl }

-- the check does not apply
abbrev pub Passes : {R : Type 0} → Check R → Type 0
Passes (check n test) = test ≡ false

module _ {R A : Type 0} where
  pub all_pass : (xs : List (Check R)) (o : Result A R) → Each Passes xs → first_refusal xs o ≡ o
  unfolding first_refusal
  all_pass [] o p = refl
  all_pass (check n test ∷ xs) o p = rw p.0 (all_pass xs o p.1)

  -- where something is given, no check applied
  pub passed : (xs : List (Check R)) (x y : A) → first_refusal xs (Ok x) ≡ Ok y → Each Passes xs
  unfolding first_refusal
  passed [] x y h = tt
  passed (check n true ∷ xs) x y h = absurd (clash cc)
  passed (check n false ∷ xs) x y h = (refl, passed xs x y h)

  -- and it is what would be given
  pub passed_same : (xs : List (Check R)) (x y : A) → first_refusal xs (Ok x) ≡ Ok y → x ≡ y
  passed_same xs x y h = same_given (sym (all_pass xs (Ok x) (passed xs x y h)) ∙ h)

  -- a list of checks after another
  pub checks_joined : (xs ys : List (Check R)) (o : Result A R) → first_refusal (xs ++ ys) o ≡ first_refusal xs (first_refusal ys o)
  unfolding first_refusal
  checks_joined [] ys o = refl
  checks_joined (check n true ∷ xs) ys o = refl
  checks_joined (check n false ∷ xs) ys o = checks_joined xs ys o

-- a refusal does not depend on what would be given
pub same_refusal :
    {R A B : Type 0} (xs : List (Check R)) (x : A) (o : Result B R) (n : R) → first_refusal xs (Ok x) ≡ Err n
    → first_refusal xs o ≡ Err n
unfolding first_refusal
same_refusal [] x o n h = absurd (clash cc)
same_refusal (check m true ∷ xs) x o n h = let same : m ≡ n = cc in ap Err same
same_refusal (check m false ∷ xs) x o n h = same_refusal xs x o n h

-- Checks that are made in two parts: a refusal of the first is the refusal of both, and where the first gives something the second decides.
module _ {R A B : Type 0} (xs ys : List (Check R)) (x : A) (o : Result B R) where
  pub refused_on : (n : R) → Err n ≡ first_refusal xs (Ok x) → Err n ≡ first_refusal (xs ++ ys) o
  refused_on n h = sym (checks_joined xs ys o ∙ same_refusal xs x (first_refusal ys o) n (sym h))

  pub passed_on : (y : A) → Ok y ≡ first_refusal xs (Ok x) → first_refusal ys o ≡ first_refusal (xs ++ ys) o
  passed_on y h = sym (checks_joined xs ys o ∙ all_pass xs (first_refusal ys o) (passed xs x y (sym h)))

-- So something is given exactly where every check passes.
pub given_passes : {A : Type 0} (xs : List (Check ℕ)) (x : A) {o : Result A ℕ} → o ≡ first_refusal xs (Ok x) → IsPlanned o ↔ Each Passes xs
given_passes {A} xs x q = (λ p. go _ q p, λ p. subst IsPlanned (sym (q ∙ all_pass xs (Ok x) p)) tt)
  where
    go : (o : Result A ℕ) → o ≡ first_refusal xs (Ok x) → IsPlanned o → Each Passes xs
    go (Err n) q h = absurd h
    go (Ok y) q h = passed xs x y (sym q)

-- neither 0 nor above the most
pub or_false : (x y : Bool) → (x || y) ≡ false → (x ≡ false) × (y ≡ false)
or_false true y h = absurd (true≢false h)
or_false false y h = (refl, h)

module _ (most x : ℕ) where
  pub passed_range : (eqb x 0 || ltb most x) ≡ false → (1 ≤ x) × (x ≤ most)
  passed_range h =
      let parts = or_false (eqb x 0) (ltb most x) h in
      (pos_of_ne-zero (eqb-false x 0 parts.0), ltb-false most x parts.1)

  pub range_passes : 1 ≤ x → x ≤ most → (eqb x 0 || ltb most x) ≡ false
  range_passes h l = rw (ne_eqb x 0 (λ q. omega (arith, h)), le-ltb most x l)

pub bound_in_range : (x : ℕ) → out_of_range x ≡ false → BoundInRange x
bound_in_range x h = let r = passed_range most_bound x h in record { at_least = r.0; at_most = r.1 }

pub bound_passes : (x : ℕ) → BoundInRange x → out_of_range x ≡ false
bound_passes x h = range_passes most_bound x h.at_least h.at_most

pub bounds_in_range : {V₀ A₀ J₀ S₀ : ℕ} → Each Passes (bound_checks V₀ A₀ J₀ S₀) → BoundsInRange V₀ A₀ J₀ S₀
bounds_in_range p =
    record {
      velocity = bound_in_range _ p.0;
      acceleration = bound_in_range _ p.1.0;
      jerk = bound_in_range _ p.1.1.0;
      snap = bound_in_range _ p.1.1.1.0;
    }

pub bounds_pass : {V₀ A₀ J₀ S₀ : ℕ} → BoundsInRange V₀ A₀ J₀ S₀ → Each Passes (bound_checks V₀ A₀ J₀ S₀)
bounds_pass h = (
  bound_passes _ h.velocity,
  (bound_passes _ h.acceleration, (bound_passes _ h.jerk, (bound_passes _ h.snap, tt))),
)

-- a bound that was asked for by itself
pub bound_passed : (n x : ℕ) → Ok tt ≡ checked (check n (out_of_range x) ∷ []) → out_of_range x ≡ false
unfolding checked
bound_passed n x h = (passed _ tt tt (sym h)).0

-- what `undivided_plan` answers after the figures that both orders read
module _ (W V₀ A₀ J₀ S₀ : ℕ) (outside : Bool) where
  pub snap_refused : {n : ℕ} → Err n ≡ checked (check 6 (out_of_range S₀) ∷ []) → Err n ≡ undivided_within W V₀ A₀ J₀ S₀ outside
  unfolding checked undivided_within
  snap_refused h = refused_on (check 6 (out_of_range S₀) ∷ []) _ tt _ _ h

  module _ (slow : out_of_range S₀ ≡ false) where
    pub ends_refused : outside ≡ true → Err 14 ≡ undivided_within W V₀ A₀ J₀ S₀ outside
    unfolding undivided_within
    ends_refused h = (skip slow (stop h)).is

    module _ (inside : outside ≡ false) (t : Intervals) (g : IntervalsAgree 4097 W V₀ A₀ J₀ S₀ t) where
      abbrev rule : Intervals
      rule = intervals_by W V₀ A₀ J₀ S₀

      pub too_many_samples : most_samples < N t → Err 7 ≡ undivided_within W V₀ A₀ J₀ S₀ outside
      unfolding undivided_within
      too_many_samples h = (skip slow (skip inside (stop (lt-ltb most_samples (N rule) (omega (arith, g.samples)))))).is

      pub found_within : N t ≤ most_samples → Ok (undivided W t) ≡ undivided_within W V₀ A₀ J₀ S₀ outside
      unfolding undivided_within
      found_within h =
          ap (λ (t : Intervals). Ok (undivided W t)) (g.same (omega arith))
          ∙ (skip slow (skip inside (skip (le-ltb most_samples (N rule) (omega (arith, g.samples))) none_left))).is
