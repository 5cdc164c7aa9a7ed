-- Laws of one axis: at rest its bounds and its start alone are asked, and else its move.
use borrow.Author.Tests.{eq-eqb, ne_eqb, eqb-true, eqb-false}
use mathlib.Core.Bool.{Bool, true, false, cond}
use mathlib.Core.List.{List, [], ◌∷◌, ◌++◌}
use mathlib.Core.Path.{◌≡◌, refl, sym, ap, ap₂, subst, ◌∙◌}
use Prim.Native.Nat.{ℕ, ◌≤◌}
use native.Mathlib.Nat.{pos_of_ne-zero}
use native.Mathlib.Omega.{arith}
use lib.IntN.{nat_abs}
use Rattle.planner.specs.Intervals.{N}
use Rattle.planner.specs.Refusals.{Each, Check, first_refusal}
use Rattle.std.specs.Prelude.{Ok, Err}
use Rattle.planner.specs.Outcome.{most_samples, bound_checks, ends_outside, span_check, intervals_in, samples_of}
use Rattle.planner.specs.Claims.{EndsInSpan}
use Rattle.planner.specs.Axes.{rest_plan, at_rest, axis_checks, own_samples}
use Rattle.planner.specs.AxesClaims.{Moving, Resting, AcceptedAxis}
use Rattle.planner.specs.Inner.Undivided.{undivided_result, checked}
use Rattle.planner.specs.Inner.AxisAnswers.{undivided_axis, axis_result}
use Rattle.planner.specs.declared.Move.{Move}
use Rattle.planner.specs.declared.Plan.{Plan}
use Rattle.planner.proofs.EachLaws.{each_joined, each_parts}
use Rattle.planner.proofs.RefusalLaws.{Passes, stop, skip, none_left, passed, passed_same, refused_on, passed_on, bounds_in_range, bounds_pass}
use Rattle.planner.proofs.EndLaws.{ends_in_span, ends_pass}
use Rattle.planner.proofs.Acceptance.{passed_accepted, accepted_passes}

-- one of two, by a test
pub either : {P : Type 0} (t : Bool) → (t ≡ true → P) → (t ≡ false → P) → P
either true yes-case no-case = yes-case refl
either false yes-case no-case = no-case refl

abbrev taken : Plan → ℕ
taken x = N (intervals_in x)

-- the one that the test chooses: x where it is true, y where it is false
pub chosen : {A : Type 0} {t by : Bool} (x y : A) → t ≡ by → cond t x y ≡ cond by x y
chosen x y h = ap (λ (t : Bool). cond t x y) h

pub both : {A : Type 0} (P : A → Type 0) (t : Bool) {x y : A} → P x → P y → P (cond t x y)
both P true h l = h
both P false h l = l

module _ (m : Move) where
  -- refusals 3 to 6 of the move, and 14
  abbrev own_bounds : List (Check ℕ)
  own_bounds = bound_checks m.velocity m.acceleration m.jerk m.snap

  abbrev own_span : List (Check ℕ)
  own_span = span_check m.displacement m.start ∷ []

  pub by_rest : {P : Type 0} → (at_rest m ≡ true → P) → (at_rest m ≡ false → P) → P
  by_rest = either (at_rest m)

  pub rest_resting : at_rest m ≡ true → Resting m
  rest_resting = eqb-true _ 0

  pub rest_moving : at_rest m ≡ false → Moving m
  rest_moving h = pos_of_ne-zero (eqb-false _ 0 h)

  pub moving_rest : Moving m → at_rest m ≡ false
  moving_rest h = ne_eqb (nat_abs m.displacement) 0 (λ q. omega (arith, h, q))

  -- the checks of an axis that is accepted pass, and the other way round
  pub passed_axis : Each Passes (axis_checks m) → AcceptedAxis m
  passed_axis p =
      record {
        moving = λ h. passed_accepted m (subst (Each Passes) (chosen _ _ (moving_rest h)) p);
        resting = λ h.
            let parts = each_parts Passes own_bounds own_span (subst (Each Passes) (chosen _ _ (eq-eqb _ _ h)) p) in
            (bounds_in_range parts.0, ends_in_span m parts.1.0);
      }

  pub axis_passes : AcceptedAxis m → Each Passes (axis_checks m)
  axis_passes h =
      by_rest
      (λ q.
      let r = h.resting (rest_resting q) in
      subst (Each Passes) (sym (chosen _ _ q)) (each_joined Passes own_bounds own_span (bounds_pass r.0) (ends_pass m r.1, tt)))
      (λ q. subst (Each Passes) (sym (chosen _ _ q)) (accepted_passes m (h.moving (rest_moving q))))

  -- an accepted axis starts and ends in the span, at rest too
  pub axis_ends_in_span : AcceptedAxis m → EndsInSpan m
  axis_ends_in_span h = by_rest (λ q. (h.resting (rest_resting q)).1) (λ q. (h.moving (rest_moving q)).is_in_range.ends)

  -- what `undivided_axis` answers
  resting_is : at_rest m ≡ true → axis_result m ≡ first_refusal (own_bounds ++ own_span) (Ok rest_plan)
  unfolding axis_result
  resting_is h = ap₂ (λ xs t. first_refusal xs (Ok t)) (chosen _ _ h) (chosen _ _ h)

  pub moving_is : at_rest m ≡ false → axis_result m ≡ undivided_result m
  unfolding undivided_result axis_result
  moving_is h = ap₂ (λ xs t. first_refusal xs (Ok t)) (chosen _ _ h) (chosen _ _ h)

  pub resting_refused : (n : ℕ) → at_rest m ≡ true → Err n ≡ checked own_bounds → Err n ≡ axis_result m
  unfolding checked
  resting_refused n h q = refused_on own_bounds own_span tt _ n q ∙ sym (resting_is h)

  module _ (h : at_rest m ≡ true) (q : Ok tt ≡ checked own_bounds) where
    span_left : first_refusal own_span (Ok rest_plan) ≡ axis_result m
    unfolding checked
    span_left = passed_on own_bounds own_span tt _ tt q ∙ sym (resting_is h)

    pub resting_outside : ends_outside m.displacement m.start ≡ true → Err 14 ≡ axis_result m
    resting_outside t = (stop t).is ∙ span_left

    pub resting_found : ends_outside m.displacement m.start ≡ false → Ok rest_plan ≡ axis_result m
    resting_found t = (skip t none_left).is ∙ span_left

  pub own_is : N (intervals_in (undivided_axis m)) ≡ own_samples m
  unfolding samples_of
  own_is = by_rest (λ q. ap taken (chosen _ _ q) ∙ sym (chosen _ _ q)) (λ q. ap taken (chosen _ _ q) ∙ sym (chosen _ _ q))

  pub own_most : AcceptedAxis m → own_samples m ≤ most_samples
  own_most h =
      by_rest (λ q. subst (λ (n : ℕ). n ≤ most_samples) (sym (chosen _ _ q)) (omega arith))
      (λ q. subst (λ (n : ℕ). n ≤ most_samples) (sym (chosen _ _ q)) (h.moving (rest_moving q)).short_enough)

  -- what follows where it was not refused
  module _ {x : Plan} (h : Ok x ≡ axis_result m) where
    pub axis_accepted : AcceptedAxis m
    unfolding axis_result
    axis_accepted = passed_axis (passed (axis_checks m) _ _ (sym h))

    pub axis_found : x ≡ undivided_axis m
    unfolding axis_result
    axis_found = sym (passed_same (axis_checks m) _ _ (sym h))

    pub found_samples : N (intervals_in x) ≤ most_samples
    found_samples = subst (λ (n : ℕ). n ≤ most_samples) (sym (ap taken axis_found ∙ own_is)) (own_most axis_accepted)
