-- What the planner of a set promises, case by case.
use mathlib.Core.Bool.{true, false, ◌||◌}
use mathlib.Core.Path.{◌≡◌, refl, sym, ap, subst, ◌∙◌}
use mathlib.Core.List.{List, map}
use Prim.Native.Nat.{ℕ, ◌≤◌, ◌<◌}
use native.Mathlib.Nat.{le_of_eq}
use mathlib.Core.Logic.{◌⊎◌, ⊎_elim}
use borrow.Author.Tests.{eq-eqb, ne_eqb, lt-ltb}
use lib.Dec.{eqb, ltb}
use lib.ListN.{length, take, replicate}
use Rattle.planner.specs.Refusals.{first_refusal, Each, padded}
use Rattle.std.specs.Prelude.{Result, Ok, Err}
use Rattle.planner.specs.Outcome.{most_samples}
use Rattle.planner.specs.Axes.{most_axes, rest_plan, axis_plan, all_at_rest, common_samples, checks_from, axes_checks, axes_result, axes_places, PlansAxes, axes_outcome, axes_plans}
use Rattle.planner.specs.AxesClaims.{AcceptedAxis}
use Rattle.planner.specs.Inner.AxisAnswers.{FindsEach, raised_plan, EachRaisable}
use Rattle.planner.specs.declared.Move.{Move}
use Rattle.planner.specs.declared.Plan.{Plan}
use Rattle.planner.specs.declared.AxesPlan.{AxesPlan}
use Rattle.planner.specs.declared.AxisRefusal.{AxisRefusal}
use Rattle.planner.specs.declared.Refusal.{Refusal}
use Rattle.planner.proofs.RefusalLaws.{Passes, stop, skip, passed, passed_same, passed_range, range_passes}
use Rattle.planner.proofs.AxesLaws.{passed_axes, common_most}
use Rattle.planner.proofs.RaisedLaws.{each_raisable, raised_places}

module _ (count : ℕ) (moves : List Move) where
  abbrev axes : List Move
  axes = take count moves

  -- 13, then 1, then the axes
  pub count_refused : (count ≡ 0) ⊎ ((count ≡ 0 → ⊥) × (most_axes < count)) → Err (13, 0) ≡ axes_result count moves
  unfolding axes_result
  count_refused h =
      let applies : (eqb count 0 || ltb most_axes count) ≡ true =
      ⊎_elim (λ q. rw (eq-eqb count 0 q) refl) (λ q. rw (ne_eqb count 0 q.0, lt-ltb most_axes count q.1) refl) h in
      (stop applies).is

  module _ (some : 1 ≤ count) (most : count ≤ most_axes) where
    is_in_range : (eqb count 0 || ltb most_axes count) ≡ false
    is_in_range = range_passes most_axes count some most

    pub rest_refused : all_at_rest axes ≡ true → Err (1, 0) ≡ axes_result count moves
    unfolding axes_result
    rest_refused h = (skip is_in_range (stop h)).is

    pub axes_result_lem :
        {o : Result ℕ (ℕ × ℕ)} → all_at_rest axes ≡ false → o ≡ first_refusal (checks_from 1 axes) (Ok (common_samples axes))
        → o ≡ axes_result count moves
    unfolding axes_result
    axes_result_lem h q = (skip is_in_range (skip h (record { is = q }))).is

  -- a set that was planned, with the common duration n
  module _ {n : ℕ} (h : Ok n ≡ axes_result count moves) where
    pub all_passed : Each Passes (axes_checks count moves)
    unfolding axes_result
    all_passed = passed (axes_checks count moves) _ _ (sym h)

    pub common_is : n ≡ common_samples axes
    unfolding axes_result
    common_is = sym (passed_same (axes_checks count moves) _ _ (sym h))

    pub count_most : count ≤ most_axes
    count_most = (passed_range most_axes count all_passed.0).1

    pub all_accepted : Each AcceptedAxis axes
    all_accepted = passed_axes 1 axes all_passed.1.1

  -- the places
  pub plans_refused : {x : ℕ × ℕ} → Err x ≡ axes_result count moves → PlansAxes count moves (Err x) (replicate most_axes rest_plan)
  plans_refused q =
      record { outcome_is = q; plans_are = ap (axes_places count moves rest_plan (λ m. axis_plan m (common_samples axes))) q }

  pub refused_answer :
      {r : Result AxesPlan (AxisRefusal Refusal)} {x : AxisRefusal Refusal} → r ≡ Err x → axes_outcome (Err x) ≡ axes_result count moves
      → PlansAxes count moves (axes_outcome r) (axes_plans r)
  refused_answer q h = rw q (plans_refused h)

  pub plans_given :
      {n : ℕ} {plans : List Plan} → Ok n ≡ axes_result count moves
      → n ≡ common_samples axes
      → plans ≡ padded most_axes rest_plan (map (λ m. axis_plan m n) axes)
      → PlansAxes count moves (Ok n) plans
  plans_given {n} {plans} q e p =
      record {
        outcome_is = q;
        plans_are =
            p ∙ ap (λ (n : ℕ). padded most_axes rest_plan (map (λ m. axis_plan m n) axes)) e
            ∙ ap (axes_places count moves rest_plan (λ m. axis_plan m (common_samples axes))) q;
      }

-- the axes were found
module _ {axes : List Move} {x : AxesPlan} (f : FindsEach axes (Ok x)) where
  pub each_common : x.samples ≡ common_samples axes
  each_common = sym (passed_same (checks_from 1 axes) _ _ (sym f.outcome_is))

  pub found_raisable : length axes ≤ most_axes → EachRaisable x.samples x.plans
  found_raisable l =
      let accepted = passed_axes 1 axes (passed (checks_from 1 axes) _ _ (sym f.outcome_is)) in
      subst (EachRaisable x.samples) (sym f.placed)
      (each_raisable x.samples (subst (λ (k : ℕ). k ≤ most_samples) (sym each_common) (common_most axes accepted)) axes l (le_of_eq
      (sym each_common)))

  pub found_raised : map (raised_plan x.samples) x.plans ≡ padded most_axes rest_plan (map (λ m. axis_plan m x.samples) axes)
  found_raised = ap (map (raised_plan x.samples)) f.placed ∙ raised_places x.samples axes
