-- Moves that differ in their start alone have one plan, and sets of them have one common duration and one list of plans.
use mathlib.Core.List.{List, [], ◌∷◌, map}
use mathlib.Core.Path.{◌≡◌, refl, sym, ap, ap₂, ◌∙◌}
use Prim.Native.Nat.{ℕ, max}
use lib.ListN.{take}
use Rattle.planner.specs.Refusals.{padded}
use Rattle.std.specs.Prelude.{Ok}
use Rattle.planner.specs.Outcome.{distance_of, intervals_of, samples_of, plan_of}
use Rattle.planner.specs.Third.{third_intervals_of, third_plan_of}
use Rattle.planner.specs.Axes.{most_axes, rest_plan, axis_plan, own_samples, common_samples, axes_places, PlansAxes}
use Rattle.planner.specs.StartClaims.{from_zero, OnePlanClaim}
use Rattle.planner.specs.declared.Move.{Move}
use Rattle.planner.specs.declared.Plan.{Plan}
use Rattle.planner.specs.declared.ThirdPlan.{ThirdPlan}
use Rattle.planner.proofs.PlannedFacts.{planned_facts}
use Rattle.planner.proofs.ThirdTheorems.{third_facts}
use Rattle.planner.proofs.AxesAcceptance.{planned_common}

-- what does not read the start is the same of moves that differ in it alone
start_unread : {A : Type 0} (f : Move → A) → ((m : Move) → f (from_zero m) ≡ f m) → (m n : Move) → from_zero m ≡ from_zero n → f m ≡ f n
start_unread f unread m n q = sym (unread m) ∙ ap f q ∙ unread n

rule_plan : Move → Plan
rule_plan m = plan_of (distance_of m) (intervals_of m)

plan_unread : (m : Move) → rule_plan (from_zero m) ≡ rule_plan m
unfolding rule_plan intervals_of
plan_unread m = refl

third_rule_plan : Move → ThirdPlan
third_rule_plan m = third_plan_of (distance_of m) (third_intervals_of m)

third_unread : (m : Move) → third_rule_plan (from_zero m) ≡ third_rule_plan m
unfolding third_rule_plan third_intervals_of
third_unread m = refl

-- of lists of moves
mapped_unread : {A : Type 0} (f : Move → A) → ((m : Move) → f (from_zero m) ≡ f m) → (xs : List Move) → map f (map from_zero xs) ≡ map f xs
mapped_unread f unread [] = refl
mapped_unread f unread (m ∷ xs) = ap₂ ◌∷◌ (unread m) (mapped_unread f unread xs)

pub common_unread : (xs : List Move) → common_samples (map from_zero xs) ≡ common_samples xs
unfolding common_samples samples_of intervals_of
common_unread [] = refl
common_unread (m ∷ xs) = ap (max (own_samples m)) (common_unread xs)

axis_unread : (n : ℕ) (m : Move) → axis_plan (from_zero m) n ≡ axis_plan m n
unfolding axis_plan intervals_of
axis_unread n m = refl

module _ (xs ys : List Move) (q : map from_zero xs ≡ map from_zero ys) where
  same_common : common_samples xs ≡ common_samples ys
  same_common = sym (common_unread xs) ∙ ap common_samples q ∙ common_unread ys

  same_plans : map (λ m. axis_plan m (common_samples xs)) xs ≡ map (λ m. axis_plan m (common_samples ys)) ys
  same_plans =
      let f : Move → Plan = λ m. axis_plan m (common_samples xs) in
      sym (mapped_unread f (axis_unread _) xs) ∙ ap (map f) q ∙ mapped_unread f (axis_unread _) ys
      ∙ ap (λ (n : ℕ). map (λ m. axis_plan m n) ys) same_common

-- the places of a set that was planned
places :
    (count : ℕ) (moves : List Move) {n : ℕ} {plans : List Plan} → PlansAxes count moves (Ok n) plans
    → let axes = take count moves in
    plans ≡ padded most_axes rest_plan (map (λ m. axis_plan m (common_samples axes)) axes)
places count moves h =
    h.plans_are ∙ ap (axes_places count moves rest_plan (λ m. axis_plan m (common_samples (take count moves)))) (sym h.outcome_is)

pub one_plan : OnePlanClaim
unfolding rule_plan third_rule_plan
one_plan =
    record {
      fourth = λ m n q x y h l. (planned_facts h).plan_rule ∙ start_unread rule_plan plan_unread m n q ∙ sym (planned_facts l).plan_rule;
      third = λ m n q x y h l. (third_facts h).plan_rule ∙ start_unread third_rule_plan third_unread m n q ∙ sym (third_facts l).plan_rule;
      axes = λ count moves others q n n' plans plans' h l. (
        planned_common count moves h ∙ same_common _ _ q ∙ sym (planned_common count others l),
        places count moves h
            ∙ ap (padded most_axes rest_plan) (same_plans (take count moves) (take count others) q)
            ∙ sym (places count others l),
      );
    }
