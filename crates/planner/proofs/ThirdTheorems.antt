-- Third-order plans: the claims of specs/ThirdClaims.antt, and from "planned" to all that holds of a plan.
use mathlib.Core.List.{List, [], ◌∷◌}
use mathlib.Core.Path.{◌≡◌, refl, sym, ap, subst, ◌∙◌}
use Prim.Native.Nat.{ℕ}
use native.Mathlib.Nat.{le_refl}
use native.Mathlib.Omega.{arith}
use lib.Dec.{ltb}
use Rattle.planner.specs.Refusals.{Check, check}
use Rattle.std.specs.Prelude.{Result, Ok, Err}
use Rattle.planner.specs.Outcome.{most_samples, ends_outside, span_check, distance_of}
use Rattle.planner.specs.Order.{rank}
use Rattle.planner.specs.Third.{third_intervals_of, third_samples_of, third_plan_of, third_outcome_of, PlansThird}
use Rattle.planner.specs.ThirdClaims.{ThirdAccepted, OneThirdAnswerClaim, ThirdPlanOrderClaim, SnapUnreadClaim, ThirdIntervalClaim}
use Rattle.planner.specs.Inner.Capped.{FiguresToJerk}
use Rattle.planner.specs.Inner.ThirdWithin.{third_within}
use Rattle.planner.specs.Inner.Undivided.{FiguresOf}
use Rattle.planner.specs.Inner.ThirdFacts.{ThirdOrdered, ThirdFacts}
use Rattle.planner.specs.declared.Move.{Move}
use Rattle.planner.specs.declared.ThirdPlan.{ThirdPlan}
use Rattle.planner.specs.declared.figures.Figures.{Figures}
use Rattle.planner.proofs.ResultLaws.{same_given}
use Rattle.planner.proofs.FiguresChecks.{near_distance, figures_of, figures_refused, figures_passed, measured}
use Rattle.planner.proofs.Acceptance.{third_acceptance, third_accepted_outcome}
use Rattle.planner.proofs.AnswerLaws.{outcome_injective}
use Rattle.planner.proofs.PlannedFacts.{whole, below}
use Rattle.planner.proofs.ThirdLaws.{base_b, third_ordered, third_keeps_bounds, third_positive, third_product}

pub one_third_answer : OneThirdAnswerClaim
one_third_answer m x y h l = outcome_injective x y (h.outcome_is ∙ sym l.outcome_is)

pub third_plan_order : ThirdPlanOrderClaim
unfolding rank
third_plan_order m = (refl, omega arith)

pub snap_unread : SnapUnreadClaim
unfolding third_outcome_of third_samples_of third_intervals_of
snap_unread m S₀ o h = record { outcome_is = h.outcome_is }

module _ (m : Move) where
  pub third_rule_ordered : ThirdOrdered (third_intervals_of m)
  unfolding third_intervals_of
  third_rule_ordered = third_ordered (distance_of m) m.velocity m.acceleration m.jerk

  pub third_rule_facts : ThirdAccepted m → ThirdFacts m (third_plan_of (distance_of m) (third_intervals_of m))
  unfolding third_samples_of third_intervals_of
  third_rule_facts h =
      let i = h.is_in_range in
      let figures : FiguresToJerk (distance_of m) m.velocity m.acceleration m.jerk =
      record { distance = near_distance m.displacement i.near; velocity = i.velocity; acceleration = i.acceleration; jerk = i.jerk } in
      record {
        accepted = h;
        plan_rule = refl;
        ordered = third_rule_ordered;
        samples = h.short_enough;
        product = third_product third_rule_ordered h.short_enough;
        shortfall_below = below _ _ (third_positive third_rule_ordered);
        whole = whole _ _;
        bounds = third_keeps_bounds _ _ _ _ figures m (le_refl _) (le_refl _) (le_refl _);
      }

pub third_interval_claim : (m : Move) → ThirdIntervalClaim m
unfolding third_intervals_of
third_interval_claim m =
    let o = third_rule_ordered m in
    record {
      base_b = base_b _ _ _ _;
      durations = omega (arith, o.b_c, o.bc_e);
      product = third_product o;
    }

module _ {m : Move} where
  pub third_facts : {x : ThirdPlan} → PlansThird m (Ok x) → ThirdFacts m x
  third_facts h =
      let k = (third_acceptance m _ h).0 tt in
      subst (ThirdFacts m) (sym (same_given (h.outcome_is ∙ third_accepted_outcome m k))) (third_rule_facts m k)

-- what `plan_third` answers
module _ (m : Move) where
  abbrev last : List (Check ℕ)
  last = span_check m.displacement m.start ∷ check 7 (ltb most_samples (third_samples_of m)) ∷ []

  pub third_figures_refused : (n : ℕ) → Err n ≡ figures_of m → Err n ≡ third_outcome_of m
  unfolding third_outcome_of
  third_figures_refused n h = figures_refused m last _ n h

  pub third_figures_given :
      {f : Figures} {o : Result ThirdPlan ℕ}
      → FiguresOf m f
      → o ≡ third_within f.distance f.velocity f.acceleration f.jerk (ends_outside m.displacement m.start)
      → o ≡ third_outcome_of m
  unfolding third_within third_outcome_of third_samples_of third_intervals_of
  third_figures_given f q =
      rw (f.velocity_is, f.acceleration_is, f.jerk_is) at q
      ∙ ap (λ (W : ℕ). third_within W m.velocity m.acceleration m.jerk (ends_outside m.displacement m.start)) (measured m f.distance_is)
      ∙ figures_passed m last _ f.distance_is
