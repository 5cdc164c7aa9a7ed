-- What follows where a plan was found but for its D, and where it was refused.
use mathlib.Core.Bool.{Bool}
use mathlib.Core.List.{List, [], ◌∷◌}
use mathlib.Core.Path.{◌≡◌, sym, ap, subst, ◌∙◌}
use Prim.Native.Nat.{ℕ}
use lib.Dec.{ltb}
use Rattle.planner.specs.Refusals.{Check, check}
use Rattle.std.specs.Prelude.{Result, Ok, Err}
use Rattle.planner.specs.Outcome.{most_samples, out_of_range, ends_outside, span_check, checks, distance_of, intervals_of, intervals_in, samples_of, plan_of, outcome_of}
use Rattle.planner.specs.Claims.{Accepted}
use Rattle.planner.specs.Inner.Undivided.{undivided, undivided_result, undivided_within, Divisible, FiguresOf}
use Rattle.planner.specs.declared.Move.{Move}
use Rattle.planner.specs.declared.figures.Figures.{Figures}
use Rattle.planner.specs.declared.Plan.{Plan}
use Rattle.planner.proofs.RefusalLaws.{passed, passed_same, same_refusal}
use Rattle.planner.proofs.FiguresChecks.{figures_of, figures_refused, figures_passed, measured}
use Rattle.planner.proofs.Acceptance.{passed_accepted, accepted_outcome}
use Rattle.planner.proofs.PlannedFacts.{rule_ordered}

module _ (m : Move) where
  -- what `undivided_plan` answers: after the figures that both orders read, refusals 6, 14 and 7 are left
  abbrev last : List (Check ℕ)
  last = check 6 (out_of_range m.snap) ∷ span_check m.displacement m.start ∷ check 7 (ltb most_samples (samples_of m)) ∷ []

  abbrev outside : Bool
  outside = ends_outside m.displacement m.start

  pub undivided_refused : (n : ℕ) → Err n ≡ figures_of m → Err n ≡ undivided_result m
  unfolding undivided_result
  undivided_refused n h = figures_refused m last _ n h

  pub undivided_given :
      {f : Figures} {o : Result Plan ℕ}
      → FiguresOf m f
      → o ≡ undivided_within f.distance f.velocity f.acceleration f.jerk m.snap outside
      → o ≡ undivided_result m
  unfolding undivided_within undivided_result intervals_of samples_of
  undivided_given f q =
      rw (f.velocity_is, f.acceleration_is, f.jerk_is) at q
      ∙ ap (λ (W : ℕ). undivided_within W m.velocity m.acceleration m.jerk m.snap outside) (measured m f.distance_is)
      ∙ figures_passed m last _ f.distance_is

  module _ {x : Plan} (h : Ok x ≡ undivided_result m) where
    found_is : x ≡ undivided (distance_of m) (intervals_of m)
    unfolding undivided_result
    found_is = sym (passed_same (checks m) _ _ (sym h))

    found_accepted : Accepted m
    unfolding undivided_result
    found_accepted = passed_accepted m (passed (checks m) _ _ (sym h))

    pub found_divisible : Divisible x
    unfolding samples_of
    found_divisible = subst Divisible (sym found_is) (record { ordered = rule_ordered m; samples = found_accepted.short_enough })

    pub found_outcome : Ok (plan_of x.shortfall (intervals_in x)) ≡ outcome_of m
    found_outcome = ap (λ (x : Plan). Ok (plan_of x.shortfall (intervals_in x))) found_is ∙ sym (accepted_outcome m found_accepted)

  pub refused_outcome : (n : ℕ) → Err n ≡ undivided_result m → Err n ≡ outcome_of m
  unfolding undivided_result outcome_of
  refused_outcome n h = sym (same_refusal (checks m) _ _ n (sym h))
