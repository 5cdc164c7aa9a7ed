-- A move alone is the set of one.
use mathlib.Core.Bool.{true, false}
use mathlib.Core.List.{List, [], ◌∷◌, ◌++◌}
use mathlib.Core.Path.{◌≡◌, refl, sym, ap, subst, ◌∙◌}
use Prim.Native.Nat.{ℕ, ◌+◌, ◌-◌, ◌≤◌}
use native.Mathlib.Omega.{arith}
use borrow.Author.Tests.{ne_eqb}
use lib.Dec.{ltb}
use Rattle.planner.specs.Intervals.{Intervals, N}
use Rattle.planner.specs.Refusals.{Check, check, first_refusal, padded}
use Rattle.std.specs.Prelude.{Result, Ok, Err}
use Rattle.planner.specs.Outcome.{most_samples, out_of_span, span_check, distance_of, intervals_of, samples_of, bound_checks, plan_of, outcome_of, intervals_in, Plans}
use Rattle.planner.specs.Claims.{Accepted}
use Rattle.planner.specs.Axes.{most_axes, raised, rest_plan, at_rest, axis_checks, axis_plan, all_at_rest, common_samples, checks_from, PlansAxes}
use Rattle.planner.specs.AxesClaims.{AcceptedAxis, place_of_one, outcome_of_one, places_of_one, SetOfOneClaim}
use Rattle.planner.specs.declared.Move.{Move}
use Rattle.planner.specs.declared.Plan.{Plan}
use Rattle.planner.proofs.RefusalLaws.{stop, skip}
use Rattle.planner.proofs.RuleRefusals.{refusal_has}
use Rattle.planner.proofs.Acceptance.{acceptance, accepted_outcome}
use Rattle.planner.proofs.AxisLaws.{chosen, by_rest, rest_moving}
use Rattle.planner.proofs.AxesLaws.{placed_refused}
use Rattle.planner.proofs.AxesAnswers.{rest_refused, axes_result_lem, plans_refused, plans_given}
use Rattle.planner.proofs.MovingLaws.{not_all_rest}
use Rattle.planner.proofs.LongestLaws.{own_moving}
use Rattle.planner.proofs.AxesAcceptance.{axes_given}

-- nothing is raised
pub raised_own : (t : Intervals) → raised (N t) t ≡ t
raised_own t =
    let same : t.e + (N t - N t) ≡ t.e = omega arith in
    ap {B = Intervals} (λ (e : ℕ). record { a = t.a; b = t.b; c = t.c; e = e }) same

-- a number from 2 up other than 9
abbrev OtherThanNine : ℕ → Type 0
OtherThanNine n = (2 ≤ n) × (1 ≤ n - 9 + (9 - n))

place : (n : ℕ) → OtherThanNine n → place_of_one n ≡ 1
place n h = rw (ne_eqb n 1 (λ e. omega (arith, h.0, e)), ne_eqb n 9 (λ e. omega (arith, h.1, e))) refl

-- what the move and its axis come to
module _ (m : Move) where
  abbrev plan : Plan
  plan = plan_of (distance_of m) (intervals_of m)

  rest_outcome : at_rest m ≡ true → outcome_of m ≡ Err 1
  unfolding outcome_of
  rest_outcome q = sym (stop q).is

  module _ (q : at_rest m ≡ false) where
    same_checks : first_refusal (axis_checks m) (Ok plan) ≡ outcome_of m
    unfolding outcome_of
    same_checks = ap (λ (xs : List (Check ℕ)). first_refusal xs (Ok plan)) (chosen _ _ q)

    of_an_axis : (n : ℕ) → outcome_of m ≡ Err n → OtherThanNine n
    unfolding outcome_of
    of_an_axis n h =
        refusal_has OtherThanNine (check 2 (out_of_span m.displacement) ∷ bound_checks m.velocity m.acceleration
        m.jerk m.snap ++ (span_check m.displacement m.start ∷ check 7 (ltb most_samples (samples_of m)) ∷ []))
        plan (omega arith) n ((skip q (record { is = refl })).is ∙ h)

    not_raised : plan ≡ axis_plan m (N (intervals_of m))
    unfolding axis_plan
    not_raised = sym (chosen _ _ q ∙ ap (plan_of (distance_of m)) (raised_own (intervals_of m)))

    pub own_common : N (intervals_of m) ≡ common_samples (m ∷ [])
    unfolding common_samples samples_of
    own_common = omega (arith, own_moving m (rest_moving m q))

    accepted_axis : Accepted m → AcceptedAxis m
    accepted_axis k = record { moving = λ _. k; resting = λ r. absurd (omega (arith, r, rest_moving m q)) }

-- the set
module _ (m : Move) (others : List Move) where
  abbrev Alone : Result Plan ℕ → Type 0
  Alone o = PlansAxes 1 (m ∷ others) (outcome_of_one (λ x. N (intervals_in x)) o) (places_of_one rest_plan o)

  rest_alone : at_rest m ≡ true → Alone (Err 1)
  unfolding all_at_rest
  rest_alone q = plans_refused 1 (m ∷ others) (rest_refused 1 (m ∷ others) (omega arith) (omega arith) (rw q refl))

  module _ (q : at_rest m ≡ false) where
    moves : all_at_rest (m ∷ []) ≡ false
    moves = not_all_rest (m ∷ []) 0 (omega arith) (rest_moving m q)

    refused_alone : (n : ℕ) → outcome_of m ≡ Err n → Alone (Err n)
    unfolding checks_from
    refused_alone n h =
        plans_refused 1 (m ∷ others)
        (ap (λ (p : ℕ). Err (n, p)) (place n (of_an_axis m q n h))
        ∙ axes_result_lem 1 (m ∷ others) (omega arith) (omega arith) moves (sym (placed_refused 1 [] _ (axis_checks m) (plan m) n (same_checks m q ∙ h))))

    given_alone : Accepted m → Alone (Ok (plan m))
    given_alone k =
        plans_given 1 (m ∷ others)
        (ap Ok (own_common m q) ∙ sym (axes_given 1 (m ∷ others) refl moves (accepted_axis m q k, tt)))
        (own_common m q)
        (ap (λ (x : Plan). padded most_axes rest_plan (x ∷ [])) (not_raised m q))

    moving_alone : (o : Result Plan ℕ) → Plans m o → Alone o
    moving_alone (Err n) h = refused_alone n (sym h.outcome_is)
    moving_alone (Ok x) h =
        let k = (acceptance m _ h).0 tt in
        subst Alone (sym (h.outcome_is ∙ accepted_outcome m k)) (given_alone k)

pub set_of_one : SetOfOneClaim
set_of_one m others o h =
    by_rest m
    (λ q. subst (Alone m others) (sym (h.outcome_is ∙ rest_outcome m q)) (rest_alone m others q))
    (λ q. moving_alone m others q o h)
