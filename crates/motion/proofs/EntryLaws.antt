-- From the planner's answer to what an entry promises: what it may do with a plan, in either order, and which refusal comes first.
use mathlib.Core.Bool.{Bool, true, false}
use mathlib.Core.List.{List, [], ◌∷◌, ◌++◌}
use mathlib.Core.Path.{◌≡◌, sym, ap, ap₂, ◌∙◌, fun_ext}
use Prim.Native.Nat.{ℕ, ◌≤◌}
use native.Mathlib.Nat.{le_trans}
use native.Mathlib.Omega.{arith}
use lib.Ieee.{Float}
use lib.IntN.{ℤ, nat_abs}
use Rattle.planner.specs.Intervals.{Intervals, N}
use Rattle.planner.specs.Refusals.{Each, Check, check, first_refusal}
use Rattle.std.specs.Prelude.{Result, Ok, Err}
use Rattle.planner.specs.Outcome.{most_counts, distance_of, intervals_of, intervals_in, samples_of, plan_of, checks, outcome_of, Plans}
use Rattle.planner.specs.Third.{N₃, third_intervals_of, third_intervals_in, third_samples_of, third_plan_of, third_checks, third_outcome_of, PlansThird}
use Rattle.planner.specs.Inner.Facts.{PlanFacts}
use Rattle.planner.specs.Inner.ThirdFacts.{ThirdFacts}
use Rattle.planner.specs.declared.Move.{Move}
use Rattle.planner.specs.declared.Plan.{Plan}
use Rattle.planner.specs.declared.ThirdPlan.{ThirdPlan}
use Rattle.planner.proofs.Acceptance.{accepted_passes, third_passes}
use Rattle.planner.proofs.FiguresChecks.{near_distance}
use Rattle.planner.proofs.RefusalLaws.{Passes, stop, skip, none_left, all_pass, checks_joined}
use Rattle.motion.specs.Sampling.{values_at, values_of, third_values_of, fourth_order, third_order}
use Rattle.motion.specs.ForceRows.Machine.{Machine, machine_as_read}
use Rattle.motion.specs.ForceRows.Doubled.{Doubled, doubled_values}
use Rattle.motion.specs.ForceRows.Force.{force_row}
use Rattle.motion.specs.Tables.{row_numbers, force}
use Rattle.motion.specs.Inner.Orders.{PlannedAs}
use Rattle.motion.specs.Inner.Planned.{WithinRange, ThirdPlanInRange, samples_in, fourth_values_in, third_values_in, planned_numbers, planned_force}

-- what the planner refuses with is the first refusal of its checks
pub plan_refused :
    {m : Move} {o : Result Plan ℕ} {n : ℕ} → Plans m o → o ≡ Err n
    → Err n ≡ first_refusal (checks m) (Ok (plan_of (distance_of m) (intervals_of m)))
unfolding outcome_of
plan_refused h q = sym q ∙ h.outcome_is

pub third_plan_refused :
    {m : Move} {o : Result ThirdPlan ℕ} {n : ℕ} → PlansThird m o → o ≡ Err n
    → Err n ≡ first_refusal (third_checks m) (Ok (third_plan_of (distance_of m) (third_intervals_of m)))
unfolding third_outcome_of
third_plan_refused h q = sym q ∙ h.outcome_is

-- where the planner refuses nothing, the entry's own checks are left
module _ (xs : List (Check ℕ)) (p : Each Passes xs) where
  pub own_checks : {A : Type 0} (own : List (Check ℕ)) (o : Result A ℕ) → first_refusal (xs ++ own) o ≡ first_refusal own o
  own_checks own o = checks_joined xs own o ∙ all_pass xs (first_refusal own o) p

  pub applies : {A : Type 0} (n : ℕ) (t : Bool) (o : Result A ℕ) → t ≡ true → first_refusal (xs ++ (check n t ∷ [])) o ≡ Err n
  applies n t o k = own_checks (check n t ∷ []) o ∙ sym (stop k).is

  pub passes : {A : Type 0} (n : ℕ) (t : Bool) (o : Result A ℕ) → t ≡ false → first_refusal (xs ++ (check n t ∷ [])) o ≡ o
  passes n t o k = own_checks (check n t ∷ []) o ∙ sym (skip k none_left).is

-- the move was planned as x, in any intervals
module _ {m : Move} {t : Intervals} {x : Plan} (f : PlanFacts m t x) where
  pub within_range : WithinRange (intervals_in x) x.snap
  within_range =
      record {
        ordered = f.ordered;
        samples = f.samples;
        reach = le_trans (omega (arith, f.whole)) (near_distance m.displacement f.accepted.is_in_range.near);
        speed = le_trans f.bounds.velocity f.accepted.is_in_range.bounds.velocity.at_most;
      }

  pub start_in_span : nat_abs m.start ≤ most_counts
  start_in_span = f.accepted.is_in_range.ends.start

-- in the rule's own
module _ {m : Move} {x : Plan} (f : PlanFacts m (intervals_of m) x) where
  -- what is made of the plan is what is made of the rule's
  by_rule : {T : Type 0} (F : Plan → T) → F x ≡ F (plan_of (distance_of m) (intervals_of m))
  by_rule F = ap F f.plan_rule

  pub fourth_planned : PlannedAs (fourth_order m) (N (intervals_in x)) (values_at m.displacement (intervals_in x) x.snap)
  unfolding samples_of values_of
  fourth_planned =
      record {
        pass = accepted_passes m f.accepted;
        samples_are = by_rule (λ x. N (intervals_in x));
        values_are = λ k. by_rule (λ x. values_at m.displacement (intervals_in x) x.snap k);
      }

-- the force rows of a plan that is the rule's
module _ (m : Move) (x : Plan) (f : PlannedAs (fourth_order m) (samples_in x) (fourth_values_in m.displacement x)) where
  same_numbers : planned_numbers m.displacement (intervals_in x) x.snap ≡ row_numbers m
  unfolding row_numbers
  same_numbers = ap₂ doubled_values f.samples_are (fun_ext f.values_are)

  pub force_is : (machine : Machine Float) (k : ℕ) → planned_force m.displacement (intervals_in x) x.snap machine k ≡ force m machine k
  unfolding force
  force_is machine k = ap (λ (w : ℕ → Doubled ℤ). force_row (machine_as_read machine) w k) same_numbers

pub numbers_are :
    {m : Move} {x : Plan} (f : PlanFacts m (intervals_of m) x) → planned_numbers m.displacement (intervals_in x) x.snap ≡ row_numbers m
numbers_are {m = m} {x = x} f = same_numbers m x (fourth_planned f)

-- in the third order
module _ {m : Move} {x : ThirdPlan} (f : ThirdFacts m x) where
  pub third_within_range : ThirdPlanInRange x
  third_within_range =
      record {
        ordered = f.ordered;
        samples = f.samples;
        reach = le_trans (omega (arith, f.whole)) (near_distance m.displacement f.accepted.is_in_range.near);
      }

  pub third_start_in_span : nat_abs m.start ≤ most_counts
  third_start_in_span = f.accepted.is_in_range.ends.start

  pub third_planned : PlannedAs (third_order m) (N₃ (third_intervals_in x)) (third_values_in m.displacement x)
  unfolding third_samples_of third_values_of
  third_planned =
      record {
        pass = third_passes m f.accepted;
        samples_are = ap (λ (x : ThirdPlan). N₃ (third_intervals_in x)) f.plan_rule;
        values_are = λ k. ap (λ (x : ThirdPlan). third_values_in m.displacement x k) f.plan_rule;
      }
