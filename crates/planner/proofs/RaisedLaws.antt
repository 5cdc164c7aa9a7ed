-- Laws of an axis that is raised to the common duration.
use borrow.Author.Tests.{ne_eqb}
use mathlib.Core.Bool.{true, false, true≢false}
use mathlib.Core.Path.{◌≡◌, refl, sym, ap, subst, ◌∙◌}
use mathlib.Core.List.{List, [], ◌∷◌, map}
use Prim.Native.Nat.{ℕ, zero, suc, ◌+◌, ◌-◌, ◌≤◌, ◌<◌}
use native.Mathlib.Omega.{arith}
use lib.Dec.{eqb}
use lib.ListN.{length, get_or, replicate}
use Rattle.planner.specs.Intervals.{Intervals, N}
use Rattle.planner.specs.Refusals.{Each, padded}
use Rattle.planner.specs.Outcome.{most_samples, distance_of, intervals_of, intervals_in, samples_of, plan_of}
use Rattle.planner.specs.Claims.{Accepted}
use Rattle.planner.specs.Axes.{most_axes, rest_plan, raised, at_rest, own_samples, common_samples, axis_plan}
use Rattle.planner.specs.AxesClaims.{AcceptedAxis}
use Rattle.planner.specs.Inner.AxisAnswers.{undivided_axis, each_places, raised_plan, Raisable, EachRaisable}
use Rattle.planner.specs.Inner.Facts.{Ordered, PlanFacts}
use Rattle.planner.specs.Inner.Undivided.{undivided}
use Rattle.planner.specs.declared.Move.{Move}
use Rattle.planner.specs.declared.Plan.{Plan}
use Rattle.planner.proofs.PlannedFacts.{rule_ordered, last_ordered, last_facts}
use Rattle.planner.proofs.EachLaws.{each_at, each_joined}
use Rattle.planner.proofs.AxisLaws.{by_rest, chosen, rest_moving, own_is}
use Rattle.planner.proofs.AxesLaws.{own_within, common_most}
use Rattle.planner.proofs.PaddedLaws.{padded_length, padded_mapped}

-- "by the difference": it then takes n samples
pub raised_samples : (n : ℕ) (t : Intervals) → N t ≤ n → N (raised n t) ≡ n
raised_samples n t h = omega arith

longer : (e d : ℕ) → e ≤ e + d
longer e d = omega arith

pub raised_ordered : (n : ℕ) (m : Move) → Ordered (raised n (intervals_of m))
raised_ordered n m = last_ordered m _ (longer _ _)

module _ (m : Move) (n : ℕ) (own : samples_of m ≤ n) where
  pub takes_common : N (raised n (intervals_of m)) ≡ n
  unfolding samples_of
  takes_common = raised_samples n (intervals_of m) own

  raised_facts : Accepted m → n ≤ most_samples
      → PlanFacts m (raised n (intervals_of m)) (plan_of (distance_of m) (raised n (intervals_of m)))
  raised_facts h most = last_facts m _ (longer _ _) h (subst (λ (k : ℕ). k ≤ most_samples) (sym takes_common) most)

-- a moving axis of accepted ones, raised to the largest N of them
module _ (axes : List Move) (h : Each AcceptedAxis axes) (i : ℕ) (d : Move) (l : i < length axes) (moves : at_rest (get_or axes i d)
    ≡ false) where
  abbrev axis : Move
  axis = get_or axes i d

  own_samples_lem : samples_of axis ≤ common_samples axes
  own_samples_lem = subst (λ (k : ℕ). k ≤ common_samples axes) (chosen _ _ moves) (own_within axes i d l)

  abbrev raised_axis : Intervals
  raised_axis = raised (common_samples axes) (intervals_of axis)

  pub raised_axis_lem : PlanFacts axis raised_axis (plan_of (distance_of axis) raised_axis)
  raised_axis_lem =
      raised_facts axis (common_samples axes) own_samples_lem ((each_at AcceptedAxis axes i d l h).moving (rest_moving axis moves))
      (common_most axes h)

  pub raised_axis_samples : N raised_axis ≡ common_samples axes
  raised_axis_samples = takes_common axis (common_samples axes) own_samples_lem

-- the plan of an axis by the test whether it is at rest
pub resting_plan : (m : Move) (n : ℕ) → at_rest m ≡ true → axis_plan m n ≡ rest_plan
unfolding axis_plan
resting_plan m n h = chosen _ _ h

pub moving_plan : (m : Move) (n : ℕ) → at_rest m ≡ false → axis_plan m n ≡ plan_of (distance_of m) (raised n (intervals_of m))
unfolding axis_plan
moving_plan m n h = chosen _ _ h

-- an axis by itself can be raised to a common duration n that is not shorter, and comes to the rule's plan
module _ (m : Move) (n : ℕ) where
  abbrev own : Plan
  own = undivided (distance_of m) (intervals_of m)

  has_intervals : eqb own.a 0 ≡ false
  has_intervals = ne_eqb own.a 0 (λ q. omega (arith, q, (rule_ordered m).one_a))

  pub raise_is : raised_plan n (undivided_axis m) ≡ axis_plan m n
  unfolding axis_plan
  raise_is =
      by_rest m
      (λ h. ap (raised_plan n) (chosen _ _ h) ∙ sym (chosen _ _ h))
      (λ h. ap (raised_plan n) (chosen _ _ h) ∙ chosen _ _ has_intervals ∙ sym (chosen _ _ h))

  raisable : own_samples m ≤ n → n ≤ most_samples → Raisable n (undivided_axis m)
  raisable l most =
      record {
        ordered = λ q.
            by_rest m
            (λ h. absurd (true≢false (ap (λ (x : Plan). eqb x.a 0) (sym (chosen _ _ h)) ∙ q)))
            (λ h. subst (λ (x : Plan). Ordered (intervals_in x)) (sym (chosen _ _ h)) (rule_ordered m));
        not_longer = subst (λ (k : ℕ). k ≤ n) (sym (own_is m)) l;
        samples = most;
      }

-- so for all, and for the places that none takes
module _ (n : ℕ) (most : n ≤ most_samples) where
  axes_raisable : (axes : List Move) → common_samples axes ≤ n → Each (Raisable n) (map undivided_axis axes)
  unfolding common_samples
  axes_raisable [] l = tt
  axes_raisable (m ∷ ms) l = (raisable m n (omega arith) most, axes_raisable ms (omega arith))

  unused_raisable : (k : ℕ) → Each (Raisable n) (replicate k rest_plan)
  unused_raisable zero = tt
  unused_raisable (suc k) =
      (record { ordered = λ q. absurd (true≢false q); not_longer = omega arith; samples = most }, unused_raisable k)

  pub each_raisable : (axes : List Move) → length axes ≤ most_axes → common_samples axes ≤ n → EachRaisable n (each_places axes)
  each_raisable axes h l =
      record {
        places = padded_length undivided_axis most_axes rest_plan axes h;
        each = each_joined (Raisable n) (map undivided_axis axes) _ (axes_raisable axes l) (unused_raisable (most_axes - length
            (map undivided_axis axes)));
      }

pub raised_places :
    (n : ℕ) (axes : List Move) → map (raised_plan n) (each_places axes) ≡ padded most_axes rest_plan (map (λ m. axis_plan m n) axes)
raised_places n axes = padded_mapped (raised_plan n) undivided_axis (λ m. axis_plan m n)
    (λ m. raise_is m n) most_axes rest_plan rest_plan refl axes
