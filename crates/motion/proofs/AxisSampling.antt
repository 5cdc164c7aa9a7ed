-- One axis of a set: what its sample needs of the plan, and that it is the rule's row.
use mathlib.Core.Bool.{Bool, true, false, cond}
use mathlib.Core.Path.{◌≡◌, sym, ap, subst, ◌∙◌}
use mathlib.Core.List.{List}
use Prim.Native.Nat.{ℕ, ◌≤◌, ◌<◌}
use lib.IntN.{ℤ, pos, +ℤ_idr}
use lib.ListN.{length, get_or}
use Rattle.planner.specs.Intervals.{Intervals, N, D}
use Rattle.planner.specs.Refusals.{Each}
use Rattle.planner.specs.Outcome.{distance_of, intervals_of, intervals_in}
use Rattle.planner.specs.Axes.{raised, at_rest, axis_plan, common_samples}
use Rattle.planner.specs.AxesClaims.{AcceptedAxis}
use Rattle.planner.specs.declared.Move.{Move}
use Rattle.planner.specs.declared.Plan.{Plan}
use Rattle.planner.proofs.EachLaws.{each_at}
use Rattle.planner.proofs.AxisLaws.{by_rest, chosen, axis_ends_in_span}
use Rattle.planner.proofs.RaisedLaws.{raised_axis_lem, raised_axis_samples, moving_plan}
use Rattle.motion.specs.Sampling.{units_of, Values, values_at, sample_of, Rounding}
use Rattle.motion.specs.Axes.{rest_values, rest_sample, axis_values, axis_exact}
use Rattle.motion.specs.Inner.Planned.{PlanInRange, IsSample}
use Rattle.motion.specs.Inner.PlannedAxes.{AxisInRange, IsAxisSample}
use Rattle.motion.specs.declared.Sample.{Sample}
use Rattle.motion.proofs.CountLaws.{no_distance}
use Rattle.motion.proofs.RoundedValues.{with_rounding, one_rounded_sample}
use Rattle.motion.proofs.EntryLaws.{within_range}

-- an axis by the test whether it is at rest: its exact profile, and its values
module _ (n : ℕ) (m : Move) {rests : Bool} (h : at_rest m ≡ rests) where
  abbrev t : Intervals
  t = raised n (intervals_of m)

  pub exact_by : axis_exact n m ≡ (λ k. cond rests (pos 0) (values_at m.displacement t (distance_of m) k).position)
  unfolding axis_exact
  exact_by = λ i k. cond (h i) (pos 0) (values_at m.displacement t (distance_of m) k).position

  pub values_by : (k : ℕ) → axis_values n m k ≡ cond rests rest_values (values_at m.displacement t (D t (distance_of m)) k)
  unfolding axis_values
  values_by k = chosen _ _ h

-- no distance from the start
stays : (start : ℤ) → sample_of start rest_values no_distance ≡ rest_sample start
unfolding no_distance
stays start =
    λ i.
    record {
      snap = pos 0;
      jerk = pos 0;
      acceleration = pos 0;
      velocity = pos 0;
      position = +ℤ_idr (units_of start) i;
      count = +ℤ_idr start i;
      remainder = pos 0;
    }

-- its row at sample k
module _ (n : ℕ) (m : Move) (k : ℕ) where
  -- the rule's
  abbrev pub axis_row : Sample
  axis_row = with_rounding m.start (axis_values n m k)

  pub row_of : {v : Values} → v ≡ axis_values n m k → (r : Rounding v.position) → sample_of m.start v r ≡ axis_row
  row_of {v} q r = one_rounded_sample m.start v r ∙ ap (with_rounding m.start) q

  pub resting_row : at_rest m ≡ true → axis_row ≡ rest_sample m.start
  resting_row h = sym (row_of (sym (values_by n m h k)) no_distance) ∙ stays m.start

  moving_row :
      {x : Plan} {r : Sample} → x ≡ axis_plan m n → at_rest m ≡ false
      → IsSample m.displacement (intervals_in x) x.snap m.start k r → r ≡ axis_row
  moving_row {r = r} q h s =
      let planned = ap (λ (x : Plan). values_at m.displacement (intervals_in x) x.snap k) (q ∙ moving_plan m n h) in
      s.sample_is ∙ row_of (planned ∙ sym (values_by n m h k)) s.rounding

  pub is_row : {x : Plan} {r : Sample} → x ≡ axis_plan m n → IsAxisSample m x k r → r ≡ axis_row
  is_row q s = by_rest m (λ h. s.resting h ∙ sym (resting_row h)) (λ h. moving_row q h (s.moving h))

-- axis i of accepted ones has a plan in range, with every sample to the common N
pub axis_in_range :
    (axes : List Move) → Each AcceptedAxis axes → (i : ℕ) (d : Move) → i < length axes
    → {x : Plan} → x ≡ axis_plan (get_or axes i d) (common_samples axes)
    → (k : ℕ) → k ≤ common_samples axes → AxisInRange (get_or axes i d) x k
axis_in_range axes h i d l {x} q k s =
    let m = get_or axes i d in
    record {
      start = (axis_ends_in_span _ (each_at AcceptedAxis axes i d l h)).start;
      plan = λ moves.
          subst PlanInRange (sym (q ∙ moving_plan m (common_samples axes) moves)) (within_range (raised_axis_lem axes h i d l moves));
      sample = λ moves.
          subst (λ (x : Plan). k ≤ N (intervals_in x)) (sym (q ∙ moving_plan m (common_samples axes) moves))
          (subst (λ (n : ℕ). k ≤ n) (sym (raised_axis_samples axes h i d l moves)) s);
    }
