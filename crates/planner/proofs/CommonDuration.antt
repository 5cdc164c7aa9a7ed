-- "The common duration is the largest N", and every moving axis ends there.
use mathlib.Core.List.{List}
use mathlib.Core.Path.{◌≡◌, sym, ap, subst, ◌∙◌}
use Prim.Native.Nat.{ℕ, ◌≤◌, ◌<◌}
use native.Mathlib.Nat.{le_trans}
use native.Mathlib.Omega.{arith}
use lib.ListN.{length, take}
use Rattle.planner.specs.Intervals.{N}
use Rattle.std.specs.Prelude.{Ok}
use Rattle.planner.specs.Outcome.{samples_of, intervals_in}
use Rattle.planner.specs.Axes.{most_axes, axis_plan, own_samples, common_samples, PlansAxes}
use Rattle.planner.specs.AxesClaims.{Moving, axis_at, CommonDurationClaim}
use Rattle.planner.specs.declared.Move.{Move}
use Rattle.planner.specs.declared.Plan.{Plan}
use Rattle.planner.proofs.AxisLaws.{moving_rest}
use Rattle.planner.proofs.AxesLaws.{own_within}
use Rattle.planner.proofs.RaisedLaws.{takes_common, moving_plan}
use Rattle.planner.proofs.CountedLaws.{counted_at, within, below_count}
use Rattle.planner.proofs.LongestLaws.{samples_from_one, own_moving, longest}
use Rattle.planner.proofs.AxesAcceptance.{planned_common, planned_accepted, axis_plan_at}

-- a moving axis, raised
moving_end : (m : Move) (n : ℕ) → Moving m → samples_of m ≤ n → N (intervals_in (axis_plan m n)) ≡ n
moving_end m n h l = ap (λ (x : Plan). N (intervals_in x)) (moving_plan m n (moving_rest m h)) ∙ takes_common m n l

module _ (count : ℕ) (moves : List Move) (sent : length moves ≡ most_axes)
    {n : ℕ} {plans : List Plan} (h : PlansAxes count moves (Ok n) plans) where
  pub own_not_longer : (i : ℕ) → i < count → Moving (axis_at moves i) → samples_of (axis_at moves i) ≤ n
  own_not_longer i l k =
      let own : own_samples (axis_at moves i) ≤ common_samples (take count moves) =
      subst (λ (m : Move). own_samples m ≤ common_samples (take count moves)) (counted_at count moves i l)
      (own_within (take count moves) i _ (within count moves sent (planned_accepted count moves h sent).at_most i l)) in
      omega (arith, own, own_moving (axis_at moves i) k, planned_common count moves h)

  from_one : 1 ≤ n
  from_one =
      let s = (planned_accepted count moves h sent).some_moves in
      le_trans (samples_from_one (axis_at moves s.axis)) (own_not_longer s.axis s.counted s.moves_there)

pub common_duration : (count : ℕ) (moves : List Move) → CommonDurationClaim count moves
common_duration count moves sent n plans h =
    let common : n ≡ common_samples (take count moves) = planned_common count moves h in
    let s = longest (take count moves) (subst (λ (n : ℕ). 1 ≤ n) common (from_one count moves sent h)) in
    let most = (planned_accepted count moves h sent).at_most in
    let counted = below_count count moves sent most s.axis s.counted in
    let same : axis_at (take count moves) s.axis ≡ axis_at moves s.axis = counted_at count moves _ counted in
    record {
      longest = s.axis;
      longest_counted = counted;
      longest_moves = subst Moving same s.moves_there;
      longest_is = ap samples_of (sym same) ∙ s.is ∙ sym common;
      none_longer = own_not_longer count moves sent h;
      same_end = λ i l k.
          ap (λ (x : Plan). N (intervals_in x)) (axis_plan_at count moves h sent i l)
          ∙ moving_end (axis_at moves i) n k (own_not_longer count moves sent h i l k);
    }
