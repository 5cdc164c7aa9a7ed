-- The largest N is the own N of an axis that moves.
use mathlib.Core.List.{List, [], ◌∷◌}
use mathlib.Core.Path.{◌≡◌}
use Prim.Native.Nat.{ℕ, suc, ◌≤◌, ◌<◌}
use native.Mathlib.Decide.{dec_le}
use native.Mathlib.Omega.{arith}
use lib.ListN.{length}
use Rattle.planner.specs.Outcome.{samples_of}
use Rattle.planner.specs.Axes.{own_samples, common_samples}
use Rattle.planner.specs.AxesClaims.{Moving, axis_at}
use Rattle.planner.specs.declared.Move.{Move}
use Rattle.planner.proofs.PlannedFacts.{rule_ordered}
use Rattle.planner.proofs.AxisLaws.{chosen, by_rest, rest_moving, moving_rest}

pub samples_from_one : (m : Move) → 1 ≤ samples_of m
unfolding samples_of
samples_from_one m = omega (arith, (rule_ordered m).one_a)

pub own_moving : (m : Move) → Moving m → own_samples m ≡ samples_of m
own_moving m h = chosen _ _ (moving_rest m h)

own_moves : (m : Move) → 1 ≤ own_samples m → Moving m
own_moves m h = by_rest m (λ q. let none : own_samples m ≡ 0 = chosen _ _ q in absurd (omega (arith, h, none))) (rest_moving m)

pub record Longest (ms : List Move) : Type 0 where
  pub axis : ℕ
  pub counted : axis < length ms
  pub moves_there : Moving (axis_at ms axis)
  pub is : samples_of (axis_at ms axis) ≡ common_samples ms

pub longest : (ms : List Move) → 1 ≤ common_samples ms → Longest ms
unfolding common_samples
longest [] h = absurd (omega arith)
longest (m ∷ ms) h =
    elim (dec_le (common_samples ms) (own_samples m)) [
      | yes l ↦
          let moves = own_moves m (omega (arith, h, l)) in
          record { axis = 0; counted = omega arith; moves_there = moves; is = omega (arith, own_moving m moves, l) }
      | no l ↦
          let s = longest ms (omega (arith, l)) in
          record { axis = suc s.axis; counted = omega (arith, s.counted); moves_there = s.moves_there; is = omega (arith, s.is, l) }
    ]
