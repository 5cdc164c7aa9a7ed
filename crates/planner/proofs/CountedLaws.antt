-- The axes of a set by their places: the first `count` of the eight moves.
use mathlib.Core.List.{List}
use mathlib.Core.Path.{◌≡◌, subst, sym}
use Prim.Native.Nat.{ℕ, ◌≤◌, ◌<◌}
use native.Mathlib.Omega.{arith}
use lib.ListN.{length, take}
use lib.Seq.{length-take-le, get_or-take}
use Rattle.planner.specs.Refusals.{Each}
use Rattle.planner.specs.Axes.{most_axes}
use Rattle.planner.specs.AxesClaims.{Moving, axis_at, SomeMoves}
use Rattle.planner.specs.declared.Move.{Move}
use Rattle.planner.proofs.EachLaws.{each_at, each_from}

pub counted_at : (count : ℕ) (moves : List Move) (i : ℕ) → i < count → axis_at (take count moves) i ≡ axis_at moves i
counted_at count moves i l = get_or-take count moves i _ l

module _ (count : ℕ) (moves : List Move) (sent : length moves ≡ most_axes) (most : count ≤ most_axes) where
  pub counted_length : length (take count moves) ≡ count
  counted_length = length-take-le count moves (omega (arith, sent, most))

  pub within : (i : ℕ) → i < count → i < length (take count moves)
  within i l = omega (arith, l, counted_length)

  pub below_count : (i : ℕ) → i < length (take count moves) → i < count
  below_count i l = omega (arith, l, counted_length)

  module _ (P : Move → Type 0) where
    pub counted_each : ((i : ℕ) → i < count → P (axis_at moves i)) → Each P (take count moves)
    counted_each h =
        each_from P (take count moves) _
        (λ i l. let c = below_count i l in subst P (sym (counted_at count moves i c)) (h i c))

    pub each_counted : Each P (take count moves) → (i : ℕ) → i < count → P (axis_at moves i)
    each_counted h i l = subst P (counted_at count moves i l) (each_at P (take count moves) i _ (within i l) h)

  pub moves_counted : SomeMoves (length (take count moves)) (take count moves) → SomeMoves count moves
  moves_counted s =
      let c = below_count s.axis s.counted in
      record { axis = s.axis; counted = c; moves_there = subst Moving (counted_at count moves _ c) s.moves_there }
