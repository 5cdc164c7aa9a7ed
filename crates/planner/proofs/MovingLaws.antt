-- Not all axes are at rest if and only if some axis moves.
use mathlib.Core.Bool.{Bool, true, false, ◌&&◌, true≢false, and-false}
use mathlib.Core.List.{List, [], ◌∷◌}
use mathlib.Core.Logic.{◌↔◌}
use Rattle.std.specs.Prelude.{All, IsTrue}
use mathlib.Core.Path.{◌≡◌, refl, sym, ap, ◌∙◌}
use Prim.Native.Nat.{ℕ, zero, suc, ◌<◌}
use native.Mathlib.Omega.{arith}
use lib.ListN.{length, get_or}
use Rattle.std.proofs.lemmas.List.{get_or_default}
use Rattle.planner.specs.Axes.{at_rest, all_at_rest}
use Rattle.planner.specs.AxesClaims.{Moving, no_move, axis_at, SomeMoves}
use Rattle.planner.specs.declared.Move.{Move}
use Rattle.planner.proofs.AxisLaws.{either, by_rest, rest_moving, moving_rest}

pub some_moves : (ms : List Move) → all_at_rest ms ≡ false → SomeMoves (length ms) ms
unfolding all_at_rest
some_moves [] h = absurd (true≢false h)
some_moves (m ∷ ms) h =
    by_rest m
    (λ q.
    let s = some_moves ms (sym (ap (λ (t : Bool). t && all_at_rest ms) q) ∙ h) in
    record { axis = suc s.axis; counted = omega (arith, s.counted); moves_there = s.moves_there })
    (λ q. record { axis = 0; counted = omega arith; moves_there = rest_moving m q })

pub not_all_rest : (ms : List Move) (i : ℕ) → i < length ms → Moving (axis_at ms i) → all_at_rest ms ≡ false
unfolding all_at_rest
not_all_rest [] i l h = absurd (omega arith)
not_all_rest (m ∷ ms) zero l h = ap (λ (t : Bool). t && all_at_rest ms) (moving_rest m h)
not_all_rest (m ∷ ms) (suc i) l h = ap (λ (t : Bool). at_rest m && t) (not_all_rest ms i (omega arith) h) ∙ and-false (at_rest m)

-- all axes are at rest if and only if each is
each_rests : (ms : List Move) → all_at_rest ms ≡ true → All (λ m. IsTrue (at_rest m)) ms
each_rests ms h i d l =
    by_rest (get_or ms i d) (λ q. q)
    (λ q.
    let moves : Moving (axis_at ms i) = rw (get_or_default ms i d no_move l) at (rest_moving (get_or ms i d) q) in
    absurd (true≢false (sym h ∙ not_all_rest ms i l moves)))

pub rest_is : {t : Bool} (ms : List Move) → IsTrue t ↔ All (λ m. IsTrue (at_rest m)) ms → t ≡ all_at_rest ms
rest_is {t = true} ms h =
    either (all_at_rest ms) sym
    (λ q.
    let s = some_moves ms q in
    absurd (true≢false (sym (h.0 refl s.axis no_move s.counted) ∙ moving_rest (axis_at ms s.axis) s.moves_there)))
rest_is {t = false} ms h = either (all_at_rest ms) (λ q. absurd (true≢false (sym (h.1 (each_rests ms q))))) sym
