-- Document 01, demand 3, "The end": the count at the last sample; and (document 02, 2) the remainder there.
use mathlib.Core.List.{List, ◌∷◌}
use mathlib.Core.Path.{◌≡◌, ap, ◌∙◌}
use Prim.Native.Nat.{ℕ, suc, ◌+◌, ◌*◌, ◌<◌, ◌^◌}
use native.Mathlib.Nat.{le_trans, le_refl}
use native.Mathlib.Omega.{arith}
use lib.IntN.{ℤ, pos, negsuc, neg_ℤ, ◌+ℤ◌}
use Rattle.planner.specs.Quantities.{distance, along}
use Rattle.planner.specs.declared.Move.{Move}
use Rattle.profile.specs.Inner.Widths.{span, product}
use Rattle.profile.specs.Inner.Facts.{jerk_over}
use Rattle.profile.proofs.AnyOrder.{any_order_end}
use Rattle.motion.specs.Sampling.{Values, RoundsTo, Rounding}
use Rattle.motion.specs.EndClaims.{EndRemainder}
use Rattle.planner.proofs.Sign.{size_negated}
use Rattle.planner.proofs.DirectionLaws.{size_along}
use Rattle.motion.proofs.KeptRules.{Keeps, Follows}
use Rattle.motion.proofs.CountLaws.{rounds_negated, short_of_count, one_rounding}
use Rattle.motion.proofs.RoundingLaws.{rounding_of}
use Rattle.motion.proofs.RoundedValues.{with_rounding}

-- a position that lacks less than half a count of X counts
near_end : (X : ℤ) (n lack : ℕ) → n + lack ≡ distance X → lack < 2 ^ 39 → RoundsTo (along X (pos n)) X (neg_ℤ (along X (pos lack)))
unfolding along distance
near_end (pos i) n lack h l = short_of_count n i lack h (omega arith)
near_end (negsuc i) n lack h l =
    rounds_negated (pos n) (pos (suc i)) (neg_ℤ (pos lack)) (short_of_count n (suc i) lack h (omega arith))

module _
    {m : Move} {a : ℕ} {inner : List ℕ} {c e D short : ℕ} (f : Keeps m a inner c e D short)
    {v : ℕ → Values} (w : Follows m.displacement (jerk_over a inner c e D) v)
  where
    -- the last sample
    abbrev N : ℕ
    N = span a (e ∷ c ∷ inner)

    position_end : (v N).position ≡ along m.displacement (pos (D * product a (e ∷ c ∷ inner)))
    position_end =
        w.position_is N ∙ ap (along m.displacement) (any_order_end a inner c e f.spread D N (le_refl N)).position_full

    short_small : short < 2 ^ 39
    short_small = le_trans f.short_below f.product_most

    -- the count asked for, and the shortfall against the direction of the move
    rounding_end : Rounding (v N).position
    rounding_end =
        record {
          count = m.displacement;
          remainder = neg_ℤ (along m.displacement (pos short));
          rounded = rw position_end (near_end m.displacement (D * product a (e ∷ c ∷ inner)) short f.whole short_small);
        }

    same_end :
        ((rounding_of (v N).position).count ≡ m.displacement)
        × ((rounding_of (v N).position).remainder ≡ neg_ℤ (along m.displacement (pos short)))
    unfolding rounding_end
    same_end = one_rounding (rounding_of (v N).position) rounding_end

    pub count_end : (start : ℤ) → (with_rounding start (v N)).count ≡ start +ℤ m.displacement
    count_end start = ap (λ (c : ℤ). start +ℤ c) same_end.0

    pub remainder_end : (start : ℤ) → EndRemainder m.displacement short (with_rounding start (v N))
    remainder_end start =
        let size = size_negated (along m.displacement (pos short)) ∙ size_along m.displacement (pos short) in
        record { remainder_is = same_end.1; below_half = rw (same_end.1, size) short_small }
