-- Document 01, demand 3, "Half-count rule", for a profile over widths with a small shortfall.
use mathlib.Core.List.{List, ◌∷◌}
use mathlib.Core.Path.{◌≡◌, refl, ap, ◌∙◌}
use Prim.Native.Nat.{ℕ, ◌*◌, ◌<◌, ◌^◌}
use native.Mathlib.Nat.{not-suc-le-zero}
use native.Mathlib.Omega.{arith}
use lib.Dec.{ltb→lt}
use lib.IntN.{ℤ, pos, negsuc, neg_ℤ, ◌-ℤ◌, ◌*ℤ◌}
use lib.Signed.{◌<ℤ◌}
use Rattle.planner.specs.Quantities.{units_per_count, along}
use Rattle.planner.specs.Outcome.{distance_of}
use Rattle.planner.specs.declared.Move.{Move}
use Rattle.profile.specs.Profile.{sum}
use Rattle.profile.specs.Inner.Widths.{product, ramp}
use Rattle.profile.specs.Inner.Facts.{jerk_over}
use Rattle.profile.proofs.AnyOrder.{any_order}
use Rattle.profile.proofs.HalfCountLaw.{exact_ramp, behind_half}
use Rattle.motion.specs.Sampling.{Values}
use Rattle.motion.specs.Demand3.{HalfCount}
use Rattle.motion.proofs.IntegerLaws.{multiple_negated, difference, swapped_difference, not_below_zero, pos_below}
use Rattle.motion.proofs.KeptRules.{Keeps, Follows}

-- differences in the direction of X
difference_forward : (X : ℤ) (m n z : ℕ) → pos 0 <ℤ X → along X (pos z) -ℤ pos m *ℤ along X (pos n) ≡ pos z -ℤ pos (m * n)
unfolding along
difference_forward (pos i) m n z h = refl
difference_forward (negsuc i) m n z h = absurd h.lt

difference_backward : (X : ℤ) (m n z : ℕ) → X <ℤ pos 0 → pos m *ℤ along X (pos n) -ℤ along X (pos z) ≡ pos z -ℤ pos (m * n)
unfolding along
difference_backward (pos i) m n z h = absurd (not-suc-le-zero (ltb→lt i 0 h.lt))
difference_backward (negsuc i) m n z h = ap (λ x. x -ℤ neg_ℤ (pos z)) (multiple_negated m (pos n)) ∙ swapped_difference (pos (m * n)) (pos z)

module _
    {m : Move} {a : ℕ} {inner : List ℕ} {c e D short : ℕ} (f : Keeps m a inner c e D short)
    {v : ℕ → Values} (w : Follows m.displacement (jerk_over a inner c e D) v)
    {E : ℕ → ℤ} (exact-is : (k : ℕ) → E k ≡ along m.displacement (sum (sum (sum (jerk_over a inner c e (distance_of m)))) k))
  where
    abbrev X : ℤ
    X = m.displacement

    abbrev W : ℕ
    W = distance_of m

    abbrev P : ℕ
    P = product a (e ∷ c ∷ inner)

    -- the position for size 1
    abbrev unit_position : ℕ → ℕ
    unit_position k = ramp a (e ∷ c ∷ inner) k

    -- what the position lacks of the exact profile, times P
    lack : (k : ℕ) → pos (W * unit_position k) -ℤ pos (P * (D * unit_position k)) ≡ pos (short * unit_position k)
    lack k =
        let exact = exact_ramp a (e ∷ c ∷ inner) W D short f.whole k in
        difference (W * unit_position k) (P * (D * unit_position k)) (omega (arith, exact)) ∙ ap pos (omega (arith, exact))

    place : (k : ℕ) → (v k).position ≡ along X (pos (D * unit_position k))
    place k = w.position_is k ∙ ap (along X) (any_order a inner c e f.spread D k).position_is

    exact_place : (k : ℕ) → E k ≡ along X (pos (W * unit_position k))
    exact_place k = exact-is k ∙ ap (along X) (any_order a inner c e f.spread W k).position_is

    lack_forward : pos 0 <ℤ X → (k : ℕ) → E k -ℤ pos P *ℤ (v k).position ≡ pos (short * unit_position k)
    lack_forward h k = rw (exact_place k, place k) (difference_forward X P (D * unit_position k) (W * unit_position k) h ∙ lack k)

    lack_backward : X <ℤ pos 0 → (k : ℕ) → pos P *ℤ (v k).position -ℤ E k ≡ pos (short * unit_position k)
    lack_backward h k = rw (exact_place k, place k) (difference_backward X P (D * unit_position k) (W * unit_position k) h ∙ lack k)

    -- it is less than half a count
    below_half : (k : ℕ) → 2 * (short * unit_position k) < units_per_count * P
    below_half k =
        omega (arith, behind_half a (e ∷ c ∷ inner) W D short f.whole k (2 ^ 39) f.short_below f.product_most)

    pub half_count : (N : ℕ) → HalfCount X N P E (λ k. (v k).position)
    half_count N =
        record {
          never_past = λ s k l. rw (lack_forward s k) (not_below_zero _);
          below_half = λ s k l. rw (lack_forward s k) (pos_below _ _ (below_half k));
          never_past_back = λ s k l. rw (lack_backward s k) (not_below_zero _);
          below_half_back = λ s k l. rw (lack_backward s k) (pos_below _ _ (below_half k));
        }
