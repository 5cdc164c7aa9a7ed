-- The reference rows of positions: a position after the last sample is the last one, and each row is a position plus the one before it.
use mathlib.Core.Path.{◌≡◌, sym, ap, ap₂, ◌∙◌, fun_ext}
use mathlib.Core.List.{List, ◌∷◌}
use Prim.Native.Nat.{ℕ, zero, suc, ◌*◌, ◌≤◌, min}
use native.Mathlib.Decide.{dec_le}
use native.Mathlib.Nat.{le_refl}
use native.Mathlib.Omega.{arith}
use lib.IntN.{ℤ, pos, ◌+ℤ◌, +ℤ_idr}
use Rattle.planner.specs.Quantities.{along}
use Rattle.profile.specs.Inner.Widths.{span, product, Spread}
use Rattle.profile.specs.Inner.Facts.{jerk_over}
use Rattle.profile.proofs.AnyOrder.{any_order_end}
use Rattle.motion.specs.Sampling.{Values, units_of}
use Rattle.motion.specs.Tables.{held_position, reference_row}
use Rattle.motion.specs.ForceRows.Doubled.{earlier}
use Rattle.motion.specs.Inner.Planned.{positions_from}
use Rattle.motion.proofs.IntegerLaws.{exchanged}
use Rattle.motion.proofs.PairLaws.{pairs}
use Rattle.motion.proofs.KeptRules.{Follows}

-- after the last sample a position is the last one by its own rule, so there is nothing to hold
module _
    (a : ℕ) (inner : List ℕ) (c e D : ℕ) (s : Spread a (e ∷ c ∷ inner)) {X : ℤ} {v : ℕ → Values} (w : Follows X (jerk_over a inner c e D) v)
  where
    abbrev last : ℕ
    last = span a (e ∷ c ∷ inner)

    final : (k : ℕ) → last ≤ k → (v k).position ≡ along X (pos (D * product a (e ∷ c ∷ inner)))
    final k l = w.position_is k ∙ ap (along X) (any_order_end a inner c e s D k l).position_full

    held : (k : ℕ) → Dec (k ≤ last) → (v (min k last)).position ≡ (v k).position
    held k (yes l) = ap (λ (i : ℕ). (v i).position) (omega arith)
    held k (no l) =
        let at_last : min k last ≡ last = omega arith in
        ap (λ (i : ℕ). (v i).position) at_last ∙ final last (le_refl last) ∙ sym (final k (omega arith))

    pub held_all : ◌≡◌ {A = ℕ → ℤ} (λ k. (v (min k last)).position) (λ k. (v k).position)
    held_all = fun_ext (λ k. held k (dec_le k last))

    -- so the pairs of the positions are the rows, from twice the start on
    pub pairs_are_rows :
        (start : ℤ) (k : ℕ) → (units_of start +ℤ units_of start) +ℤ pairs (λ k. (v k).position) k ≡ reference_row start last v k
    unfolding reference_row held_position
    pairs_are_rows start k =
        exchanged (units_of start) (units_of start) (v k).position (earlier (λ k. (v k).position) 1 k)
        ∙ ap (λ (p : ℕ → ℤ). (units_of start +ℤ p k) +ℤ (units_of start +ℤ earlier p 1 k)) (sym held_all)

-- the row at each sample of these positions
unfoldable pub paired_row : (ℕ → ℤ) → ℕ → ℤ
paired_row p zero = p 0 +ℤ p 0
paired_row p (suc k) = p (suc k) +ℤ p k

module _
    (start : ℤ) (n : ℕ) (v : ℕ → Values) (p : ℕ → ℤ) (is : p ≡ positions_from start v) (first : p 0 ≡ units_of start)
    (held_as : ◌≡◌ {A = ℕ → ℤ} (λ k. (v (min k n)).position) (λ k. (v k).position))
  where
    at_sample : (k : ℕ) → p k ≡ units_of start +ℤ (v (min k n)).position
    at_sample k = ap (λ (f : ℕ → ℤ). f k) is ∙ ap (λ (f : ℕ → ℤ). units_of start +ℤ f k) (sym held_as)

    pub paired_rows : (k : ℕ) → paired_row p k ≡ reference_row start n v k
    unfolding reference_row held_position earlier paired_row
    paired_rows zero = ap₂ (λ (x y : ℤ). x +ℤ y) (at_sample 0) (first ∙ sym (+ℤ_idr (units_of start)))
    paired_rows (suc k) = ap₂ (λ (x y : ℤ). x +ℤ y) (at_sample (suc k)) (at_sample k)
