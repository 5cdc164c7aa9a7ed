-- Laws of the switched segments: how long they are, when they rest, and their value at a sample by the widths.
use mathlib.Core.Path.{◌≡◌, refl, sym, ap, ap₂, ◌∙◌}
use mathlib.Core.Bool.{Bool, true, false, cond}
use mathlib.Core.List.{List, [], ◌∷◌}
use Prim.Native.Nat.{ℕ, ◌-◌, ◌≤◌, ◌<◌}
use native.Mathlib.Omega.{arith}
use native.Mathlib.Decide.{dec_le}
use lib.Dec.{ltb}
use lib.IntN.{ℤ, pos, neg_ℤ, neg_ℤ-neg_ℤ}
use borrow.Author.Tests.{ltb-true, ltb-false}
use Rattle.profile.specs.Profile.{level, none, Segment, segment, switched_in}
use Rattle.profile.specs.Inner.Widths.{span, Spread, with_opposite_signs, switched, switched_by}
use Rattle.profile.proofs.ValueLaws.{value_opposite, either_negated}
use Rattle.profile.proofs.Lookup.{samples, samples_append, samples_opposite, value_first, value_next, value_in_front, value_behind, value_ends}

pub samples_switched : (a : ℕ) (ws : List ℕ) → Spread a ws → samples (switched a ws) ≡ span a ws
unfolding samples switched span Spread
samples_switched a [] s = omega arith
samples_switched a (w ∷ ws) s =
    samples_append (switched a ws) (segment (w - span a ws) none ∷ with_opposite_signs (switched a ws))
    ∙ omega (arith, samples_opposite (switched a ws), samples_switched a ws s.1, s.0)

pub value_rests : (a : ℕ) (ws : List ℕ) → Spread a ws → (D k : ℕ) → span a ws ≤ k → switched_in (switched a ws) D k ≡ pos 0
value_rests a ws s D k h = value_ends (switched a ws) D k (omega (arith, samples_switched a ws s))

either : (t : Bool) (x y z : ℤ) → (t ≡ true → z ≡ x) → (t ≡ false → z ≡ y) → z ≡ cond t x y
either true x y z p q = p refl
either false x y z p q = q refl

-- the inner value for w samples, and then its opposite from its start on
module _ (a w : ℕ) (ws : List ℕ) (s : Spread a (w ∷ ws)) (D k : ℕ) where
  abbrev inner : List Segment
  inner = switched a ws

  abbrev behind : List Segment
  behind = segment (w - span a ws) none ∷ with_opposite_signs inner

  fits : (samples inner ≡ span a ws) × (span a ws ≤ w)
  unfolding Spread
  fits = (samples_switched a ws s.1, s.0)

  early : k < w → Dec (samples inner ≤ k) → switched_in (switched a (w ∷ ws)) D k ≡ switched_in inner D k
  unfolding switched level
  early h (yes l) =
      value_behind inner behind D k l
      ∙ value_first (w - span a ws) none (with_opposite_signs inner) D (k - samples inner) (omega (arith, fits))
      ∙ sym (value_ends inner D k l)
  early h (no l) = value_in_front inner behind D k (omega arith)

  late : w ≤ k → switched_in (switched a (w ∷ ws)) D k ≡ neg_ℤ (switched_in inner D (k - w))
  unfolding switched
  late h =
      value_behind inner behind D k (omega (arith, fits))
      ∙ value_next (w - span a ws) none (with_opposite_signs inner) D (k - samples inner) (omega (arith, fits))
      ∙ value_opposite inner D (k - samples inner - (w - span a ws))
      ∙ ap (λ (i : ℕ). neg_ℤ (switched_in inner D i)) same_place
    where
      same_place : k - samples inner - (w - span a ws) ≡ k - w
      same_place = omega (arith, fits)

  pub value_switched :
      switched_in (switched a (w ∷ ws)) D k ≡ cond (ltb k w) (switched_in (switched a ws) D k) (neg_ℤ (switched_in (switched a ws) D (k - w)))
  value_switched =
      either (ltb k w) (switched_in inner D k) (neg_ℤ (switched_in inner D (k - w))) (switched_in (switched a (w ∷ ws)) D k)
      (λ e. early (ltb-true k w e) (dec_le (samples inner) k))
      (λ e. late (ltb-false k w e))

-- levels with their signs changed
pub value_by_negated : (a : ℕ) (ws : List ℕ) (u v : ℤ) (k : ℕ) → switched_by a ws (neg_ℤ u) (neg_ℤ v) k ≡ neg_ℤ (switched_by a ws u v k)
unfolding switched_by
value_by_negated a [] u v k = either_negated (ltb k a) u (pos 0)
value_by_negated a (w ∷ ws) u v k =
    ap₂ (cond (ltb k w)) (value_by_negated a ws u v k) (value_by_negated a ws v u (k - w))
    ∙ either_negated (ltb k w) (switched_by a ws u v k) (switched_by a ws v u (k - w))

pub value_by_widths : (a : ℕ) (ws : List ℕ) → Spread a ws → (D k : ℕ) → switched_in (switched a ws) D k ≡ switched_by a ws (pos D) (neg_ℤ (pos D)) k
unfolding switched_in switched switched_by Spread level
value_by_widths a [] s D k = refl
value_by_widths a (w ∷ ws) s D k =
    value_switched a w ws s D k
    ∙ ap₂ (cond (ltb k w)) (value_by_widths a ws s.1 D k)
    (ap neg_ℤ (value_by_widths a ws s.1 D (k - w))
    ∙ sym (value_by_negated a ws (pos D) (neg_ℤ (pos D)) (k - w))
    ∙ ap (λ (v : ℤ). switched_by a ws (neg_ℤ (pos D)) v (k - w)) (neg_ℤ-neg_ℤ (pos D)))
