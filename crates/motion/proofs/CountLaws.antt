-- The count of a position and its remainder: how a natural number gives them, in both directions, and that there are no others.
use mathlib.Core.Path.{◌≡◌, refl, sym, ap, ◌∙◌}
use Prim.Native.Nat.{ℕ, suc, ◌+◌, ◌-◌, ◌*◌, ◌≤◌, ◌<◌}
use native.Mathlib.Nat.{le_antisymm, le_of_suc-le-suc, lt_of_not-le}
use native.Mathlib.Omega.{arith}
use lib.IntN.{ℤ, pos, negsuc, neg_ℤ, nat_abs, ◌+ℤ◌, ◌-ℤ◌, neg_ℤ-neg_ℤ, neg_ℤ-+ℤ, +ℤ_comm, +ℤ-neg_ℤ_cancel}
use Rattle.planner.specs.Quantities.{units_per_count}
use Rattle.motion.specs.Sampling.{units_of, RoundsTo, Rounding}
use Rattle.planner.proofs.Sign.{size_negated}
use Rattle.planner.proofs.IntegerSizes.{size_difference}
use Rattle.motion.proofs.IntegerLaws.{multiple_negated, difference}

-- both directions are alike
pub rounds_negated : (x c r : ℤ) → RoundsTo x c r → RoundsTo (neg_ℤ x) (neg_ℤ c) (neg_ℤ r)
rounds_negated x c r h =
    let units = multiple_negated units_per_count c in
    record {
      position_is = ap neg_ℤ h.position_is ∙ neg_ℤ-+ℤ (units_of c) r ∙ ap (λ u. u +ℤ neg_ℤ r) (sym units);
      nearest = rw (size_negated r) h.nearest;
      half_away = λ q. rw (size_negated x, ap nat_abs units ∙ size_negated (units_of c)) (h.half_away (rw (size_negated r) at q));
    }

-- a position past its count, and one short of it
pub past_count : (n q s : ℕ) → n ≡ units_per_count * q + s → 2 * s < units_per_count → RoundsTo (pos n) (pos q) (pos s)
past_count n q s h l = record { position_is = ap pos h; nearest = omega arith; half_away = λ t. omega arith }

-- no distance is no count
unfoldable pub no_distance : Rounding (pos 0)
no_distance = record { count = pos 0; remainder = pos 0; rounded = past_count 0 0 0 refl (omega arith) }

pub short_of_count : (n q s : ℕ) → n + s ≡ units_per_count * q → 2 * s ≤ units_per_count → RoundsTo (pos n) (pos q) (neg_ℤ (pos s))
short_of_count n q s h l =
    record {
      position_is = sym (difference (units_per_count * q) s (omega arith) ∙ ap pos (omega arith));
      nearest = rw (size_negated (pos s)) l;
      half_away = λ t. let t : 2 * s ≡ units_per_count = rw (size_negated (pos s)) at t in omega arith;
    }

-- "position minus G times the count"
pub remainder_difference : (x c r : ℤ) → RoundsTo x c r → r ≡ x -ℤ units_of c
remainder_difference x c r h =
    sym (ap (λ y. y -ℤ units_of c) (h.position_is ∙ +ℤ_comm (units_of c) r) ∙ +ℤ-neg_ℤ_cancel r (units_of c))

-- no count lies on the other side of zero
other_side : (n q : ℕ) (r : ℤ) → RoundsTo (pos n) (negsuc q) r → ⊥
other_side n q r h =
    let t = ap (λ z. nat_abs (pos n +ℤ z)) (neg_ℤ-neg_ℤ (pos (units_per_count * suc q))) in
    let size = ap nat_abs (remainder_difference (pos n) (negsuc q) r h) in
    omega (arith, t, size, h.nearest)

-- the size of the remainder as a difference of natural numbers
apart : (n q : ℕ) (r : ℤ) → RoundsTo (pos n) (pos q) r → nat_abs r ≡ (n - units_per_count * q) + (units_per_count * q - n)
apart n q r h = ap nat_abs (remainder_difference (pos n) (pos q) r h) ∙ size_difference n (units_per_count * q)

not_two : (n q q' : ℕ) (r r' : ℤ) → RoundsTo (pos n) (pos q) r → RoundsTo (pos n) (pos q') r' → q < q' → ⊥
not_two n q q' r r' h k l =
    let lower = apart n q r h in
    let upper = apart n q' r' k in
    let t : 2 * nat_abs r ≡ units_per_count = omega (arith, h.nearest, k.nearest) in
    omega (arith, h.half_away t)

not_below : {q r : ℕ} → (r < q → ⊥) → q ≤ r
not_below h = le_of_suc-le-suc (lt_of_not-le h)

only_one : (n q q' : ℕ) (r r' : ℤ) → RoundsTo (pos n) (pos q) r → RoundsTo (pos n) (pos q') r' → q ≡ q'
only_one n q q' r r' h k = le_antisymm (not_below (not_two n q' q r' r k h)) (not_below (not_two n q q' r r' h k))

-- the only count, by the side
one_positive : (n : ℕ) (c c' r r' : ℤ) → RoundsTo (pos n) c r → RoundsTo (pos n) c' r' → c ≡ c'
one_positive n (pos q) (pos q') r r' h k = ap pos (only_one n q q' r r' h k)
one_positive n (negsuc q) c' r r' h k = absurd (other_side n q r h)
one_positive n (pos q) (negsuc q') r r' h k = absurd (other_side n q' r' k)

one_count : (x c c' r r' : ℤ) → RoundsTo x c r → RoundsTo x c' r' → c ≡ c'
one_count (pos n) c c' r r' h k = one_positive n c c' r r' h k
one_count (negsuc n) c c' r r' h k =
    sym (neg_ℤ-neg_ℤ c)
    ∙ ap neg_ℤ
    (one_positive (suc n) (neg_ℤ c) (neg_ℤ c') (neg_ℤ r) (neg_ℤ r') (rounds_negated (negsuc n) c r h) (rounds_negated (negsuc n) c' r' k))
    ∙ neg_ℤ-neg_ℤ c'

pub one_rounding : {x : ℤ} (u v : Rounding x) → (u.count ≡ v.count) × (u.remainder ≡ v.remainder)
one_rounding {x} u v =
    let counts = one_count x u.count v.count u.remainder v.remainder u.rounded v.rounded in (
      counts,
      remainder_difference x u.count u.remainder u.rounded
          ∙ ap (λ y. x -ℤ units_of y) counts
          ∙ sym (remainder_difference x v.count v.remainder v.rounded),
    )
