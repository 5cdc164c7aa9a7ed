-- Laws of the switched value in any list of segments: its size, and what a change of all signs does.
use mathlib.Core.Path.{◌≡◌, refl, sym, ap₂, ◌∙◌}
use mathlib.Core.Bool.{Bool, true, false, cond}
use mathlib.Core.List.{List, [], ◌∷◌}
use Prim.Native.Nat.{ℕ, zero, suc, ◌-◌, ◌≤◌}
use native.Mathlib.Nat.{le_refl}
use native.Mathlib.Omega.{arith}
use lib.Dec.{ltb}
use lib.IntN.{ℤ, pos, neg_ℤ, neg_ℤ-neg_ℤ, nat_abs}
use Rattle.profile.specs.Profile.{level, Sign, positive, none, negative, Segment, segment, switched_in}
use Rattle.profile.specs.Inner.Widths.{switched_with, opposite, with_opposite_signs}

level_size : (g : Sign) (D : ℕ) → nat_abs (switched_with g D) ≤ D
unfolding level
level_size positive D = le_refl D
level_size none D = omega arith
level_size negative zero = omega arith
level_size negative (suc D) = le_refl (suc D)

either_size : (t : Bool) (x y : ℤ) (D : ℕ) → nat_abs x ≤ D → nat_abs y ≤ D → nat_abs (cond t x y) ≤ D
either_size true x y D p q = p
either_size false x y D p q = q

pub value_size : (xs : List Segment) (D k : ℕ) → nat_abs (switched_in xs D k) ≤ D
unfolding switched_in
value_size [] D k = omega arith
value_size (segment n g ∷ xs) D k =
    either_size (ltb k n) (switched_with g D) (switched_in xs D (k - n)) D (level_size g D) (value_size xs D (k - n))

level_opposite : (g : Sign) (D : ℕ) → switched_with (opposite g) D ≡ neg_ℤ (switched_with g D)
unfolding opposite level
level_opposite positive D = refl
level_opposite none D = refl
level_opposite negative D = sym (neg_ℤ-neg_ℤ (pos D))

pub either_negated : (t : Bool) (x y : ℤ) → cond t (neg_ℤ x) (neg_ℤ y) ≡ neg_ℤ (cond t x y)
either_negated true x y = refl
either_negated false x y = refl

pub value_opposite : (xs : List Segment) (D k : ℕ) → switched_in (with_opposite_signs xs) D k ≡ neg_ℤ (switched_in xs D k)
unfolding switched_in with_opposite_signs
value_opposite [] D k = refl
value_opposite (segment n g ∷ xs) D k =
    ap₂ (cond (ltb k n)) (level_opposite g D) (value_opposite xs D (k - n)) ∙ either_negated (ltb k n) (switched_with g D) (switched_in xs D (k - n))
