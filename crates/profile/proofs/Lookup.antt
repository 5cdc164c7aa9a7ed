-- Where a sample lies in a list of segments: in the first or after it, in the first of two joined lists or after it, or past all.
use mathlib.Core.Path.{◌≡◌, refl, sym, ap, ◌∙◌}
use mathlib.Core.Bool.{Bool, true, false, cond}
use mathlib.Core.List.{List, [], ◌∷◌, ◌++◌, append-nil}
use Prim.Native.Nat.{ℕ, ◌+◌, ◌-◌, ◌≤◌, ◌<◌}
use native.Mathlib.Nat.{sub-zero, sub-add-eq, zero-add}
use native.Mathlib.Omega.{arith}
use lib.Dec.{ltb}
use lib.IntN.{ℤ, pos}
use borrow.Author.Tests.{lt-ltb, le-ltb, ltb-false}
use Rattle.profile.specs.Profile.{Sign, none, Segment, segment, level, switched_in}
use Rattle.profile.specs.Inner.Widths.{switched_with, with_opposite_signs}

-- the samples of all segments
unfoldable pub samples : List Segment → ℕ
samples [] = 0
samples (segment n g ∷ xs) = n + samples xs

pub samples_append : (xs ys : List Segment) → samples (xs ++ ys) ≡ samples xs + samples ys
unfolding samples
samples_append [] ys = sym (zero-add (samples ys))
samples_append (segment n g ∷ xs) ys = omega (arith, samples_append xs ys)

pub samples_opposite : (xs : List Segment) → samples (with_opposite_signs xs) ≡ samples xs
unfolding samples with_opposite_signs
samples_opposite [] = refl
samples_opposite (segment n g ∷ xs) = ap (λ (m : ℕ). n + m) (samples_opposite xs)

module _ (n : ℕ) (g : Sign) (xs : List Segment) (D k : ℕ) where
  by_test : (t : Bool) → ltb k n ≡ t → switched_in (segment n g ∷ xs) D k ≡ cond t (switched_with g D) (switched_in xs D (k - n))
  unfolding switched_in
  by_test t e = ap (λ (u : Bool). cond u (switched_with g D) (switched_in xs D (k - n))) e

  pub value_first : k < n → switched_in (segment n g ∷ xs) D k ≡ switched_with g D
  value_first h = by_test true (lt-ltb k n h)

  pub value_next : n ≤ k → switched_in (segment n g ∷ xs) D k ≡ switched_in xs D (k - n)
  value_next h = by_test false (le-ltb k n h)

else_equal : (t : Bool) (x y z : ℤ) → (t ≡ false → y ≡ z) → cond t x y ≡ cond t x z
else_equal true x y z e = refl
else_equal false x y z e = e refl

pub value_in_front : (xs ys : List Segment) (D k : ℕ) → k < samples xs → switched_in (xs ++ ys) D k ≡ switched_in xs D k
unfolding samples switched_in
value_in_front [] ys D k h = absurd (omega arith)
value_in_front (segment n g ∷ xs) ys D k h =
    else_equal (ltb k n) (switched_with g D) (switched_in (xs ++ ys) D (k - n)) (switched_in xs D (k - n))
    (λ e. value_in_front xs ys D (k - n) (omega (arith, ltb-false k n e)))

pub value_behind : (xs ys : List Segment) (D k : ℕ) → samples xs ≤ k → switched_in (xs ++ ys) D k ≡ switched_in ys D (k - samples xs)
unfolding samples
value_behind [] ys D k h = rw sub-zero
value_behind (segment n g ∷ xs) ys D k h =
    value_next n g (xs ++ ys) D k (omega arith)
    ∙ value_behind xs ys D (k - n) (omega arith)
    ∙ ap (switched_in ys D) (sym (sub-add-eq k n (samples xs)))

pub value_ends : (xs : List Segment) (D k : ℕ) → samples xs ≤ k → switched_in xs D k ≡ pos 0
unfolding switched_in
value_ends xs D k h = ap (λ (l : List Segment). switched_in l D k) (sym (append-nil xs)) ∙ value_behind xs [] D k h

-- a last segment without a value changes nothing
pub value_rested : (xs : List Segment) (n D k : ℕ) → switched_in (xs ++ (segment n none ∷ [])) D k ≡ switched_in xs D k
unfolding switched_in level
value_rested [] n D k = either (ltb k n)
  where
    either : (t : Bool) → cond t (pos 0) (pos 0) ≡ pos 0
    either true = refl
    either false = refl
value_rested (segment m g ∷ xs) n D k =
    ap (λ (y : ℤ). cond (ltb k m) (switched_with g D) y) (value_rested xs n D (k - m))
