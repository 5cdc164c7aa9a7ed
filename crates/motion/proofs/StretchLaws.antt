-- The stretches of a profile, where its switched value is f and the states are `at`: the rows of a table, and that each step can be made.
use mathlib.Core.List.{List, [], ◌∷◌, ◌++◌}
use mathlib.Core.Path.{◌≡◌, refl, sym, ap, ap₂, subst, ◌∙◌}
use Prim.Native.Nat.{ℕ, zero, suc, ◌+◌, ◌≤◌, ◌<◌}
use native.Mathlib.Numerals.{add-one}
use native.Mathlib.Omega.{arith}
use lib.IntN.{ℤ, pos, negsuc, neg_ℤ}
use Rattle.std.specs.Prelude.{map}
use Rattle.std.specs.List.{range_with_len}
use Rattle.planner.specs.Quantities.{along}
use Rattle.profile.specs.Profile.{Sign, positive, none, negative, level, segment, Segment, switched_in}
use Rattle.profile.specs.Inner.Widths.{switched_with}
use Rattle.profile.proofs.Lookup.{value_first, value_next}
use Rattle.motion.specs.Tables.{rows_from}
use Rattle.motion.specs.declared.sums.Stretch.{Stretch}
use Rattle.motion.specs.Inner.Stretches.{after, row_count, CanRun, rows_of, Follows}
use Rattle.motion.specs.Inner.Orders.{directed_stretches}

mapped : {A : Type 0} (g : ℕ → A) (k n : ℕ) → map g (range_with_len k n) ≡ rows_from g k n
unfolding rows_from
mapped g k zero = refl
mapped g k (suc n) = ap (λ (xs : List _). g k ∷ xs) (ap (λ (j : ℕ). map g (range_with_len j n)) (add-one k) ∙ mapped g (suc k) n)

-- the same rows, where they begin elsewhere
moved :
    {A : Type 0} (g h : ℕ → A) (k j n : ℕ) → ((i : ℕ) → i < n → g (k + i) ≡ h (j + i))
    → rows_from g k n ≡ rows_from h j n
unfolding rows_from
moved g h k j zero same = refl
moved g h k j (suc n) same =
    ap₂ (λ (x : _) (xs : List _). x ∷ xs) (ap g (omega arith) ∙ same 0 (omega arith) ∙ ap h (omega arith))
    (moved g h (suc k) (suc j) n (λ i l. ap g (omega arith) ∙ same (suc i) (omega arith) ∙ ap h (omega arith)))

parted : {A : Type 0} (g : ℕ → A) (k m n : ℕ) → rows_from g k (m + n) ≡ rows_from g k m ++ rows_from g (k + m) n
unfolding rows_from
parted g k zero n =
    let same : 0 + n ≡ n = omega arith in
    let place : k ≡ k + 0 = omega arith in
    ap (rows_from g k) same ∙ ap (λ (j : ℕ). rows_from g j n) place
parted g k (suc m) n =
    let longer : suc m + n ≡ suc (m + n) = omega arith in
    let place : suc k + m ≡ k + suc m = omega arith in
    ap (rows_from g k) longer
    ∙ ap (λ (xs : List _). g k ∷ xs) (parted g (suc k) m n ∙ ap (λ (j : ℕ). rows_from g (suc k) m ++ rows_from g j n) place)

module _ {S : Type 0} (stepped : ℤ → S → S) (f : ℕ → ℤ) (at : ℕ → S) (next : (k : ℕ) → stepped (f k) (at k) ≡ at (suc k)) where
  after_at :
      (x : ℤ) (n k i : ℕ) → ((i : ℕ) → i < n → f (k + i) ≡ x) → i ≤ n
      → after (stepped x) (at k) i ≡ at (k + i)
  after_at x n k zero same l = ap at (omega arith)
  after_at x n k (suc i) same l =
      ap (stepped x) (after_at x n k i same (omega arith))
      ∙ ap (λ (y : ℤ). stepped y (at (k + i))) (sym (same i (omega arith)))
      ∙ next (k + i) ∙ ap at (omega arith)

  pub can_along :
      (can : ℤ → S → Type 0) (xs : List Stretch) (k : ℕ) → Follows xs f k
      → ((i : ℕ) → i < k + row_count xs → can (f i) (at i))
      → CanRun can stepped xs (at k)
  can_along can [] k h fits = tt
  can_along can (x ∷ xs) k h fits = (
    (λ i l. subst (can x.level) (sym (after_at x.level x.samples k i h.0 (omega (arith, l))))
        (subst (λ (y : ℤ). can y (at (k + i))) (h.0 i l) (fits (k + i) (omega (arith, l))))),
    subst (CanRun can stepped xs) (sym (after_at x.level x.samples k x.samples h.0 (omega arith)))
        (can_along can xs (k + x.samples) h.1 (λ i l. fits i (omega (arith, l)))),
  )

  pub rows_along :
      {R : Type 0} (row : S → R) (xs : List Stretch) (k : ℕ) → Follows xs f k
      → rows_of row stepped xs (at k) ≡ rows_from (λ j. row (at j)) k (row_count xs)
  unfolding rows_from
  rows_along row [] k h = refl
  rows_along row (x ∷ xs) k h =
      ap₂ (λ (xs ys : List _). xs ++ ys)
      (mapped (λ i. row (after (stepped x.level) (at k) i)) 0 x.samples
      ∙ moved (λ i. row (after (stepped x.level) (at k) i)) (λ j. row (at j)) 0 k x.samples
      (λ i l. ap (λ (j : ℕ). row (after (stepped x.level) (at k) j)) (omega arith) ∙ ap row (after_at x.level x.samples k i h.0 (omega (arith, l)))))
      (ap (rows_of row stepped xs) (after_at x.level x.samples k x.samples h.0 (omega arith)) ∙ rows_along row xs (k + x.samples) h.1)
      ∙ sym (parted (λ j. row (at j)) k x.samples (row_count xs))

-- the level of a segment is its value in the direction of X
level_along : (X : ℤ) (sign : Sign) (D : ℕ) → along X (switched_with sign D) ≡ level sign (along X (pos D)) (neg_ℤ (along X (pos D)))
unfolding along level
level_along (pos n) positive D = refl
level_along (pos n) none D = refl
level_along (pos n) negative D = refl
level_along (negsuc n) positive D = refl
level_along (negsuc n) none D = refl
level_along (negsuc n) negative D = refl

module _ (X : ℤ) (D : ℕ) where
  pub follows :
      (xs : List Segment) (f : ℕ → ℤ) (k : ℕ) → ((i : ℕ) → f (k + i) ≡ along X (switched_in xs D i))
      → Follows (directed_stretches X D xs) f k
  follows [] f k h = tt
  follows (segment n sign ∷ xs) f k h = (
    (λ i l. h i ∙ ap (along X) (value_first n sign xs D i l) ∙ level_along X sign D),
    follows xs f (k + n)
        (λ i.
        ap f (omega arith) ∙ h (n + i) ∙ ap (along X) (value_next n sign xs D (n + i) (omega arith))
        ∙ ap (λ (j : ℕ). along X (switched_in xs D j)) (omega arith)),
  )
