-- One row more, and one stretch more.
use Rattle.std.proofs.Common.{◌≡◌, ℕ, ◌+◌, ◌-◌, ◌<◌, ◌≤◌, List, [], ◌∷◌, ◌++◌, map, length, take, drop, set, ℤ, arith, sym, ap, subst, ◌∙◌, append_assoc}
use Rattle.std.proofs.lemmas.Grind.{common_steps}
use Rattle.std.proofs.lemmas.Slice.{take-put_mid, drop-put_mid}
use Rattle.std.proofs.lemmas.List.{set-append_right, drop-set-add, drop-set}
use Rattle.std.proofs.lemmas.List.FromFn.{map-range_with_len_more, length-map-range_with_len}
use Rattle.std.specs.List.{range_with_len}
use borrow.Rule.Slice.PartMut.{put_mid}
use Rattle.motion.specs.declared.sums.Stretch.{Stretch}
use Rattle.motion.specs.Inner.Stretches.{after, rows, CanRun, row_count, rows_of, stretch_end, stretch_rows}

set-drop : {A : Type 0} (k : ℕ) (xs : List A) (x : A) → k < length xs → set (drop k xs) (k - k) x ≡ x ∷ drop (k + 1) xs
set-drop k xs x h =
    let zero_is : k - k ≡ 0 = omega arith in
    let k_is : k + 0 ≡ k = omega arith in
    ap (λ i. set (drop k xs) i x) zero_is ∙ sym (drop-set-add k xs 0 x) ∙ ap (λ i. drop k (set xs i x)) k_is ∙ drop-set xs k x h

-- a row written at place k
pub rows_more :
    {A : Type 0} (row : ℕ → A) (k : ℕ) (old : List A) (x : A) → k < length old → x ≡ row k → set (rows row k old) k x ≡ rows row (k + 1) old
rows_more row k old x h e =
    set-append_right (map row (range_with_len 0 k)) (drop k old) k k x (length-map-range_with_len row 0 k) (omega arith)
    ∙ ap (λ t. map row (range_with_len 0 k) ++ t) (set-drop k old x h ∙ ap (λ y. y ∷ drop (k + 1) old) e)
    ∙ sym (ap (λ t. t ++ drop (k + 1) old) (map-range_with_len_more row 0 k k (omega arith)) ∙ append_assoc (map row (range_with_len 0 k)) (row k ∷ []) (drop (k + 1) old))

-- a table that is `rows` so far, and gets one more
pub rows_step :
    {A : Type 0} (row : ℕ → A) (k : ℕ) (old table : List A) (x : A) →
    table ≡ rows row k old → k < length table → length table ≡ length old → x ≡ row k → set table k x ≡ rows row (k + 1) old
rows_step row k old table x is h same e = ap (λ t. set t k x) is ∙ rows_more row k old x (omega arith) e

-- a part that is filled whole
pub whole_rows : {R : Type 0} (f : ℕ → R) (n : ℕ) (part : List R) → length part ≡ n → rows f (length part) part ≡ map f (range_with_len 0 n)
whole_rows f n part e = grind (arith, common_steps)

-- how far the table is written: the stretches that are left, the state and the place
pub record Progress {S R : Type 0} (row : S → R) (can : ℤ → S → Type 0) (stepped : ℤ → S → S)
    (all : List Stretch) (start : S) (old : List R) (left : List Stretch) (current : S) (at : ℕ) (table : List R) : Type 0 where
  pub place : at + row_count left ≡ row_count all
  pub fits : CanRun can stepped left current
  pub front : take at table ++ rows_of row stepped left current ≡ rows_of row stepped all start
  pub rest : drop at table ≡ drop at old

drop-drop_le : {R : Type 0} (i j : ℕ) (xs : List R) → i ≤ j → drop (j - i) (drop i xs) ≡ drop j xs
drop-drop_le i j xs h = grind (arith, common_steps)

-- what agrees from i on agrees from j on
drop_later : {R : Type 0} (i j : ℕ) (xs ys : List R) → i ≤ j → drop i xs ≡ drop i ys → drop j xs ≡ drop j ys
drop_later i j xs ys h e = sym (drop-drop_le i j xs h) ∙ ap (drop (j - i)) e ∙ drop-drop_le i j ys h

module _ {S R : Type 0} {row : S → R} {can : ℤ → S → Type 0} {stepped : ℤ → S → S} {all : List Stretch} {start : S} {old : List R} where
  pub Progress-more :
      (x : Stretch) (left xs : List Stretch) (current next : S) (at : ℕ) (table part : List R)
      → left ≡ x ∷ xs
      → Progress row can stepped all start old left current at table
      → at + x.samples ≤ length table
      → part ≡ stretch_rows row stepped x current
      → next ≡ stretch_end stepped x current
      → Progress row can stepped all start old xs next (at + x.samples) (put_mid at (at + x.samples - at) table part)
  Progress-more x left xs current next at table part split p h filled ends =
      let q : Progress row can stepped all start old (x ∷ xs) current at table = subst (λ t. Progress row can stepped all start old t current at table) split p in
      let n : length part ≡ x.samples = ap length filled ∙ length-map-range_with_len (λ k. row (after (stepped x.level) current k)) 0 x.samples in
      let taken : take (at + x.samples) (put_mid at (at + x.samples - at) table part) ≡ take at table ++ part =
      take-put_mid at (at + x.samples - at) table part (at + x.samples) (omega (arith, n)) (omega arith) in
      rw ends (record {
        place = omega (arith, q.place);
        fits = q.fits.1;
        front =
            ap (λ t. t ++ rows_of row stepped xs (stretch_end stepped x current)) (taken ∙ ap (λ t. take at table ++ t) filled)
            ∙ append_assoc (take at table) (stretch_rows row stepped x current) (rows_of row stepped xs (stretch_end stepped x current)) ∙ q.front;
        rest =
            drop-put_mid at (at + x.samples - at) table part (at + x.samples) (omega arith) (omega arith) (omega (arith, n))
            ∙ drop_later at (at + x.samples) table old (omega arith) q.rest;
      })
