-- The rows of a table, stretch by stretch, in any order of sums.
use Rattle.std.specs.Prelude.{◌≡◌, ℕ, zero, suc, ◌+◌, ◌<◌, List, [], ◌∷◌, ◌++◌, map, drop, ℤ}
use Rattle.std.specs.List.{range_with_len}
use Rattle.profile.specs.Profile.{level, segment}
use Rattle.profile.specs.Profile as profile
use Rattle.motion.specs.declared.sums.Stretch.{Stretch}

-- The state so many steps later.
abbrev pub after : {S : Type 0} → (S → S) → S → ℕ → S
after step s zero = s
after step s (suc n) = step (after step s n)

-- A table whose first places hold so many rows, and whose other places are as they were.
abbrev pub rows : {A : Type 0} → (row : ℕ → A) → ℕ → (old : List A) → List A
rows row n old = map row (range_with_len 0 n) ++ drop n old

abbrev pub RunFits : {S : Type 0} → (can : S → Type 0) → (S → S) → S → ℕ → Type 0
RunFits can step s n = (k : ℕ) → k < n → can (after step s k)

abbrev pub row_count : List Stretch → ℕ
row_count [] = 0
row_count (x ∷ xs) = x.samples + row_count xs

module _ {S : Type 0} where
  -- The state after a stretch.
  abbrev pub stretch_end : (stepped : ℤ → S → S) → Stretch → S → S
  stretch_end stepped x s = after (stepped x.level) s x.samples

  abbrev pub StretchFits : (can : ℤ → S → Type 0) → (stepped : ℤ → S → S) → Stretch → S → Type 0
  StretchFits can stepped x s = RunFits (can x.level) (stepped x.level) s x.samples

  -- No sum leaves its range on the way.
  abbrev pub CanRun : (can : ℤ → S → Type 0) → (stepped : ℤ → S → S) → List Stretch → S → Type 0
  CanRun can stepped [] s = Unit {0}
  CanRun can stepped (x ∷ xs) s = StretchFits can stepped x s × CanRun can stepped xs (stretch_end stepped x s)

module _ {S R : Type 0} where
  -- The rows of one stretch.
  abbrev pub stretch_rows : (row : S → R) → (stepped : ℤ → S → S) → Stretch → S → List R
  stretch_rows row stepped x s = map (λ k. row (after (stepped x.level) s k)) (range_with_len 0 x.samples)

  abbrev pub rows_of : (row : S → R) → (stepped : ℤ → S → S) → List Stretch → S → List R
  rows_of row stepped [] s = []
  rows_of row stepped (x ∷ xs) s = stretch_rows row stepped x s ++ rows_of row stepped xs (stretch_end stepped x s)

-- The stretches of a profile's segments, with the levels u and v.
abbrev pub leveled : List profile.Segment → (u v : ℤ) → List Stretch
leveled [] u v = []
leveled (segment n sign ∷ xs) u v = record { samples = n; level = level sign u v } ∷ leveled xs u v

-- The stretches have the levels that f gives from sample k on.
abbrev pub Follows : List Stretch → (ℕ → ℤ) → ℕ → Type 0
Follows [] f k = Unit {0}
Follows (x ∷ xs) f k = ((i : ℕ) → i < x.samples → f (k + i) ≡ x.level) × Follows xs f (k + x.samples)
