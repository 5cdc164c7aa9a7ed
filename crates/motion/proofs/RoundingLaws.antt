-- Rounding by the machine's quotient and fraction, which go towards zero, gives the count and the remainder.
use mathlib.Core.Bool.{Bool, true, false, true≢false}
use mathlib.Core.Path.{◌≡◌, refl, sym, ap, subst, ◌∙◌}
use Prim.Native.Nat.{ℕ, zero, suc, ◌+◌, ◌-◌, ◌*◌, ◌/◌, ◌%◌, ◌≤◌, ◌<◌, ◌^◌}
use native.Mathlib.Nat.{mod-lt, div-add-mod, le_refl, le_trans, lt_of_lt_of_le}
use native.Mathlib.Numerals.{add-one}
use native.Mathlib.Omega.{arith}
use borrow.Author.Tests.{leb-true, leb-false}
use lib.IntN.{ℤ, pos, negsuc, neg_ℤ, nat_abs, ◌+ℤ◌, ◌-ℤ◌, neg_ℤ-+ℤ}
use lib.Signed.{le_z, quot_z, rem_z}
use mir.Syntax.{w64}
use mir.Val.{SFits}
use Rattle.planner.specs.Quantities.{units_per_count}
use Rattle.planner.proofs.Sign.{size_negated}
use Rattle.motion.specs.Sampling.{RoundsTo, Rounding}
use Rattle.motion.proofs.CountLaws.{rounds_negated, past_count, short_of_count}
use Rattle.motion.proofs.IntegerLaws.{difference, negated_difference, swapped_difference}

abbrev pub half : ℕ
half = 549755813888

parts : (n : ℕ) → n ≡ units_per_count * (n / units_per_count) + n % units_per_count
parts n = sym (div-add-mod n units_per_count)

fraction_below : (n : ℕ) → n % units_per_count < units_per_count
fraction_below n = mod-lt n (omega arith)

-- a fraction less a whole count
less_count : (r : ℕ) → r < units_per_count → neg_ℤ (pos (units_per_count - r)) ≡ pos r -ℤ pos units_per_count
less_count r h =
    ap neg_ℤ (sym (difference units_per_count r (omega arith)))
    ∙ sym (negated_difference (pos units_per_count) (pos r))
    ∙ swapped_difference (pos units_per_count) (pos r)

rounds_up : (n : ℕ) → half ≤ n % units_per_count → RoundsTo (pos n) (pos (suc (n / units_per_count))) (pos (n % units_per_count) -ℤ pos units_per_count)
rounds_up n h =
    let below = fraction_below n in
    subst (RoundsTo (pos n) (pos (suc (n / units_per_count)))) (less_count (n % units_per_count) below)
    (short_of_count n (suc (n / units_per_count)) (units_per_count - n % units_per_count) (omega (arith, parts n, below)) (omega (arith, h)))

rounds_down : (n : ℕ) → n % units_per_count < half → RoundsTo (pos n) (pos (n / units_per_count)) (pos (n % units_per_count))
rounds_down n h = past_count n (n / units_per_count) (n % units_per_count) (parts n) (omega arith)

-- the tests of the fraction of a negative position, with any threshold at least, or at most, half a count
not_above : (t r : ℕ) → half ≤ t → le_z (pos t) (neg_ℤ (pos r)) ≡ true → ⊥
not_above t zero l h = omega (arith, leb-true t 0 h)
not_above t (suc r) l h = true≢false (sym h)

from_half : (m r : ℕ) → half ≤ suc m → le_z (neg_ℤ (pos r)) (negsuc m) ≡ true → half ≤ r
from_half m zero l h = absurd (true≢false (sym h))
from_half m (suc r) l h = omega (arith, leb-true m r h)

under_half : (m r : ℕ) → suc m ≤ half → le_z (neg_ℤ (pos r)) (negsuc m) ≡ false → r < half
under_half m zero l h = omega arith
under_half m (suc r) l h = omega (arith, leb-false m r h)

one_less : (q : ℕ) → negsuc q ≡ neg_ℤ (pos q) -ℤ pos 1
one_less zero = refl
one_less (suc q) = ap negsuc (omega arith)

-- what the machine's division gives
module _ (x : ℤ) where
  abbrev pub quotient : ℤ
  quotient = quot_z x (pos units_per_count)

  abbrev pub fraction : ℤ
  fraction = rem_z x (pos units_per_count)

-- the next count, the count before, or the quotient itself, by the tests of the fraction, whatever numbers stand in them
pub up :
    (x d : ℤ) (t : ℕ) → le_z (pos t) (fraction x) ≡ true → half ≤ t → d ≡ fraction x -ℤ pos units_per_count
    → RoundsTo x (quotient x +ℤ pos 1) d
up (pos n) d t h l q = rw (add-one (n / units_per_count), q) (rounds_up n (le_trans l (leb-true t (n % units_per_count) h)))
up (negsuc n) d t h l q = absurd (not_above t (suc n % units_per_count) l h)

pub down :
    (x d : ℤ) (m : ℕ) → le_z (fraction x) (negsuc m) ≡ true → half ≤ suc m → d ≡ fraction x +ℤ pos units_per_count
    → RoundsTo x (quotient x -ℤ pos 1) d
down (pos n) d m h l q = absurd (true≢false (sym h))
down (negsuc n) d m h l q =
    let r = suc n % units_per_count in
    rw q
    (subst (λ c. RoundsTo (negsuc n) c (neg_ℤ (pos r) +ℤ pos units_per_count)) (one_less (suc n / units_per_count))
    (subst (RoundsTo (negsuc n) (negsuc (suc n / units_per_count))) (neg_ℤ-+ℤ (pos r) (neg_ℤ (pos units_per_count)))
    (rounds_negated (pos (suc n)) (pos (suc (suc n / units_per_count))) _ (rounds_up (suc n) (from_half m r l h)))))

pub stay :
    (x : ℤ) (t m : ℕ) → le_z (pos t) (fraction x) ≡ false → le_z (fraction x) (negsuc m) ≡ false → t ≤ half → suc m ≤ half
    → RoundsTo x (quotient x) (fraction x)
stay (pos n) t m h k u l = rounds_down n (lt_of_lt_of_le (leb-false t (n % units_per_count) h) u)
stay (negsuc n) t m h k u l =
    let r = suc n % units_per_count in
    rounds_negated (pos (suc n)) (pos (suc n / units_per_count)) (pos r) (rounds_down (suc n) (under_half m r l k))

-- no step of the rounding leaves the range
pub quotient_size : (x : ℤ) → SFits w64 x → nat_abs (quotient x) ≤ 2 ^ 23
quotient_size (pos n) h = omega (arith, h.sfits, parts n)
quotient_size (negsuc n) h = rw (size_negated (pos (suc n / units_per_count))) (omega (arith, h.sfits, parts (suc n)))

pub fraction_size : (x : ℤ) → nat_abs (fraction x) < units_per_count
fraction_size (pos n) = fraction_below n
fraction_size (negsuc n) = rw (size_negated (pos (suc n % units_per_count))) (fraction_below (suc n))

-- every position has a rounding
abbrev minus_half : ℤ
minus_half = negsuc 549755813887

by_test : (x : ℤ) (s t : Bool) → le_z (pos half) (fraction x) ≡ s → le_z (fraction x) minus_half ≡ t → Rounding x
by_test x true t h k = record { count = _; remainder = _; rounded = up x _ half h (le_refl half) refl }
by_test x false true h k = record { count = _; remainder = _; rounded = down x _ _ k (le_refl half) refl }
by_test x false false h k = record { count = _; remainder = _; rounded = stay x half _ h k (le_refl half) (le_refl half) }

pub rounding_of : (x : ℤ) → Rounding x
rounding_of x = by_test x (le_z (pos half) (fraction x)) (le_z (fraction x) minus_half) refl refl
