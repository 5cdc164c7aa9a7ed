-- The tests of a byte of a number: what each means.
use mathlib.Core.Bool.{Bool, true, false, ◌&&◌, true≢false}
use mathlib.Core.List.{List, ◌∷◌}
use mathlib.Core.Path.{◌≡◌, refl, ap, ◌∙◌, sym}
use Prim.Native.Nat.{ℕ, ◌≤◌}
use borrow.Author.Tests.{eq-eqb, ne_eqb, leb-true, le-leb}
use lib.Dec.{leb}
use Rattle.std.proofs.lemmas.Bool.{false_from_ne_true}
use Rattle.route_sheet.specs.Inner.Reading.{parsed, failed, is_digit, digit_value, with_digit, read_digits, read_number}

and_parts : (t u : Bool) → t && u ≡ true → (t ≡ true) × (u ≡ true)
and_parts true u e = (refl, e)
and_parts false u e = (e, cc)

-- A digit with two bounds kept: the tests `begins` and `goes_on` both have this form.
pub record Passes (b p q r s : ℕ) : Type 0 where
  pub from : 48 ≤ b
  pub to : b ≤ 57
  pub low : p ≤ q
  pub high : r ≤ s

module _ (b p q r s : ℕ) where
  abbrev test : Bool
  test = is_digit b && (leb p q && leb r s)

  pub passes : test ≡ true → Passes b p q r s
  passes e =
      let (d, k) = and_parts (is_digit b) (leb p q && leb r s) e in
      let (from, to) = and_parts (leb 48 b) (leb b 57) d in
      let (low, high) = and_parts (leb p q) (leb r s) k in
      record { from = leb-true 48 b from; to = leb-true b 57 to; low = leb-true p q low; high = leb-true r s high }

  test_true : Passes b p q r s → test ≡ true
  test_true h = rw (le-leb 48 b h.from, le-leb b 57 h.to, le-leb p q h.low, le-leb r s h.high)

  pub test_false : (Passes b p q r s → ⊥) → test ≡ false
  test_false h = false_from_ne_true test (λ e. h (passes e))

  pub not_passes : test ≡ false → Passes b p q r s → ⊥
  not_passes e h = true≢false (sym (test_true h) ∙ e)

  pub decide : Dec (Passes b p q r s)
  decide = go test refl
    where
      go : (t : Bool) → test ≡ t → Dec (Passes b p q r s)
      go true e = yes (passes e)
      go false e = no (not_passes e)

-- The byte that ends a number is none of its digits.
pub not_end : (b end : ℕ) → is_digit end ≡ false → 48 ≤ b → b ≤ 57 → b ≡ end → ⊥
not_end b end plain from to e = true≢false (sym (rw (le-leb 48 b, le-leb b 57)) ∙ ap is_digit e ∙ plain)

-- The first byte of a number.
module _ (least most end b : ℕ) (s : List ℕ) where
  pub number_start :
      Passes b least (digit_value b) (digit_value b) most → read_number least most end (b ∷ s) ≡ read_digits most end (digit_value b) s
  unfolding read_number
  number_start h = rw (test_true b least (digit_value b) (digit_value b) most h)

  pub number_stop : (Passes b least (digit_value b) (digit_value b) most → ⊥) → read_number least most end (b ∷ s) ≡ failed (b ∷ s)
  unfolding read_number
  number_stop h = rw (test_false b least (digit_value b) (digit_value b) most h)

-- A byte after the number n.
module _ (most end n b : ℕ) (s : List ℕ) where
  pub digits_end : b ≡ end → read_digits most end n (b ∷ s) ≡ parsed n s
  unfolding read_digits
  digits_end e = rw (eq-eqb b end e)

  pub digits_next :
      (b ≡ end → ⊥) → Passes b 1 n (with_digit n b) most → read_digits most end n (b ∷ s) ≡ read_digits most end (with_digit n b) s
  unfolding read_digits
  digits_next e h = rw (ne_eqb b end e, test_true b 1 n (with_digit n b) most h)

  pub digits_stop : (b ≡ end → ⊥) → (Passes b 1 n (with_digit n b) most → ⊥) → read_digits most end n (b ∷ s) ≡ failed (b ∷ s)
  unfolding read_digits
  digits_stop e h = rw (ne_eqb b end e, test_false b 1 n (with_digit n b) most h)
