-- A number of a span, which the byte `end` ends: its format. And the parse of a number outside the span fails, whatever follows it.
use mathlib.Core.Bool.{false}
use mathlib.Core.List.{List, [], ◌∷◌, ◌++◌, append-nil, append_assoc}
use mathlib.Core.Path.{◌≡◌, refl, ◌∙◌}
use Prim.Native.Nat.{ℕ, ◌/◌, ◌%◌, ◌≤◌, ◌<◌}
use native.Mathlib.Decide.{ℕ_discrete, dec_le}
use native.Mathlib.Omega.{arith}
use borrow.Author.Tests.{ne_eqb}
use Rattle.route_sheet.specs.Text.{line_end, line_ends, digit, decimal}
use Rattle.route_sheet.specs.Sheet.{Within, ended}
use Rattle.route_sheet.specs.Inner.Reading.{Parse, parsed, failed, is_digit, digit_value, with_digit, read_digits, read_number}
use Rattle.route_sheet.proofs.DecimalLaws.{decimal_digit, decimal_more, decimal_with, by_digits}
use Rattle.route_sheet.proofs.TextLaws.{line_ends_append}
use Rattle.route_sheet.proofs.FormatLaws.{Begins, Failure, ParseSound, Stops, Format, begins_none, failure_at_end}
use Rattle.route_sheet.proofs.ByteLaws.{Passes, decide, not_end, number_start, number_stop, digits_end, digits_next, digits_stop}

-- A decimal is in one line.
digit_lines : (d : ℕ) → line_ends (digit d ∷ []) ≡ 0
digit_lines d = rw (ne_eqb (digit d) line_end (λ e. omega arith))

pub decimal_lines : (n : ℕ) → line_ends (decimal n) ≡ 0
decimal_lines =
    by_digits (λ n. line_ends (decimal n) ≡ 0) (λ n h. rw (decimal_digit n h) (digit_lines n))
    (λ n h ih. rw (decimal_more n h, line_ends_append) (omega (arith, ih, digit_lines (n % 10))))

-- The last digit apart.
last_digit : (n : ℕ) (s : List ℕ) → 10 ≤ n → decimal n ++ s ≡ decimal (n / 10) ++ (digit (n % 10) ∷ s)
last_digit n s h = rw (decimal_more n h, append_assoc)

module _ (least most end : ℕ) (low : least ≤ 1) (plain : is_digit end ≡ false) where
  abbrev text : ℕ → List ℕ
  text n = ended end (decimal n)

  abbrev read : List ℕ → Parse ℕ
  read = read_number least most end

  abbrev ok : ℕ → Type 0
  ok = Within least most

  -- Reading on, once the digits of a number are read.
  abbrev AfterDigits : ℕ → Type 0
  AfterDigits n = ok n → (s : List ℕ) → read (decimal n ++ s) ≡ read_digits most end n s

  after_digits : (n : ℕ) → AfterDigits n
  after_digits = by_digits AfterDigits one more
    where
      one : (n : ℕ) → n < 10 → AfterDigits n
      one n l h s =
          let value : digit_value (digit n) ≡ n = omega arith in
          rw (decimal_digit n l, number_start least most end (digit n) s (omega arith), value)

      more : (n : ℕ) → 10 ≤ n → AfterDigits (n / 10) → AfterDigits n
      more n l ih h s =
          let d = digit (n % 10) in
          let value : with_digit (n / 10) d ≡ n = omega arith in
          rw (
            last_digit n s l,
            ih (omega arith) (d ∷ s),
            digits_next most end (n / 10) d s (not_end d end plain (omega arith) (omega arith)) (omega arith),
            value,
          )

  reads_back : (n : ℕ) → ok n → (rest : List ℕ) → read (text n ++ rest) ≡ parsed n rest
  reads_back n h rest = rw (append_assoc, after_digits n h (end ∷ rest)) (digits_end most end n end rest refl)

  begins_number : (n : ℕ) → ok n → Begins text ok (decimal n)
  begins_number n h = record { value = n; allowed = h; rest = end ∷ []; whole = refl }

  begins_any : 1 ≤ most → Begins text ok []
  begins_any high = begins_none 1 (record { from = low; to = high })

  -- Reading stops after p where no number goes on with the byte b.
  stopped :
      (p : List ℕ) (b : ℕ) (s : List ℕ) → Begins text ok p → ((r : List ℕ) → read (p ++ (b ∷ r)) ≡ failed (b ∷ r)) →
      Failure text ok read (p ++ (b ∷ s)) (b ∷ s)
  stopped p b s begins stops =
      record {
        beginning = p;
        splits = refl;
        begins = begins;
        stays = λ b' more at r. let same : b' ≡ b = cc in rw same (stops r);
      }

  digits_sound : (s : List ℕ) (m : ℕ) → ok m → ParseSound text ok read (decimal m ++ s) (read_digits most end m s)
  unfolding read_digits
  digits_sound [] m h = rw append-nil (failure_at_end (begins_number m h))
  digits_sound (b ∷ s) m h = go (ℕ_discrete b end) (decide b 1 m (with_digit m b) most) (digits_sound s (with_digit m b))
    where
      go :
          Dec (b ≡ end) → Dec (Passes b 1 m (with_digit m b) most) →
          (ok (with_digit m b) → ParseSound text ok read (decimal (with_digit m b) ++ s) (read_digits most end (with_digit m b) s)) →
          ParseSound text ok read (decimal m ++ (b ∷ s)) (read_digits most end m (b ∷ s))
      go (yes e) d ih = rw (digits_end most end m b s e) (record { allowed = h; text_is = rw (e, append_assoc) })
      go (no e) (yes d) ih =
          let b_is : digit (digit_value b) ≡ b = omega arith in
          let more : decimal (with_digit m b) ≡ decimal m ++ (b ∷ []) =
          decimal_with m (digit_value b) (omega arith) (omega arith) ∙ rw b_is in
          rw (digits_next most end m b s e d) (rw (more, append_assoc) at (ih (omega arith)))
      go (no e) (no d) ih =
          rw (digits_stop most end m b s e d)
          (stopped (decimal m) b s (begins_number m h) (λ r. after_digits m h (b ∷ r) ∙ digits_stop most end m b r e d))

  number_sound : 1 ≤ most → (t : List ℕ) → ParseSound text ok read t (read t)
  unfolding read_number
  number_sound high [] = failure_at_end (begins_any high)
  number_sound high (b ∷ s) = go (decide b least (digit_value b) (digit_value b) most)
    where
      go : Dec (Passes b least (digit_value b) (digit_value b) most) → ParseSound text ok read (b ∷ s) (read (b ∷ s))
      go (yes d) =
          let b_is : digit (digit_value b) ≡ b = omega arith in
          let one : decimal (digit_value b) ≡ b ∷ [] = decimal_digit (digit_value b) (omega arith) ∙ rw b_is in
          rw (number_start least most end b s d) (rw one at (digits_sound s (digit_value b) (omega arith)))
      go (no d) =
          rw (number_stop least most end b s d)
          (stopped [] b s (begins_any high) (λ r. number_stop least most end b r d))

  pub number_format : 1 ≤ most → Format (λ n. ended end (decimal n)) (Within least most) (read_number least most end)
  number_format high = record { reads_back = reads_back; sound = number_sound high }

  -- A number outside its span.
  abbrev Outside : ℕ → Type 0
  Outside n = (ok n → ⊥) → (s : List ℕ) → Stops (read (decimal n ++ s))

  pub number_outside : (n : ℕ) → (Within least most n → ⊥) → (s : List ℕ) → Stops (read_number least most end (decimal n ++ s))
  number_outside = by_digits Outside one more
    where
      one : (n : ℕ) → n < 10 → Outside n
      one n l h s = record { rest = digit n ∷ s; is = rw (decimal_digit n l) (number_stop least most end (digit n) s (λ d. h (omega arith))) }

      more : (n : ℕ) → 10 ≤ n → Outside (n / 10) → Outside n
      more n l ih h s = rw (last_digit n s l) (go (dec_le (n / 10) most))
        where
          go : Dec (n / 10 ≤ most) → Stops (read (decimal (n / 10) ++ (digit (n % 10) ∷ s)))
          go (yes k) =
              let d = digit (n % 10) in
              record {
                rest = d ∷ s;
                is =
                    after_digits (n / 10) (omega arith) (d ∷ s)
                    ∙ digits_stop most end (n / 10) d s (not_end d end plain (omega arith) (omega arith)) (λ p. h (omega arith));
              }
          go (no k) = ih (λ w. k w.to) (digit (n % 10) ∷ s)
