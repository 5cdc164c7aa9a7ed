-- X: its format, from those of its size after a minus and without one.
use mathlib.Core.List.{List, [], ◌∷◌, ◌++◌, append_assoc}
use mathlib.Core.Path.{◌≡◌, refl}
use Prim.Native.Nat.{ℕ, zero, suc, ◌%◌, ◌≤◌}
use native.Mathlib.Decide.{ℕ_discrete}
use native.Mathlib.Omega.{arith}
use borrow.Author.Tests.{ne_eqb}
use lib.IntN.{ℤ, pos, negsuc, neg_ℤ, nat_abs}
use Rattle.route_sheet.specs.Text.{space, minus, line_ends, digit, decimal, signed_decimal}
use Rattle.route_sheet.specs.Sheet.{Within, most_displacement, ended}
use Rattle.route_sheet.specs.Inner.Reading.{Parse, parsed, failed, then_read, read_number, read_displacement}
use Rattle.route_sheet.proofs.DecimalLaws.{decimal_digit, decimal_more, by_digits}
use Rattle.route_sheet.proofs.TextLaws.{line_ends_append}
use Rattle.route_sheet.proofs.FormatLaws.{Format, ParseSound, begins_none, failure_at_end}
use Rattle.route_sheet.proofs.NumberLaws.{decimal_lines, number_format}

abbrev displacement_text : ℤ → List ℕ
displacement_text x = ended space (signed_decimal x)

abbrev size_text : ℕ → List ℕ
size_text n = ended space (decimal n)

abbrev pub DisplacementAllowed : ℤ → Type 0
DisplacementAllowed x = nat_abs x ≤ most_displacement

size_format : (least : ℕ) → least ≤ 1 → Format size_text (Within least most_displacement) (read_number least most_displacement space)
size_format least low = number_format least most_displacement space low refl (omega arith)

-- The two readers, of what stands after a minus and of a text without one.
abbrev negative : Parse ℕ → Parse ℤ
negative x = then_read x λ n rest. parsed (neg_ℤ (pos n)) rest

abbrev natural : Parse ℕ → Parse ℤ
natural x = then_read x λ n rest. parsed (pos n) rest

with_minus : (s : List ℕ) → read_displacement (minus ∷ s) ≡ negative (read_number 1 most_displacement space s)
unfolding read_displacement
with_minus s = refl

no_minus :
    (b : ℕ) (s : List ℕ) → (b ≡ minus → ⊥) → read_displacement (b ∷ s) ≡ natural (read_number 0 most_displacement space (b ∷ s))
unfolding read_displacement
no_minus b s h = rw (ne_eqb b minus h)

-- A decimal begins with a digit.
record Unmarked (text : List ℕ) : Type 0 where
  byte : ℕ
  rest : List ℕ
  text_is : text ≡ byte ∷ rest
  other : byte ≡ minus → ⊥

decimal_unmarked : (n : ℕ) → Unmarked (decimal n)
decimal_unmarked =
    by_digits (λ n. Unmarked (decimal n))
    (λ n h. record { byte = digit n; rest = []; text_is = decimal_digit n h; other = λ e. omega arith })
    (λ n h ih. record { byte = ih.byte; rest = ih.rest ++ (digit (n % 10) ∷ []); text_is = rw (decimal_more n h, ih.text_is); other = ih.other })

pub without_minus : (n : ℕ) (s : List ℕ) → read_displacement (decimal n ++ s) ≡ natural (read_number 0 most_displacement space (decimal n ++ s))
without_minus n s = let u = decimal_unmarked n in rw (u.text_is, no_minus u.byte (u.rest ++ s) u.other)

-- The text of -n, where n is not 0.
negative_text : (n : ℕ) → 1 ≤ n → displacement_text (neg_ℤ (pos n)) ≡ minus ∷ size_text n
unfolding signed_decimal
negative_text zero h = absurd (omega arith)
negative_text (suc n) h = refl

negative_allowed : (n : ℕ) → n ≤ most_displacement → DisplacementAllowed (neg_ℤ (pos n))
negative_allowed zero h = omega arith
negative_allowed (suc n) h = h

reads_back : (x : ℤ) → DisplacementAllowed x → (rest : List ℕ) → read_displacement (displacement_text x ++ rest) ≡ parsed x rest
unfolding signed_decimal then_read
reads_back (pos n) h rest =
    let back : read_number 0 most_displacement space (decimal n ++ (space ∷ rest)) ≡ parsed n rest =
    rw append_assoc at ((size_format 0 (omega arith)).reads_back n (record { from = omega arith; to = h }) rest) in
    rw (append_assoc, without_minus n (space ∷ rest), back)
reads_back (negsuc n) h rest = rw (with_minus, (size_format 1 (omega arith)).reads_back (suc n) (record { from = omega arith; to = h }) rest)

abbrev Sound : List ℕ → Parse ℤ → Type 0
Sound = ParseSound displacement_text DisplacementAllowed read_displacement

negative_sound :
    (s : List ℕ) (x : Parse ℕ) →
    ParseSound size_text (Within 1 most_displacement) (read_number 1 most_displacement space) s x → Sound (minus ∷ s) (negative x)
unfolding then_read
negative_sound s (parsed n rest) w =
    record { allowed = negative_allowed n w.allowed.to; text_is = cc (negative_text n w.allowed.from, w.text_is) }
negative_sound s (failed rest) h =
    let n = h.begins in
    record {
      beginning = minus ∷ h.beginning;
      splits = cc h.splits;
      begins =
          record {
            value = neg_ℤ (pos n.value);
            allowed = negative_allowed n.value n.allowed.to;
            rest = n.rest;
            whole = cc (negative_text n.value n.allowed.from, n.whole);
          };
      stays = λ b more at r. rw (with_minus, h.stays b more at r);
    }

natural_sound :
    (b : ℕ) (s : List ℕ) → (b ≡ minus → ⊥) → (x : Parse ℕ) →
    ParseSound size_text (Within 0 most_displacement) (read_number 0 most_displacement space) (b ∷ s) x → Sound (b ∷ s) (natural x)
unfolding then_read signed_decimal
natural_sound b s other (parsed n rest) w = record { allowed = w.allowed.to; text_is = w.text_is }
natural_sound b s other (failed rest) h =
    let n = h.begins in
    record {
      beginning = h.beginning;
      splits = h.splits;
      begins = record { value = pos n.value; allowed = n.allowed.to; rest = n.rest; whole = n.whole };
      stays = λ x more at r. stays h.beginning (cc h.splits) x more at r (h.stays x more at r);
    }
  where
    -- The first byte is still there.
    stays :
        (p : List ℕ) → b ∷ s ≡ p ++ rest → (x : ℕ) (more : List ℕ) → rest ≡ x ∷ more → (r : List ℕ) →
        read_number 0 most_displacement space (p ++ (x ∷ r)) ≡ failed (x ∷ r) → read_displacement (p ++ (x ∷ r)) ≡ failed (x ∷ r)
    stays [] e x more at r k = rw (no_minus x r (λ f. other (cc f)), k)
    stays (y ∷ p) e x more at r k = rw (no_minus y (p ++ (x ∷ r)) (λ f. other (cc f)), k)

displacement_sound : (t : List ℕ) → Sound t (read_displacement t)
unfolding read_displacement
displacement_sound [] = failure_at_end (begins_none (pos 0) (omega arith))
displacement_sound (b ∷ s) = go (ℕ_discrete b minus)
  where
    go : Dec (b ≡ minus) → Sound (b ∷ s) (read_displacement (b ∷ s))
    go (yes e) = rw (e, with_minus) (negative_sound s _ ((size_format 1 (omega arith)).sound s))
    go (no e) = rw (no_minus b s e) (natural_sound b s e _ ((size_format 0 (omega arith)).sound (b ∷ s)))

pub displacement_format : Format displacement_text DisplacementAllowed read_displacement
displacement_format = record { reads_back = reads_back; sound = displacement_sound }

-- X stands in one line.
pub signed_lines : (x : ℤ) → line_ends (signed_decimal x) ≡ 0
unfolding signed_decimal
signed_lines (pos n) = decimal_lines n
signed_lines (negsuc n) = decimal_lines (suc n)

pub displacement_lines : (x : ℤ) → line_ends (displacement_text x) ≡ 0
displacement_lines x = simp (line_ends_append, signed_lines)
