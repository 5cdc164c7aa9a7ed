-- The format of so many lines, each of which has the same format.
use mathlib.Core.List.{List, [], ◌∷◌}
use mathlib.Core.Path.{◌≡◌, refl, ap}
use Prim.Native.Nat.{ℕ, zero, suc}
use native.Mathlib.Omega.{arith}
use lib.ListN.{length}
use Rattle.planner.specs.Refusals.{Each}
use Rattle.route_sheet.specs.Sheet.{joined}
use Rattle.route_sheet.specs.Inner.Reading.{Parse, then_read, read_lines}
use Rattle.route_sheet.proofs.FormatLaws.{Format, same_reader, nothing_written}
use Rattle.route_sheet.proofs.SequenceLaws.{then_assoc, pair}
use Rattle.route_sheet.proofs.MappedFormats.{mapped}

-- n allowed values.
pub record Several {A : Type 0} (ok : A → Type 0) (n : ℕ) (xs : List A) : Type 0 where
  pub each : Each ok xs
  pub count : length xs ≡ n

module _ {A : Type 0} {text : A → List ℕ} {ok : A → Type 0} {read : List ℕ → Parse A} (f : Format text ok read) where
  only_nil : (xs : List A) → Several ok 0 xs → xs ≡ []
  only_nil [] h = refl
  only_nil (x ∷ xs) h = absurd (omega (arith, h.count))

  -- The first value, and the others.
  apart : (n : ℕ) (xs : List A) → Several ok (suc n) xs → A × List A
  apart n [] h = absurd (omega (arith, h.count))
  apart n (x ∷ xs) h = (x, xs)

  apart_ok : (n : ℕ) (xs : List A) (h : Several ok (suc n) xs) → ok (apart n xs h).0 × Several ok n (apart n xs h).1
  unfolding apart
  apart_ok n [] h = absurd (omega (arith, h.count))
  apart_ok n (x ∷ xs) h = (h.each.0, record { each = h.each.1; count = omega (arith, h.count) })

  together : (n : ℕ) (xs : List A) (h : Several ok (suc n) xs) → (apart n xs h).0 ∷ (apart n xs h).1 ≡ xs
  unfolding apart
  together n [] h = absurd (omega (arith, h.count))
  together n (x ∷ xs) h = refl

  pub lines_format : (n : ℕ) → Format (joined text) (Several ok n) (read_lines read n)
  unfolding joined read_lines then_read
  lines_format zero = nothing_written [] (record { each = tt; count = refl }) only_nil refl
  lines_format (suc n) =
      same_reader
      (mapped {make = λ c. c.0 ∷ c.1} (pair f (λ x x-ok. lines_format n))
      (record {
        made_ok = λ c h. record { each = (h.0, h.1.each); count = ap suc h.1.count };
        made_text = λ c h. refl;
        part = apart n;
        part_ok = apart_ok n;
        part_makes = together n;
      }))
      (λ t. simp then_assoc)
