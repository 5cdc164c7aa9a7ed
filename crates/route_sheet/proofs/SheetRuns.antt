-- A section that was read into the first places, what may follow a whole sheet, and what a sheet comes to.
use mathlib.Core.Bool.{true, false, true≢false}
use mathlib.Core.List.{List, [], ◌∷◌, ◌++◌}
use mathlib.Core.Path.{◌≡◌, refl, sym, ◌∙◌}
use Prim.Native.Nat.{ℕ, suc, ◌≤◌}
use native.Mathlib.Omega.{arith}
use borrow.Author.Tests.{ne_eqb}
use lib.ListN.{length, take, drop, replicate, length-replicate}
use lib.Seq.{length-take-le}
use Rattle.std.specs.Bool.{◌==◌}
use Rattle.std.proofs.lemmas.List.{drop-replicate}
use Rattle.planner.specs.Refusals.{padded}
use Rattle.planner.proofs.Clash.{clash}
use Rattle.route_sheet.specs.Inner.Reading.{Parse, parsed, failed, read_lines, at_end, line_of, outcome}
use Rattle.std.specs.Prelude.{Result, Ok, Err, MatchResult, IsErrAnd}
use Rattle.std.proofs.lemmas.Result.{err_from_is_err_and}
use Rattle.route_sheet.specs.Beginning.{most_bytes}
use Rattle.route_sheet.specs.Answer.{ReadsSheet}
use Rattle.route_sheet.specs.Inner.Sections.{ReadsWhole, reading_in}
use Rattle.route_sheet.specs.declared.SheetReading.{SheetReading}
use Rattle.route_sheet.specs.declared.SheetRefusal.{SheetRefusal}
use Rattle.route_sheet.specs.declared.SheetRefusal.TheVariants as refusals
use Rattle.route_sheet.specs.declared.malformed.Malformed.{Malformed}
use Rattle.route_sheet.proofs.ComesToLaws.{sound}

pub something_after : {A : Type 0} (x : A) (rest : List ℕ) → false ≡ (length rest == 0) → at_end x rest ≡ failed rest
unfolding at_end
something_after x [] e = absurd (clash cc)
something_after x (b ∷ s) e = refl

pub nothing_after : {A : Type 0} (x : A) (rest : List ℕ) → true ≡ (length rest == 0) → at_end x rest ≡ parsed x []
unfolding at_end
nothing_after x [] e = refl
nothing_after x (b ∷ s) e = absurd (true≢false (e ∙ ne_eqb (suc (length s)) 0 (λ h. omega arith)))

-- A section of `count` lines, read into the first of `most` places. The others are as they were.
pub record InPlaces {A : Type 0} (read : List ℕ → Parse A) (text : List ℕ) (most : ℕ) (unused : A) (count : ℕ) (old new : List A) (rest : List ℕ) : Type 0 where
  pub found : read_lines read count text ≡ parsed new rest
  pub count_is : count ≡ length new
  pub places : new ++ drop count old ≡ padded most unused new

pub in_places :
    {A : Type 0} (read : List ℕ → Parse A) (text : List ℕ) (most : ℕ) (unused : A) (count : ℕ) {old new : List A} {rest : List ℕ} →
    old ≡ replicate most unused → count ≤ most → length new ≡ length (take count old) →
    parsed new rest ≡ read_lines read (length (take count old)) text → InPlaces read text most unused count old new rest
in_places read text most unused count blank h same e =
    let all : length (replicate most unused) ≡ most = length-replicate most unused in
    let room : length (take count (replicate most unused)) ≡ count = length-take-le count (replicate most unused) (omega arith) in
    record {
      found = rw (blank, room) at (sym e);
      count_is = sym (rw (blank, room) at same);
      places = rw (blank, same, blank, room, drop-replicate) refl;
    }

-- A text that is not too long comes to what is read of it.
module _ (text : List ℕ) (fits : length text ≤ most_bytes) (sheet : SheetReading) (r : Result (Unit {0}) SheetRefusal) {P : Malformed → SheetRefusal → Type 0} where
  pub reads :
      (x : Result (Unit {0}) Malformed) → ReadsWhole text sheet x → MatchResult x (λ s. r ≡ Ok s) (λ e. IsErrAnd r (P e)) →
      ((e : Malformed) (y : SheetRefusal) → P e y → y ≡ refusals.Malformed (line_of text e.rest.now)) → ReadsSheet text (reading_in sheet r)
  unfolding outcome
  reads (Ok x) whole is lines = rw is (record { sheet = whole.sheet; comes_to = rw whole.found at (sound text fits); lists = whole.lists })
  reads (Err e) fails is lines =
      let p = err_from_is_err_and r is in
      rw (p.1, lines e _ p.2) (rw fails at (sound text fits))
