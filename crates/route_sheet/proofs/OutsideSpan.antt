-- A number outside its allowed span is one with which no sheet goes on, in each of the six places where a number can stand. With `own_line`
-- it is charged to its own line.
use mathlib.Core.Bool.{false}
use mathlib.Core.List.{List, [], ◌∷◌, ◌++◌, append-nil, append_assoc}
use mathlib.Core.Path.{◌≡◌, refl, sym, ap, ◌∙◌}
use Prim.Native.Nat.{ℕ, ◌≤◌, ◌<◌}
use native.Mathlib.Omega.{arith}
use lib.IntN.{ℤ, pos, neg_ℤ, nat_abs}
use lib.ListN.{length}
use Rattle.planner.specs.Refusals.{Each}
use Rattle.route_sheet.specs.Text.{space, line_end, minus, decimal, signed_decimal}
use Rattle.route_sheet.specs.Sheet.{Sheet, Within, most_sets, most_moves, most_number, most_displacement, SetAllowed, MoveAllowed, SectionAllowed, ended, count_line, set_line, move_line, joined, section_text}
use Rattle.route_sheet.specs.Beginning.{CanBegin}
use Rattle.route_sheet.specs.Inner.Reading.{Parse, parsed, then_read, is_digit, read_number, read_displacement, read_set, read_move, read_lines, read_sections}
use Rattle.route_sheet.specs.declared.BoundSet.{BoundSet}
use Rattle.route_sheet.specs.declared.RouteMove.{RouteMove}
use Rattle.route_sheet.proofs.NumberLaws.{number_outside}
use Rattle.route_sheet.proofs.DisplacementLaws.{without_minus, displacement_format}
use Rattle.route_sheet.proofs.LineLaws.{bound_format, count_format, set_format, move_format}
use Rattle.route_sheet.proofs.SectionLaws.{lines_format}
use Rattle.route_sheet.proofs.FormatLaws.{not_both}
use Rattle.route_sheet.proofs.ComesToLaws.{whole_text}
use Rattle.route_sheet.proofs.FailureLaws.{FailsAfter, in_first, in_second, in_lines}

-- Fewer allowed values than `count`: one more comes next.
pub record Fewer {A : Type 0} (ok : A → Type 0) (count : ℕ) (xs : List A) : Type 0 where
  pub each : Each ok xs
  pub fewer : length xs < count

-- After `text`, in the line of a move, a number stands next, whose span is from `least` to `most`.
pub data NextInMove (setCount : ℕ) : (text : List ℕ) (least most : ℕ) → Type 0 where
  displacement : NextInMove setCount [] 0 most_displacement
  displacement_after_minus : NextInMove setCount (minus ∷ []) 1 most_displacement
  set_number : (x : ℤ) → nat_abs x ≤ most_displacement → NextInMove setCount (ended space (signed_decimal x)) 1 setCount

-- The same in a sheet.
pub data NextNumber : (text : List ℕ) (least most : ℕ) → Type 0 where
  set_count : NextNumber [] 1 most_sets
  bound :
      (count : ℕ) (sets : List BoundSet) (numbers : List ℕ) →
      Within 1 most_sets count → Fewer SetAllowed count sets → Fewer (Within 0 most_number) 4 numbers →
      NextNumber (count_line count ++ (joined set_line sets ++ joined (λ n. ended space (decimal n)) numbers)) 0 most_number
  move_count :
      (sets : List BoundSet) → SectionAllowed SetAllowed most_sets sets → NextNumber (section_text set_line sets) 1 most_moves
  in_move :
      (sets : List BoundSet) (count : ℕ) (moves : List RouteMove) {text : List ℕ} {least most : ℕ} →
      SectionAllowed SetAllowed most_sets sets → Within 1 most_moves count → Fewer (MoveAllowed (length sets)) count moves →
      NextInMove (length sets) text least most →
      NextNumber (section_text set_line sets ++ (count_line count ++ (joined move_line moves ++ text))) least most

-- One of the first three numbers of a set.
past :
    {s p : List ℕ} (next : ℕ → List ℕ → Parse BoundSet) (v : ℕ) → Within 0 most_number v → FailsAfter (next v) p s →
    FailsAfter (λ t. then_read (read_number 0 most_number space t) next) (ended space (decimal v) ++ p) s
past next v h = in_second (bound_format space refl) next v h

-- How the second section is read.
abbrev second : List BoundSet → List ℕ → Parse Sheet
second sets text =
    then_read (read_number 1 most_moves line_end text) λ n rest.
    then_read (read_lines (read_move (length sets)) n rest) λ moves rest.
    parsed (record { sets = sets; moves = moves }) rest

-- The number n, and what follows it.
module _ (n : ℕ) (rest : List ℕ) where
  abbrev Fails : {A : Type 0} → (List ℕ → Parse A) → List ℕ → Type 0
  Fails read p = FailsAfter read p (decimal n ++ rest)

  number_fails : (least most end : ℕ) → least ≤ 1 → is_digit end ≡ false → (Within least most n → ⊥) → Fails (read_number least most end) []
  number_fails least most end low plain out = record { stops = number_outside least most end low plain n out rest }

  in_set :
      (numbers : List ℕ) → Each (Within 0 most_number) numbers → length numbers < 4 → (Within 0 most_number n → ⊥) →
      Fails read_set (joined (λ m. ended space (decimal m)) numbers)
  unfolding read_set joined
  in_set [] h l out = in_first _ (number_fails 0 most_number space (omega arith) refl out)
  in_set (v ∷ []) h l out = past _ v h.0 (in_first _ (number_fails 0 most_number space (omega arith) refl out))
  in_set (v ∷ a ∷ []) h l out = past _ v h.0 (past _ a h.1.0 (in_first _ (number_fails 0 most_number space (omega arith) refl out)))
  in_set (v ∷ a ∷ j ∷ []) h l out =
      past _ v h.0 (past _ a h.1.0 (past _ j h.1.1.0 (in_first _ (number_fails 0 most_number line_end (omega arith) refl out))))
  in_set (v ∷ a ∷ j ∷ s ∷ more) h l out = absurd (omega arith)

  in_displacement : (Within 0 most_displacement n → ⊥) → Fails read_displacement []
  in_displacement out =
      let s = (in_first (λ m after. parsed (pos m) after) (number_fails 0 most_displacement space (omega arith) refl out)).stops in
      record { stops = record { rest = s.rest; is = without_minus n rest ∙ s.is } }

  after_minus : (Within 1 most_displacement n → ⊥) → Fails read_displacement (minus ∷ [])
  unfolding read_displacement
  after_minus out =
      record { stops = (in_first (λ m after. parsed (neg_ℤ (pos m)) after) (number_fails 1 most_displacement space (omega arith) refl out)).stops }

  in_move_line :
      {text : List ℕ} {least most : ℕ} (setCount : ℕ) → NextInMove setCount text least most → (Within least most n → ⊥) →
      Fails (read_move setCount) text
  unfolding read_move
  in_move_line setCount displacement out = in_first _ (in_displacement out)
  in_move_line setCount displacement_after_minus out = in_first _ (after_minus out)
  in_move_line setCount (set_number x x-ok) out =
      let after_x : Fails (read_move setCount) (ended space (signed_decimal x) ++ []) =
      in_second displacement_format _ x x-ok
      (in_first _ (number_fails 1 setCount line_end (omega arith) refl out)) in
      rw append-nil at after_x

  in_second_section :
      {p : List ℕ} (sets : List BoundSet) → SectionAllowed SetAllowed most_sets sets → Fails (second sets) p →
      Fails read_sections (section_text set_line sets ++ p)
  unfolding read_sections
  in_second_section {p} sets h k =
      rw (append_assoc (count_line (length sets)) (joined set_line sets) p)
      (in_second (count_format most_sets (omega arith)) _ (length sets) h.count
      (in_second (lines_format set_format (length sets)) _ sets (record { each = h.each; count = refl }) k))

  in_sheet : {text : List ℕ} {least most : ℕ} → NextNumber text least most → (Within least most n → ⊥) → Fails read_sections text
  unfolding read_sections
  in_sheet set_count out = in_first _ (number_fails 1 most_sets line_end (omega arith) refl out)
  in_sheet (bound count sets numbers count-ok sets-ok numbers-ok) out =
      in_second (count_format most_sets (omega arith)) _ count count-ok
      (in_first _ (in_lines set_format count sets sets-ok.each sets-ok.fewer
      (in_set numbers numbers-ok.each numbers-ok.fewer out)))
  in_sheet (move_count sets h) out =
      rw append-nil at (in_second_section {p = []} sets h (in_first _ (number_fails 1 most_moves line_end (omega arith) refl out)))
  in_sheet (in_move sets count moves {text = p} sets-ok count-ok moves-ok next) out =
      in_second_section sets sets-ok
      (in_second (count_format most_moves (omega arith)) _ count count-ok
      (in_first _ (in_lines (move_format (length sets) sets-ok.count.from) count moves moves-ok.each moves-ok.fewer
      (in_move_line (length sets) next out))))

-- So no sheet goes on with it.
pub outside_span :
    (text : List ℕ) (least most n : ℕ) → NextNumber text least most → (Within least most n → ⊥) → CanBegin (text ++ decimal n) → ⊥
outside_span text least most n next out begins =
    let rest = begins.rest in
    let whole : read_sections (text ++ (decimal n ++ rest)) ≡ parsed begins.sheet [] =
    ap read_sections (sym (append_assoc text (decimal n) rest) ∙ sym begins.whole)
    ∙ whole_text _ begins.sheet begins.allowed refl in
    not_both whole (in_sheet n rest next out).stops.is
