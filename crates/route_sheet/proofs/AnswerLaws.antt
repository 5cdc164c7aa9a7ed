-- The promises leave one answer: a text comes to one thing only, and different readings have different contents.
use mathlib.Core.List.{List}
use mathlib.Core.Path.{◌≡◌, refl, sym, ap, ◌∙◌}
use Prim.Native.Nat.{ℕ}
use native.Mathlib.Omega.{arith}
use Rattle.planner.proofs.ResultLaws.{refused_or_given, same_refused, same_given}
use Rattle.route_sheet.specs.Answer.{number_and_line, Lists, ReadsSheet}
use Rattle.route_sheet.specs.Report.{Reports}
use Rattle.route_sheet.specs.Claims.{OneAnswerClaim}
use Rattle.route_sheet.specs.Sheet.{Sheet}
use Rattle.std.specs.Prelude.{Result, Ok, Err}
use Rattle.route_sheet.specs.declared.SheetReading.{SheetReading}
use Rattle.route_sheet.specs.declared.SheetRefusal.{SheetRefusal}
use Rattle.route_sheet.specs.declared.SheetRefusal.TheVariants.{Malformed, TooLong}
use Rattle.route_sheet.proofs.ComesToLaws.{one_result}

abbrev first : ℕ × ℕ → ℕ
first x = x.0

abbrev second : ℕ × ℕ → ℕ
second x = x.1

refusal_injective : (x y : SheetRefusal) → number_and_line x ≡ number_and_line y → x ≡ y
refusal_injective (Malformed k) (Malformed l) e = ap Malformed (ap second e)
refusal_injective (Malformed k) TooLong e = absurd (omega (arith, ap first e))
refusal_injective TooLong (Malformed l) e = absurd (omega (arith, ap first e))
refusal_injective TooLong TooLong e = refl

same_listing : (x : Sheet) (r s : SheetReading) → Lists x r → Lists x s → r ≡ s
same_listing x r s h k =
    let set_count = h.set_count ∙ sym k.set_count in
    let move_count = h.move_count ∙ sym k.move_count in
    let sets = h.sets ∙ sym k.sets in
    let moves = h.moves ∙ sym k.moves in
    λ i. record { set_count = set_count i; move_count = move_count i; sets = sets i; moves = moves i }

pub one_reading : (text : List ℕ) (x y : Result SheetReading SheetRefusal) → ReadsSheet text x → ReadsSheet text y → x ≡ y
one_reading text (Ok r) (Ok s) p q =
    ap Ok (same_listing p.sheet r s p.lists (rw (same_given (one_result q.comes_to p.comes_to)) at q.lists))
one_reading text (Ok r) (Err y) p q = absurd (refused_or_given (number_and_line y) p.sheet (one_result q p.comes_to))
one_reading text (Err x) (Ok s) p q = absurd (refused_or_given (number_and_line x) q.sheet (one_result p q.comes_to))
one_reading text (Err x) (Err y) p q = ap Err (refusal_injective x y (same_refused (one_result p q)))

pub one_report :
    {text old new new' : List ℕ} {count count' : ℕ} → Reports text old count new → Reports text old count' new' →
    (count ≡ count') × (new ≡ new')
one_report p q =
    let same = one_result p.comes_to q.comes_to in
    (p.count_is ∙ rw same (sym q.count_is), p.new_is ∙ rw same (sym q.new_is))

pub one_sheet_answer : (text : List ℕ) → OneAnswerClaim text
one_sheet_answer text = record { reading = one_reading text; report = λ old new new' count count'. one_report }
