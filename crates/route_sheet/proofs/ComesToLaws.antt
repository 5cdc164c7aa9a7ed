-- What is read of a text that is not too long is what the text comes to (`sound`), and a text comes to one thing only (`one_result`).
use mathlib.Core.List.{List, [], ◌∷◌, ◌++◌, append-nil}
use mathlib.Core.Path.{◌≡◌, refl, ap, ◌∙◌, sym, subst}
use Prim.Native.Nat.{ℕ, ◌+◌, ◌-◌, ◌≤◌}
use native.Mathlib.Omega.{arith}
use lib.ListN.{length, take, drop, length-append}
use lib.Seq.{take_at}
use Rattle.std.proofs.lemmas.List.{drop_at, take_all}
use Rattle.std.specs.Prelude.{Result, Err}
use Rattle.planner.proofs.Clash.{clash}
use Rattle.route_sheet.specs.Text.{line_ends}
use Rattle.route_sheet.specs.Sheet.{Sheet, SheetAllowed, sheet_text}
use Rattle.route_sheet.specs.Beginning.{LongestBeginning, most_bytes, ComesTo, too_long, listed, malformed_at}
use Rattle.route_sheet.specs.Inner.Reading.{Parse, parsed, failed, then_read, read_sections, lines_in, at_end, read_whole, line_of, outcome}
use Rattle.route_sheet.proofs.FormatLaws.{Failure, ParseSound, not_both}
use Rattle.route_sheet.proofs.SheetLaws.{sections_format, sheet_lines}
use Rattle.route_sheet.proofs.StopLaws.{longest}

-- A sheet's text, and nothing after it.
pub whole_text : (t : List ℕ) (x : Sheet) → SheetAllowed x → t ≡ sheet_text x → read_sections t ≡ parsed x []
whole_text t x h e = rw (e, ← append-nil (sheet_text x)) (sections_format.reads_back x h [])

-- Nothing follows the last line.
ended_sound :
    (t : List ℕ) (x : Parse Sheet) → ParseSound sheet_text SheetAllowed read_sections t x →
    ParseSound sheet_text SheetAllowed read_whole t (then_read x at_end)
unfolding then_read at_end read_whole
ended_sound t (parsed x []) w = w
ended_sound t (parsed x (b ∷ s)) w =
    record {
      beginning = sheet_text x;
      splits = w.text_is;
      begins = record { value = x; allowed = w.allowed; rest = []; whole = sym (append-nil (sheet_text x)) };
      stays = λ b' more at r. rw (sections_format.reads_back x w.allowed (b' ∷ r));
    }
ended_sound t (failed rest) h =
    record { beginning = h.beginning; splits = h.splits; begins = h.begins; stays = λ b more at r. rw (h.stays b more at r) }

whole_sound : (t : List ℕ) → ParseSound sheet_text SheetAllowed read_whole t (read_whole t)
unfolding read_whole
whole_sound t = ended_sound t (read_sections t) (sections_format.sound t)

nothing_after : (x : Parse Sheet) {y : Sheet} {rest : List ℕ} → then_read x at_end ≡ parsed y rest → rest ≡ []
unfolding then_read at_end
nothing_after (parsed x []) e = cc
nothing_after (parsed x (b ∷ s)) e = absurd (clash cc)
nothing_after (failed rest) e = absurd (clash cc)

no_rest : (t : List ℕ) {x : Sheet} {rest : List ℕ} → read_whole t ≡ parsed x rest → rest ≡ []
unfolding read_whole
no_rest t e = nothing_after (read_sections t) e

whole_read : (t : List ℕ) (x : Sheet) → SheetAllowed x → t ≡ sheet_text x → read_whole t ≡ parsed x []
unfolding read_whole then_read at_end
whole_read t x h e = rw (whole_text t x h e)

-- Where reading fails, and the line of that byte.
failed_sound : {t rest : List ℕ} (x : Parse Sheet) → x ≡ failed rest → ParseSound sheet_text SheetAllowed read_whole t x → Failure sheet_text SheetAllowed read_whole t rest
failed_sound {t} x e h = rw e at h

pub stops_at : {t rest : List ℕ} → read_whole t ≡ failed rest → Failure sheet_text SheetAllowed read_whole t rest
stops_at {t} e = failed_sound (read_whole t) e (whole_sound t)

pub shorter_rest : (t : List ℕ) {rest : List ℕ} → read_whole t ≡ failed rest → length rest ≤ length t
shorter_rest t e = let h = stops_at e in rw (h.splits, length-append) (omega arith)

before_rest : (t p rest : List ℕ) → t ≡ p ++ rest → take (length t - length rest) t ≡ p
before_rest t p rest e = rw e (take_at p rest (length (p ++ rest) - length rest) (omega (arith, length-append p rest)))

-- A byte after a whole sheet stands on the line after the sheet's.
pub line_after_sheet : (x : Sheet) (rest : List ℕ) → line_of (sheet_text x ++ rest) rest ≡ 1 + lines_in x
line_after_sheet x rest = rw (before_rest (sheet_text x ++ rest) (sheet_text x) rest refl, sheet_lines x)

-- The rest that cannot go on is what the text ends with.
pub rest_left : (t : List ℕ) {rest : List ℕ} → read_whole t ≡ failed rest → (from : ℕ) → from ≡ length t - length rest → rest ≡ take (length t - from) (drop from t)
rest_left t {rest} e from at =
    let h = stops_at e in
    let size = length-append h.beginning rest in
    rw h.splits
    (sym (ap (take (length (h.beginning ++ rest) - from)) (drop_at h.beginning rest from (omega (arith, at, ap length h.splits, size))) ∙ take_all _ rest (omega (arith, at, ap length h.splits, size))))

module _ (t : List ℕ) (fits : length t ≤ most_bytes) where
  comes_to : (x : Parse Sheet) → read_whole t ≡ x → ParseSound sheet_text SheetAllowed read_whole t x → ComesTo t (outcome t x)
  unfolding outcome
  comes_to (parsed x rest) e w =
      listed fits w.allowed (w.text_is ∙ ap (λ (r : List ℕ). sheet_text x ++ r) (no_rest t e) ∙ append-nil (sheet_text x))
  comes_to (failed rest) e h =
      subst (λ (p : List ℕ). ComesTo t (Err (11, 1 + line_ends p))) (sym (before_rest t h.beginning rest h.splits))
      (malformed_at fits (λ x x-ok f. not_both (whole_read t x x-ok f) e)
      (record {
        rest = rest;
        splits = h.splits;
        can_begin = let b = h.begins in record { sheet = b.value; allowed = b.allowed; rest = b.rest; whole = b.whole };
        longest =
            λ other after f c.
            longest (λ x x-ok. whole_read (sheet_text x) x x-ok refl) h other after f (record { value = c.sheet; allowed = c.allowed; rest = c.rest; whole = c.whole });
      }))

pub sound : (t : List ℕ) → length t ≤ most_bytes → ComesTo t (outcome t (read_whole t))
sound t fits = comes_to t fits (read_whole t) refl (whole_sound t)

-- A text has one longest beginning.
same_beginning : {t p q : List ℕ} → LongestBeginning t p → LongestBeginning t q → p ≡ q
same_beginning {t} {p} {q} h k =
    let p_q : length p ≤ length q = k.longest p h.rest h.splits h.can_begin in
    let q_p : length q ≤ length p = h.longest q k.rest k.splits k.can_begin in
    sym (take_at p h.rest (length q) (omega arith))
    ∙ ap (take (length q)) (sym h.splits ∙ k.splits)
    ∙ take_at q k.rest (length q) refl

pub one_result : {t : List ℕ} {x y : Result Sheet (ℕ × ℕ)} → ComesTo t x → ComesTo t y → x ≡ y
one_result (too_long l) (too_long k) = refl
one_result (too_long l) (listed k y-ok f) = absurd (omega arith)
one_result (too_long l) (malformed_at k no-sheet h) = absurd (omega arith)
one_result (listed l x-ok e) (too_long k) = absurd (omega arith)
one_result {t} (listed {sheet = x} l x-ok e) (listed {sheet = y} k y-ok f) = cc (whole_text t x x-ok e, whole_text t y y-ok f)
one_result (listed l x-ok e) (malformed_at k no-sheet h) = absurd (no-sheet _ x-ok e)
one_result (malformed_at l no-sheet h) (too_long k) = absurd (omega arith)
one_result (malformed_at l no-sheet h) (listed k y-ok f) = absurd (no-sheet _ y-ok f)
one_result (malformed_at l no-sheet h) (malformed_at k other g) =
    ap (λ (p : List ℕ). Err (11, 1 + line_ends p)) (same_beginning h g)
