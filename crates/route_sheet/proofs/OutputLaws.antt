-- Bytes put one after the other are their texts joined.
use mathlib.Core.List.{List, [], ◌∷◌, ◌++◌, append-nil, append_assoc}
use mathlib.Core.Path.{◌≡◌, refl, sym, ap, ◌∙◌}
use Prim.Native.Nat.{ℕ, ◌+◌, ◌-◌, ◌≤◌, ◌<◌}
use native.Mathlib.Numerals.{add-one}
use native.Mathlib.Omega.{arith}
use denote.Ref.{Bor}
use lib.ListN.{length, take, drop, get_or, set, length-append, drop_of_length-le}
use lib.Seq.{drop-cons, take-suc}
use Rattle.std.proofs.Common.{take-append-drop}
use Rattle.std.proofs.lemmas.List.{drop-drop, take_more_set, drop-set-lt}
use Rattle.route_sheet.specs.Text.{line_end, decimal}
use Rattle.route_sheet.specs.Inner.Output.{Puts, Room, line_text}

-- What agrees from i on agrees from j on.
drop_later : (i j : ℕ) (xs ys : List ℕ) → i ≤ j → drop i xs ≡ drop i ys → drop j xs ≡ drop j ys
drop_later i j xs ys h e =
    let whole : i + (j - i) ≡ j = omega arith in
    rw whole at (sym (drop-drop (j - i) i xs) ∙ ap (drop (j - i)) e ∙ drop-drop (j - i) i ys)

pub put_none : (old : List ℕ) (at : ℕ) → Puts old at [] at old
put_none old at = record { next_is = omega arith; front = rw append-nil; rest = refl }

pub put_more :
    {old mid new : List ℕ} {at next end : ℕ} {xs ys : List ℕ} → Puts old at xs next mid → Puts mid next ys end new →
    Puts old at (xs ++ ys) end new
put_more {old} {mid} {new} {at} {next} {end} {xs} {ys} p q = record {
  next_is = omega (arith, p.next_is, q.next_is, length-append xs ys);
  front = q.front ∙ ap (λ (t : List ℕ). t ++ ys) p.front ∙ append_assoc (take at old) xs ys;
  rest = q.rest ∙ drop_later next end mid old (omega (arith, q.next_is)) p.rest;
}

-- One byte more of a text.
pub put_next :
    {old new : List ℕ} (text : List ℕ) {at i : ℕ} → i < length text → at + i < length new → Puts old at (take i text) (at + i) new →
    Puts old at (take (i + 1) text) (at + (i + 1)) (set new (at + i) (get_or text i 0))
put_next {old} {new} text {at} {i} h room p =
    let b = get_or text i 0 in
    let more : take (i + 1) text ≡ take i text ++ (b ∷ []) = rw add-one (take-suc text i 0 h) in
    let next : at + (i + 1) ≡ at + i + 1 = omega arith in
    let one : Puts new (at + i) (b ∷ []) (at + i + 1) (set new (at + i) b) = record {
      next_is = refl;
      front = take_more_set new (at + i) b room;
      rest = drop-set-lt (at + i + 1) new (at + i) b (omega arith);
    } in
    rw (more, next) (put_more p one)

pub put_whole : {old new bytes : List ℕ} {next : ℕ} → Puts old 0 bytes next new → new ≡ bytes ++ drop (length bytes) old
put_whole {old} {new} {bytes} {next} p =
    let next_is : next ≡ length bytes = omega (arith, p.next_is) in
    sym (take-append-drop next new) ∙ ap (λ (t : List ℕ). t ++ drop next new) p.front
    ∙ ap (λ (t : List ℕ). bytes ++ t) (p.rest ∙ ap (λ (n : ℕ). drop n old) next_is)

-- The loop that puts a line: what it put so far stands before what is left.
pub record LineSoFar (old : List ℕ) (at : ℕ) (fields : List (Bor (List ℕ) × ℕ)) (i end : ℕ) (new : List ℕ) : Type 0 where
  pub front : List ℕ
  pub puts : Puts old at front end new
  pub all : line_text fields ≡ front ++ line_text (drop i fields)

pub no_field : (old : List ℕ) (at : ℕ) (fields : List (Bor (List ℕ) × ℕ)) → LineSoFar old at fields 0 at old
no_field old at fields = record { front = []; puts = put_none old at; all = refl }

module _ {old : List ℕ} {at : ℕ} {fields : List (Bor (List ℕ) × ℕ)} {i end : ℕ} {mid : List ℕ} (l : LineSoFar old at fields i end mid) where
  module _ (d : Bor (List ℕ) × ℕ) (h : i < length fields) where
    abbrev word : List ℕ
    word = (get_or fields i d).0.now

    abbrev number : List ℕ
    number = decimal (get_or fields i d).1

    left : line_text fields ≡ l.front ++ (word ++ (number ++ line_text (drop (i + 1) fields)))
    unfolding line_text
    left = rw (l.all, drop-cons fields i d h, add-one)

    pub word_room : Room at (line_text fields) → Room end word
    word_room r = let size = simp length-append at (ap length left) in omega (arith, size, l.puts.next_is, r)

    pub number_room :
        {next : ℕ} {new : List ℕ} → Room at (line_text fields) → Puts mid end word next new → Room next number
    number_room r p = let size = simp length-append at (ap length left) in omega (arith, size, l.puts.next_is, p.next_is, r)

    pub next_field :
        {next after : ℕ} {new newer : List ℕ} → Puts mid end word next new → Puts new next number after newer →
        LineSoFar old at fields (i + 1) after newer
    next_field p q = record {
      front = l.front ++ (word ++ number);
      puts = put_more l.puts (put_more p q);
      all = left ∙ rw (append_assoc, append_assoc);
    }

  module _ (h : length fields ≤ i) where
    whole : line_text fields ≡ l.front ++ (line_end ∷ [])
    unfolding line_text
    whole = rw (l.all, drop_of_length-le fields h)

    pub end_room : Room at (line_text fields) → Room end (line_end ∷ [])
    end_room r = let size = simp length-append at (ap length whole) in omega (arith, size, l.puts.next_is, r)

    pub line_put : {next : ℕ} {new : List ℕ} → Puts mid end (line_end ∷ []) next new → Puts old at (line_text fields) next new
    line_put p = rw whole (put_more l.puts p)

pub ruleset line_steps = (no_field, next_field)
