-- The loop that reads a section, over any kind of line: its invariant, and one law for each of its steps.
use mathlib.Core.List.{List, [], ◌∷◌, ◌++◌, append-nil, append_assoc}
use mathlib.Core.Path.{◌≡◌, refl, ◌∙◌}
use Prim.Native.Nat.{ℕ, suc, ◌+◌, ◌-◌, ◌<◌}
use native.Mathlib.Omega.{arith}
use lib.ListN.{length, set, take}
use Rattle.std.proofs.lemmas.List.{take_all, take_more_set}
use Rattle.route_sheet.specs.Inner.Reading.{Parse, parsed, failed, then_read, read_lines}

-- What stands before the lines that are left.
abbrev pub after : {A : Type 0} → List A → Parse (List A) → Parse (List A)
after xs found = then_read found λ ys rest. parsed (xs ++ ys) rest

-- The first `done` of `count` lines are read into as many places.
pub record LinesRead {A : Type 0} (read : List ℕ → Parse A) (text : List ℕ) (count done : ℕ) (rest : List ℕ) (places : List A) : Type 0 where
  pub found : read_lines read count text ≡ after (take done places) (read_lines read (count - done) rest)

after_one :
    {A : Type 0} (xs : List A) (x : A) (found : Parse (List A)) →
    after xs (then_read found λ ys rest. parsed (x ∷ ys) rest) ≡ after (xs ++ (x ∷ [])) found
unfolding then_read
after_one xs x (parsed ys rest) = rw append_assoc
after_one xs x (failed rest) = refl

none_before : {A : Type 0} (found : Parse (List A)) → found ≡ after [] found
unfolding then_read
none_before (parsed ys rest) = refl
none_before (failed rest) = refl

module _ {A : Type 0} {read : List ℕ → Parse A} {text : List ℕ} {count : ℕ} where
  pub none_read : (places : List A) → LinesRead read text count 0 text places
  unfolding then_read
  none_read places =
      let all : count - 0 ≡ count = omega arith in
      record { found = rw all (none_before (read_lines read count text)) }

  module _ {done : ℕ} {rest : List ℕ} {places : List A} (so_far : LinesRead read text count done rest places) where
    pub one_read :
        {x : A} {next : List ℕ} → length places ≡ count → done < count → read rest ≡ parsed x next →
        LinesRead read text count (done + 1) next (set places done x)
    unfolding then_read read_lines
    one_read {x} {next} h l e =
        let left : count - done ≡ suc (count - (done + 1)) = omega arith in
        let there : done < length places = omega arith in
        record { found = so_far.found ∙ rw (left, read_lines, e, take_more_set places done x there) (after_one (take done places) x (read_lines read (count - (done + 1)) next)) }

    pub lines_fail : {next : List ℕ} → done < count → failed next ≡ read rest → failed next ≡ read_lines read count text
    unfolding then_read read_lines
    lines_fail l e =
        let left : count - done ≡ suc (count - (done + 1)) = omega arith in
        rw (so_far.found, left, read_lines, ← e)

    pub lines_end : done ≡ count → length places ≡ count → read_lines read count text ≡ parsed places rest
    unfolding then_read read_lines
    lines_end l h =
        let left : count - done ≡ 0 = omega arith in
        let all : take done places ≡ places = take_all done places (omega arith) in
        rw (so_far.found, left, read_lines, all, append-nil)

pub ruleset section_steps = (one_read, lines_end)
