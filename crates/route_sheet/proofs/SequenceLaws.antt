-- One part and then the next: `pair` makes the format of the two from theirs. Numbers in a line, lines in a section and sections in a
-- sheet all follow by it.
use mathlib.Core.List.{List, ◌++◌, append_assoc}
use mathlib.Core.Path.{◌≡◌, refl, ap}
use Prim.Native.Nat.{ℕ}
use Rattle.route_sheet.specs.Inner.Reading.{Parse, parsed, failed, then_read}
use Rattle.route_sheet.proofs.FormatLaws.{WasRead, ParseSound, Format, some_value, same_reader}
use Rattle.route_sheet.proofs.MappedFormats.{mapped}

pub then_assoc :
    {A B C : Type 0} (x : Parse A) (f : A → List ℕ → Parse B) (g : B → List ℕ → Parse C) →
    then_read (then_read x f) g ≡ then_read x (λ a rest. then_read (f a rest) g)
unfolding then_read
then_assoc (parsed a rest) f g = refl
then_assoc (failed rest) f g = refl

module _ {A B : Type 0} {text₁ : A → List ℕ} {ok₁ : A → Type 0} {read₁ : List ℕ → Parse A} {text₂ : B → List ℕ} {ok₂ : A → B → Type 0}
    {read₂ : A → List ℕ → Parse B}
    (one : Format text₁ ok₁ read₁) (two : (a : A) → ok₁ a → Format text₂ (ok₂ a) (read₂ a))
  where
    abbrev pair_text : A × B → List ℕ
    pair_text c = text₁ c.0 ++ text₂ c.1

    abbrev pair_ok : A × B → Type 0
    pair_ok c = ok₁ c.0 × ok₂ c.0 c.1

    abbrev pair_read : List ℕ → Parse (A × B)
    pair_read t = then_read (read₁ t) λ a middle. then_read (read₂ a middle) λ b rest. parsed (a, b) rest

    in_second :
        {t : List ℕ} {a : A} {middle : List ℕ} → WasRead text₁ ok₁ t a middle →
        (x : Parse B) → ParseSound text₂ (ok₂ a) (read₂ a) middle x →
        ParseSound pair_text pair_ok pair_read t (then_read x λ b rest. parsed (a, b) rest)
    unfolding then_read
    in_second w (parsed b rest) v =
        record { allowed = (w.allowed, v.allowed); text_is = rw append_assoc (cc (w.text_is, v.text_is)) }
    in_second {a = a} w (failed rest) h =
        let s = h.begins in
        record {
          beginning = text₁ a ++ h.beginning;
          splits = rw append_assoc (cc (w.text_is, h.splits));
          begins =
              record { value = (a, s.value); allowed = (w.allowed, s.allowed); rest = s.rest; whole = rw append_assoc (cc s.whole) };
          stays = λ b more at r. rw (append_assoc, one.reads_back a w.allowed, h.stays b more at r);
        }

    in_first : (t : List ℕ) (x : Parse A) → ParseSound text₁ ok₁ read₁ t x →
        ParseSound pair_text pair_ok pair_read t (then_read x λ a middle. then_read (read₂ a middle) λ b rest. parsed (a, b) rest)
    unfolding then_read
    in_first t (parsed a middle) w = in_second w (read₂ a middle) ((two a w.allowed).sound middle)
    in_first t (failed rest) h =
        let first = h.begins in
        let s = some_value (two first.value first.allowed) in
        record {
          beginning = h.beginning;
          splits = h.splits;
          begins =
              record {
                value = (first.value, s.value);
                allowed = (first.allowed, s.allowed);
                rest = first.rest ++ text₂ s.value;
                whole = rw (first.whole, append_assoc);
              };
          stays = λ b more at r. rw (h.stays b more at r);
        }

    pub pair :
        Format (λ (c : A × B). text₁ c.0 ++ text₂ c.1) (λ c. ok₁ c.0 × ok₂ c.0 c.1)
        (λ t. then_read (read₁ t) λ a middle. then_read (read₂ a middle) λ b rest. parsed (a, b) rest)
    unfolding then_read
    pair =
        record {
          reads_back = λ c h rest. rw (append_assoc, one.reads_back c.0 h.0, (two c.0 h.0).reads_back c.1 h.1);
          sound = λ t. in_first t (read₁ t) (one.sound t);
        }

-- An allowed value, of which a part is told.
pub record With {A C : Type 0} (ok : C → Type 0) (first : C → A) (a : A) (c : C) : Type 0 where
  pub allowed : ok c
  pub first_is : first c ≡ a

-- The same where the first part is part of one value.
module _ {A C : Type 0} {text₁ : A → List ℕ} {ok₁ : A → Type 0} {read₁ : List ℕ → Parse A} {text₂ : C → List ℕ} {ok : C → Type 0}
    {read₂ : A → List ℕ → Parse C}
    (first : C → A) (one : Format text₁ ok₁ read₁)
    (first-ok : (c : C) → ok c → ok₁ (first c))
    (two : (a : A) → ok₁ a → Format text₂ (With ok first a) (read₂ a))
  where
    second : (a : A) (y : Parse C) → then_read (then_read y λ c rest. parsed (a, c) rest) (λ (p : A × C) rest. parsed p.1 rest) ≡ y
    unfolding then_read
    second a (parsed c rest) = refl
    second a (failed rest) = refl

    reads : (x : Parse A) →
        then_read (then_read x λ a middle. then_read (read₂ a middle) λ c rest. parsed (a, c) rest) (λ (p : A × C) rest. parsed p.1 rest)
        ≡ then_read x read₂
    unfolding then_read
    reads (parsed a middle) = second a (read₂ a middle)
    reads (failed rest) = refl

    pub sequence : Format (λ c. text₁ (first c) ++ text₂ c) ok (λ t. then_read (read₁ t) read₂)
    sequence =
        same_reader
        (mapped {make = λ p. p.1} (pair one two)
        (record {
          made_ok = λ p h. h.1.allowed;
          made_text = λ p h. ap (λ (a : A). text₁ a ++ text₂ p.1) h.1.first_is;
          part = λ c h. (first c, c);
          part_ok = λ c h. (first-ok c h, record { allowed = h; first_is = refl });
          part_makes = λ c h. refl;
        }))
        (λ t. reads (read₁ t))
