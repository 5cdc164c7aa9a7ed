-- The same text for another kind of value: `mapped` makes the format of the one kind from that of the other.
use mathlib.Core.List.{List}
use mathlib.Core.Path.{◌≡◌, ◌∙◌}
use Prim.Native.Nat.{ℕ}
use Rattle.route_sheet.specs.Inner.Reading.{Parse, parsed, failed, then_read}
use Rattle.route_sheet.proofs.FormatLaws.{ParseSound, Format}

-- `make` takes the allowed values of one kind to those of another, each to one with the same text.
pub record Makes {A C : Type 0} (text : A → List ℕ) (ok : A → Type 0) (text' : C → List ℕ) (ok' : C → Type 0) (make : A → C) : Type 0 where
  pub made_ok : (a : A) → ok a → ok' (make a)
  pub made_text : (a : A) → ok a → text' (make a) ≡ text a
  pub part : (c : C) → ok' c → A
  pub part_ok : (c : C) (h : ok' c) → ok (part c h)
  pub part_makes : (c : C) (h : ok' c) → make (part c h) ≡ c

module _ {A C : Type 0} {text : A → List ℕ} {ok : A → Type 0} {read : List ℕ → Parse A} {text' : C → List ℕ} {ok' : C → Type 0}
    {make : A → C}
    (f : Format text ok read) (m : Makes text ok text' ok' make)
  where
    part_text : (c : C) (h : ok' c) → text' c ≡ text (m.part c h)
    part_text c h = cc (m.made_text (m.part c h) (m.part_ok c h), m.part_makes c h)

    pub mapped : Format text' ok' (λ t. then_read (read t) λ a rest. parsed (make a) rest)
    unfolding then_read
    mapped =
        record {
          reads_back = λ c h rest. rw (part_text c h, f.reads_back (m.part c h) (m.part_ok c h) rest, m.part_makes c h);
          sound = λ t. go t (read t) (f.sound t);
        }
      where
        go :
            (t : List ℕ) (x : Parse A) → ParseSound text ok read t x →
            ParseSound text' ok' (λ s. then_read (read s) λ a rest. parsed (make a) rest) t (then_read x λ a rest. parsed (make a) rest)
        go t (parsed a rest) w = record { allowed = m.made_ok a w.allowed; text_is = cc (w.text_is, m.made_text a w.allowed) }
        go t (failed k) h =
            let b = h.begins in
            record {
              beginning = h.beginning;
              splits = h.splits;
              begins =
                  record {
                    value = make b.value;
                    allowed = m.made_ok b.value b.allowed;
                    rest = b.rest;
                    whole = m.made_text b.value b.allowed ∙ b.whole;
                  };
              stays = λ x more at r. rw (h.stays x more at r);
            }
