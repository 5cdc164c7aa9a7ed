-- Formats: how the values of a kind are written, which of them are allowed, and how a text is read. Each part of a sheet has one.
use mathlib.Core.List.{List, [], ◌∷◌, ◌++◌, append-nil, nil≢cons}
use mathlib.Core.Path.{◌≡◌, refl, sym, subst, fun_ext}
use Prim.Native.Nat.{ℕ}
use Rattle.planner.proofs.Clash.{clash}
use Rattle.route_sheet.specs.Inner.Reading.{Parse, parsed, failed}

-- The text of an allowed value begins so.
pub record Begins {A : Type 0} (text : A → List ℕ) (ok : A → Type 0) (beginning : List ℕ) : Type 0 where
  pub value : A
  pub allowed : ok value
  pub rest : List ℕ
  pub whole : text value ≡ beginning ++ rest

-- Where a parse fails: the text of an allowed value can begin so far, and with the next byte it fails there whatever follows.
pub record Failure {A : Type 0} (text : A → List ℕ) (ok : A → Type 0) (read : List ℕ → Parse A) (t rest : List ℕ) : Type 0 where
  pub beginning : List ℕ
  pub splits : t ≡ beginning ++ rest
  pub begins : Begins text ok beginning
  pub stays : (b : ℕ) (more : List ℕ) → rest ≡ b ∷ more → (r : List ℕ) → read (beginning ++ (b ∷ r)) ≡ failed (b ∷ r)

-- An allowed value was read.
pub record WasRead {A : Type 0} (text : A → List ℕ) (ok : A → Type 0) (t : List ℕ) (a : A) (rest : List ℕ) : Type 0 where
  pub allowed : ok a
  pub text_is : t ≡ text a ++ rest

-- What a parse says of the text holds.
abbrev pub ParseSound : {A : Type 0} → (A → List ℕ) → (A → Type 0) → (List ℕ → Parse A) → List ℕ → Parse A → Type 0
ParseSound text ok read t (parsed a rest) = WasRead text ok t a rest
ParseSound text ok read t (failed rest) = Failure text ok read t rest

pub record Format {A : Type 0} (text : A → List ℕ) (ok : A → Type 0) (read : List ℕ → Parse A) : Type 0 where
  pub reads_back : (a : A) → ok a → (rest : List ℕ) → read (text a ++ rest) ≡ parsed a rest
  pub sound : (t : List ℕ) → ParseSound text ok read t (read t)

-- A parse that fails.
pub record Stops {A : Type 0} (x : Parse A) : Type 0 where
  pub rest : List ℕ
  pub is : x ≡ failed rest

-- No parse is both.
pub not_both : {A : Type 0} {x : Parse A} {a : A} {rest k : List ℕ} → x ≡ parsed a rest → x ≡ failed k → ⊥
not_both e h = clash (cc)

pub begins_none : {A : Type 0} {text : A → List ℕ} {ok : A → Type 0} (a : A) → ok a → Begins text ok []
begins_none {text = text} a h = record { value = a; allowed = h; rest = text a; whole = refl }

module _ {A : Type 0} {text : A → List ℕ} {ok : A → Type 0} {read : List ℕ → Parse A} where
  -- Some value is allowed: the parse of any text has one.
  pub some_value : Format text ok read → Begins text ok []
  some_value f = go (read []) (f.sound [])
    where
      go : (x : Parse A) → ParseSound text ok read [] x → Begins text ok []
      go (parsed a rest) w = begins_none a w.allowed
      go (failed rest) h = begins_none h.begins.value h.begins.allowed

  -- A text that can go on, and ends.
  pub failure_at_end : {t : List ℕ} → Begins text ok t → Failure text ok read t []
  failure_at_end {t} begins =
      record { beginning = t; splits = sym (append-nil t); begins = begins; stays = λ b more at. absurd (nil≢cons at) }

  -- The same reader, in other words.
  pub same_reader : {read' : List ℕ → Parse A} → Format text ok read → ((t : List ℕ) → read t ≡ read' t) → Format text ok read'
  same_reader f same = subst (Format text ok) (fun_ext same) f

-- Only x is allowed, and it is written as nothing.
pub nothing_written :
    {A : Type 0} {text : A → List ℕ} {ok : A → Type 0} (x : A) → ok x → ((a : A) → ok a → a ≡ x) → text x ≡ [] →
    Format text ok (λ t. parsed x t)
nothing_written x h only none =
    record { reads_back = λ a a-ok rest. cc (only a a-ok, none); sound = λ t. record { allowed = h; text_is = cc none } }
