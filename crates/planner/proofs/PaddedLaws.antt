-- Places that are filled one after the other.
use mathlib.Core.Path.{◌≡◌, refl, sym, ap, ap₂, ◌∙◌}
use mathlib.Core.List.{List, [], ◌∷◌, ◌++◌, map, map-append, append_assoc}
use Prim.Native.Nat.{ℕ, zero, suc, ◌+◌, ◌-◌, ◌≤◌, ◌<◌}
use native.Mathlib.Numerals.{add-one}
use native.Mathlib.Omega.{arith}
use lib.ListN.{get_or-append, length, take, drop, set, get_or, replicate, length-append, length-map, length-replicate}
use lib.Seq.{take-suc, drop-cons, length-take-le, set_at, get_or_at}
use Rattle.planner.specs.Refusals.{padded}

one_left : (places i n : ℕ) → i < places → n ≡ i → places - n ≡ suc (places - suc i)
one_left places i n h q = omega arith

module _ {M A : Type 0} (f : M → A) where
  module _ (places : ℕ) (unused : A) (xs : List M) where
    pub padded_length : length xs ≤ places → length (padded places unused (map f xs)) ≡ places
    padded_length h =
        let left = places - length (map f xs) in
        omega (arith, length-append (map f xs) (replicate left unused), length-map xs f, length-replicate left unused)

    pub padded_next :
        {y : A} (d : M) (i : ℕ) → i < length xs → i < places → y ≡ f (get_or xs i d)
        → set (padded places unused (map f (take i xs))) i y ≡ padded places unused (map f (take (i + 1) xs))
    padded_next {y} d i l h q =
        let front = map f (take i xs) in
        let len : length front ≡ i = length-map (take i xs) f ∙ length-take-le i xs (omega arith) in
        let rest : replicate (places - length front) unused ≡ unused ∷ replicate (places - suc i) unused =
        ap (λ (n : ℕ). replicate n unused) (one_left places i (length front) h len) in
        let more : map f (take (i + 1) xs) ≡ front ++ (y ∷ []) =
        rw (add-one i, take-suc xs i d l) (map-append f (take i xs) (get_or xs i d ∷ []) ∙ ap (λ (y : A). front ++ (y ∷ [])) (sym q)) in
        let after : places - suc i ≡ places - length (front ++ (y ∷ [])) = omega (arith, len, length-append front (y ∷ [])) in
        ap (λ (l : List A). set (front ++ l) i y) rest
        ∙ set_at front unused (replicate (places - suc i) unused) y i len
        ∙ sym (append_assoc front (y ∷ []) (replicate (places - suc i) unused))
        ∙ ap (λ (n : ℕ). (front ++ (y ∷ [])) ++ replicate n unused) after
        ∙ ap (padded places unused) (sym more)

    -- the place of an element, whatever stands beyond
    pub padded_at : (z : A) (d : M) (i : ℕ) → i < length xs → get_or (padded places unused (map f xs)) i z ≡ f (get_or xs i d)
    padded_at z d i l = get_or-append (map f xs) _ z i (omega (arith, length-map xs f, l)) ∙ mapped xs i l
      where
        mapped : (xs : List M) (i : ℕ) → i < length xs → get_or (map f xs) i z ≡ f (get_or xs i d)
        mapped [] i l = absurd (omega arith)
        mapped (x ∷ xs) zero l = refl
        mapped (x ∷ xs) (suc i) l = mapped xs i (omega arith)

-- the same places, mapped once more
pub padded_mapped :
    {M A B : Type 0} (g : A → B) (f : M → A) (h : M → B) → ((x : M) → g (f x) ≡ h x)
    → (places : ℕ) (unused : A) (unused' : B) → g unused ≡ unused'
    → (xs : List M) → map g (padded places unused (map f xs)) ≡ padded places unused' (map h xs)
padded_mapped {M} {A} {B} g f h same places unused unused' q xs =
    let left = places - length (map f xs) in
    let lengths : length (map f xs) ≡ length (map h xs) = length-map xs f ∙ sym (length-map xs h) in
    map-append g (map f xs) (replicate left unused)
    ∙ ap₂ ◌++◌ (mapped xs) (filled left ∙ ap (λ (n : ℕ). replicate (places - n) unused') lengths)
  where
    mapped : (xs : List M) → map g (map f xs) ≡ map h xs
    mapped [] = refl
    mapped (x ∷ xs) = ap₂ (λ (y : B) (l : List B). y ∷ l) (same x) (mapped xs)

    filled : (n : ℕ) → map g (replicate n unused) ≡ replicate n unused'
    filled zero = refl
    filled (suc n) = ap₂ (λ (y : B) (l : List B). y ∷ l) q (filled n)

-- places that are mapped one after the other
module _ {A : Type 0} (f : A → A) (xs : List A) (d : A) (i : ℕ) (l : i < length xs) where
  front_length : length (map f (take i xs)) ≡ i
  front_length = length-map (take i xs) f ∙ length-take-le i xs (omega arith)

  pub mapped_at : get_or (map f (take i xs) ++ drop i xs) i d ≡ get_or xs i d
  mapped_at = ap (λ (r : List A). get_or (map f (take i xs) ++ r) i d) (drop-cons xs i d l) ∙ get_or_at (map f (take i xs)) _ _ d i front_length

  pub mapped_next : {y : A} → y ≡ f (get_or xs i d) → set (map f (take i xs) ++ drop i xs) i y ≡ map f (take (i + 1) xs) ++ drop (i + 1) xs
  mapped_next {y} q =
      ap (λ (r : List A). set (map f (take i xs) ++ r) i y) (drop-cons xs i d l)
      ∙ set_at (map f (take i xs)) _ _ y i front_length
      ∙ rw (add-one i, take-suc xs i d l)
      (ap (λ (y : A). map f (take i xs) ++ y ∷ drop (suc i) xs) q
      ∙ sym (append_assoc (map f (take i xs)) (f (get_or xs i d) ∷ []) (drop (suc i) xs))
      ∙ ap (λ (r : List A). r ++ drop (suc i) xs) (sym (map-append f (take i xs) (get_or xs i d ∷ []))))
