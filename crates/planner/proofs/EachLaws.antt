-- A property of every element of a list, taken apart and put together.
use mathlib.Core.List.{List, [], ◌∷◌, ◌++◌, map}
use Prim.Native.Nat.{ℕ, zero, suc, ◌<◌}
use native.Mathlib.Omega.{arith}
use lib.ListN.{length, get_or}
use Rattle.planner.specs.Refusals.{Each}

module _ {A : Type 0} (P : A → Type 0) where
  pub each_joined : (xs ys : List A) → Each P xs → Each P ys → Each P (xs ++ ys)
  each_joined [] ys p q = q
  each_joined (x ∷ xs) ys p q = (p.0, each_joined xs ys p.1 q)

  pub each_parts : (xs ys : List A) → Each P (xs ++ ys) → Each P xs × Each P ys
  each_parts [] ys p = (tt, p)
  each_parts (x ∷ xs) ys p = let q = each_parts xs ys p.1 in ((p.0, q.0), q.1)

  pub each_at : (xs : List A) (i : ℕ) (d : A) → i < length xs → Each P xs → P (get_or xs i d)
  each_at [] i d l h = absurd (omega arith)
  each_at (x ∷ xs) zero d l h = h.0
  each_at (x ∷ xs) (suc i) d l h = each_at xs i d (omega arith) h.1

  pub each_from : (xs : List A) (d : A) → ((i : ℕ) → i < length xs → P (get_or xs i d)) → Each P xs
  each_from [] d h = tt
  each_from (x ∷ xs) d h = (h 0 (omega arith), each_from xs d (λ i l. h (suc i) (omega arith)))

-- the same of what the elements are mapped to, and the other way round
module _ {A B : Type 0} (f : A → B) (P : A → Type 0) (Q : B → Type 0) where
  pub each_mapped : ((x : A) → P x → Q (f x)) → (xs : List A) → Each P xs → Each Q (map f xs)
  each_mapped g [] h = tt
  each_mapped g (x ∷ xs) h = (g x h.0, each_mapped g xs h.1)

  pub mapped_each : ((x : A) → Q (f x) → P x) → (xs : List A) → Each Q (map f xs) → Each P xs
  mapped_each g [] h = tt
  mapped_each g (x ∷ xs) h = (g x h.0, mapped_each g xs h.1)
