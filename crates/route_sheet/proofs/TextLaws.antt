-- Two splits of one text, and the line ends of a text.
use mathlib.Core.List.{List, [], ◌∷◌, ◌++◌}
use mathlib.Core.Path.{◌≡◌, refl, sym}
use Rattle.std.proofs.lemmas.List.Sums.{sum_by-append}
use Prim.Native.Nat.{ℕ, ◌+◌}
use Rattle.route_sheet.specs.Text.{line_ends}

-- The first parts of xs ++ ys and zs ++ ws, where the two are one text: the one goes on past the other.
pub data Overlap (xs ys zs ws : List ℕ) : Type 0 where
  longer : (b : ℕ) (more : List ℕ) → xs ≡ zs ++ (b ∷ more) → ws ≡ b ∷ (more ++ ys) → Overlap xs ys zs ws
  shorter : (more : List ℕ) → zs ≡ xs ++ more → ys ≡ more ++ ws → Overlap xs ys zs ws

under : {xs ys zs ws : List ℕ} {x z : ℕ} → x ≡ z → Overlap xs ys zs ws → Overlap (x ∷ xs) ys (z ∷ zs) ws
under e (longer b more f g) = longer b more (cc) g
under e (shorter more f g) = shorter more (cc) g

pub overlap : (xs ys zs ws : List ℕ) → xs ++ ys ≡ zs ++ ws → Overlap xs ys zs ws
overlap [] ys zs ws e = shorter zs refl e
overlap (x ∷ xs) ys [] ws e = longer x xs refl (sym e)
overlap (x ∷ xs) ys (z ∷ zs) ws e = under (cc) (overlap xs ys zs ws (cc))

pub line_ends_append : (s t : List ℕ) → line_ends (s ++ t) ≡ line_ends s + line_ends t
line_ends_append s t = sum_by-append _ s t
