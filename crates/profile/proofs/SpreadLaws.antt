-- The outer widths spread over the span of the inner ones.
use mathlib.Core.Path.{◌≡◌, refl, sym, ap}
use mathlib.Core.List.{List, [], ◌∷◌, ◌++◌}
use Prim.Native.Nat.{ℕ, ◌+◌}
use native.Mathlib.Nat.{le_of_eq, le_trans}
use Rattle.profile.specs.Inner.Widths.{span, Spread}

pub span_append : (a : ℕ) (outer inner : List ℕ) → span a (outer ++ inner) ≡ span (span a inner) outer
unfolding span
span_append a [] inner = refl
span_append a (w ∷ outer) inner = ap (λ (n : ℕ). n + w) (span_append a outer inner)

pub spread_outer : (a : ℕ) (outer inner : List ℕ) → Spread a (outer ++ inner) → Spread (span a inner) outer
unfolding Spread
spread_outer a [] inner s = tt
spread_outer a (w ∷ outer) inner s = (le_trans (le_of_eq (sym (span_append a outer inner))) s.0, spread_outer a outer inner s.1)
