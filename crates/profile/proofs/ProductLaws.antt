-- The product of the inner intervals is at most the product of all.
use mathlib.Core.Path.{subst}
use mathlib.Core.List.{List, [], ◌∷◌, ◌++◌}
use Prim.Native.Nat.{ℕ, ◌*◌, ◌≤◌}
use native.Mathlib.Nat.{le_refl, le_trans, mul-one, mul-le-mul_left}
use native.Mathlib.Omega.{arith}
use Rattle.profile.specs.Inner.Widths.{span, product, Spread}

span_least : (a : ℕ) (ws : List ℕ) → a ≤ span a ws
unfolding span
span_least a [] = le_refl a
span_least a (w ∷ ws) = omega (arith, span_least a ws)

pub product_grows : (a : ℕ) (outer inner : List ℕ) → 1 ≤ a → Spread a (outer ++ inner) → product a inner ≤ product a (outer ++ inner)
unfolding product Spread
product_grows a [] inner one s = le_refl (product a inner)
product_grows a (w ∷ outer) inner one s =
    let m = product a (outer ++ inner) in
    let wide : 1 ≤ w = le_trans one (le_trans (span_least a (outer ++ inner)) s.0) in
    le_trans (product_grows a outer inner one s.1) (subst (λ (n : ℕ). n ≤ m * w) (mul-one m) (mul-le-mul_left m wide))
