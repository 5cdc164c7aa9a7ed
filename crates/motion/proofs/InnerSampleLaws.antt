-- The snap of a profile over widths, from inside its outermost interval.
use mathlib.Core.Bool.{Bool, cond}
use mathlib.Core.List.{[]}
use mathlib.Core.Path.{◌≡◌, ap}
use Prim.Native.Nat.{ℕ, ◌-◌, ◌≤◌, ◌<◌}
use borrow.Author.Tests.{lt-ltb, le-ltb}
use lib.IntN.{ℤ, pos}
use Rattle.profile.specs.Inner.Widths.{switched_by}
use Rattle.motion.specs.Inner.InnerSamples.{SameValue}

pub before : (w : ℕ) (u v : ℤ) (k : ℕ) → k < w → SameValue w u v k u v k
unfolding switched_by
before w u v k h =
    record { same = λ a ws. ap (λ (t : Bool). cond t (switched_by a ws u v k) (switched_by a ws v u (k - w))) (lt-ltb k w h) }

pub past : (w : ℕ) (u v : ℤ) (k : ℕ) → w ≤ k → SameValue w u v k v u (k - w)
unfolding switched_by
past w u v k h =
    record { same = λ a ws. ap (λ (t : Bool). cond t (switched_by a ws u v k) (switched_by a ws v u (k - w))) (le-ltb k w h) }

-- in the innermost interval, and after it
pub inside : (a : ℕ) (u v : ℤ) (k : ℕ) → k < a → switched_by a [] u v k ≡ u
unfolding switched_by
inside a u v k h = ap (λ (t : Bool). cond t u (pos 0)) (lt-ltb k a h)

pub outside : (a : ℕ) (u v : ℤ) (k : ℕ) → a ≤ k → switched_by a [] u v k ≡ pos 0
unfolding switched_by
outside a u v k h = ap (λ (t : Bool). cond t u (pos 0)) (le-ltb k a h)
