-- A result is a refusal or what was given, and holds one of either.
use mathlib.Core.Path.{◌≡◌}
use Rattle.std.specs.Prelude.{Result, Ok, Err}
use Rattle.planner.proofs.Clash.{clash}

module _ {R A : Type 0} where
  pub refused_or_given : (n : R) (x : A) → ◌≡◌ {A = Result A R} (Err n) (Ok x) → ⊥
  refused_or_given n x h = clash cc

  pub same_refused : {m n : R} → ◌≡◌ {A = Result A R} (Err m) (Err n) → m ≡ n
  same_refused h = cc

  pub same_given : {x y : A} → ◌≡◌ {A = Result A R} (Ok x) (Ok y) → x ≡ y
  same_given h = cc
