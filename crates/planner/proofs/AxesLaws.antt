-- Laws of a set: its checks axis after axis, and its largest N.
use mathlib.Core.Bool.{true, false}
use mathlib.Core.Path.{◌≡◌, refl, ap}
use mathlib.Core.List.{List, [], ◌∷◌, ◌++◌, map}
use Prim.Native.Nat.{ℕ, zero, suc, ◌+◌, ◌≤◌, ◌<◌, max}
use native.Mathlib.Numerals.{add-one}
use native.Mathlib.Omega.{arith}
use lib.ListN.{length, take, get_or}
use lib.Seq.{take-suc}
use Rattle.planner.specs.Refusals.{Check, check, first_refusal, Each}
use Rattle.std.specs.Prelude.{Result, Ok, Err}
use Rattle.planner.specs.Outcome.{most_samples}
use Rattle.planner.specs.Axes.{at_rest, with_place, axis_checks, own_samples, common_samples, checks_from, axes_checks, axes_result}
use Rattle.planner.specs.AxesClaims.{AcceptedAxis}
use Rattle.planner.specs.declared.Move.{Move}
use Rattle.planner.proofs.Clash.{clash}
use Rattle.planner.proofs.EachLaws.{each_joined, each_parts, each_mapped, mapped_each}
use Rattle.planner.proofs.RefusalLaws.{Passes}
use Rattle.planner.proofs.RuleRefusals.{Has, refusal_has}
use Rattle.planner.proofs.AxisLaws.{both, passed_axis, axis_passes, own_most}

-- the checks of one axis, and those of the axes after it
module _ {B : Type 0} (place : ℕ) (ys : List (Check (ℕ × ℕ))) (o : Result B (ℕ × ℕ)) where
  pub placed_refused :
      {A : Type 0} (xs : List (Check ℕ)) (x : A) (n : ℕ) → first_refusal xs (Ok x) ≡ Err n
      → first_refusal (map (with_place place) xs ++ ys) o ≡ Err (n, place)
  unfolding first_refusal
  placed_refused [] x n h = absurd (clash cc)
  placed_refused (check m true ∷ xs) x n h = let same : m ≡ n = cc in ap (λ (n : ℕ). Err (n, place)) same
  placed_refused (check m false ∷ xs) x n h = placed_refused xs x n h

  pub placed_passed :
      (xs : List (Check ℕ)) → Each Passes xs → first_refusal (map (with_place place) xs ++ ys) o ≡ first_refusal ys o
  unfolding first_refusal
  placed_passed [] p = refl
  placed_passed (check m test ∷ xs) p = rw p.0 (placed_passed xs p.1)

-- the checks of accepted axes pass, and the other way round
placed_passes : (place : ℕ) (x : Check ℕ) → Passes x → Passes (with_place place x)
placed_passes place (check n t) p = p

passes_placed : (place : ℕ) (x : Check ℕ) → Passes (with_place place x) → Passes x
passes_placed place (check n t) p = p

pub axes_pass : (place : ℕ) (ms : List Move) → Each AcceptedAxis ms → Each Passes (checks_from place ms)
unfolding checks_from
axes_pass place [] h = tt
axes_pass place (m ∷ ms) h =
    each_joined Passes (map (with_place place) (axis_checks m)) _
    (each_mapped (with_place place) Passes Passes (placed_passes place) (axis_checks m) (axis_passes m h.0))
    (axes_pass (suc place) ms h.1)

pub passed_axes : (place : ℕ) (ms : List Move) → Each Passes (checks_from place ms) → Each AcceptedAxis ms
unfolding checks_from
passed_axes place [] h = tt
passed_axes place (m ∷ ms) h =
    let p = each_parts Passes (map (with_place place) (axis_checks m)) _ h in
    (passed_axis m (mapped_each (with_place place) Passes Passes (passes_placed place) (axis_checks m) p.0), passed_axes (suc place) ms p.1)

-- the largest N
common_joined : (ms : List Move) (m : Move) → common_samples (ms ++ (m ∷ [])) ≡ max (common_samples ms) (own_samples m)
unfolding common_samples
common_joined [] m = omega arith
common_joined (l ∷ ms) m = omega (arith, common_joined ms m)

pub common_next : (ms : List Move) (d : Move) (i : ℕ) → i < length ms
    → common_samples (take (i + 1) ms) ≡ max (common_samples (take i ms)) (own_samples (get_or ms i d))
common_next ms d i l = rw (add-one i, take-suc ms i d l) (common_joined (take i ms) (get_or ms i d))

pub own_within : (ms : List Move) (i : ℕ) (d : Move) → i < length ms → own_samples (get_or ms i d) ≤ common_samples ms
unfolding common_samples
own_within [] i d l = absurd (omega arith)
own_within (m ∷ ms) zero d l = omega arith
own_within (m ∷ ms) (suc i) d l = omega (arith, own_within ms i d (omega arith))

pub common_most : (ms : List Move) → Each AcceptedAxis ms → common_samples ms ≤ most_samples
unfolding common_samples
common_most [] h = omega arith
common_most (m ∷ ms) h = omega (arith, own_most m h.0, common_most ms h.1)

-- no refusal of a set has the number 0
abbrev NumberFromOne : ℕ × ℕ → Type 0
NumberFromOne x = 1 ≤ x.0

axis_numbers : (m : Move) → Each (Has (λ (n : ℕ). 1 ≤ n)) (axis_checks m)
axis_numbers m = both (Each (Has (λ (n : ℕ). 1 ≤ n))) (at_rest m) (omega arith) (omega arith)

placed_number : (place : ℕ) (x : Check ℕ) → Has (λ (n : ℕ). 1 ≤ n) x → Has NumberFromOne (with_place place x)
placed_number place (check n t) p = p

from_numbers : (place : ℕ) (ms : List Move) → Each (Has NumberFromOne) (checks_from place ms)
unfolding checks_from
from_numbers place [] = tt
from_numbers place (m ∷ ms) =
    each_joined (Has NumberFromOne) (map (with_place place) (axis_checks m)) _
    (each_mapped (with_place place) (Has (λ (n : ℕ). 1 ≤ n)) (Has NumberFromOne) (placed_number place) (axis_checks m) (axis_numbers m))
    (from_numbers (suc place) ms)

pub refused_from_one : (count : ℕ) (moves : List Move) (x : ℕ × ℕ) → axes_result count moves ≡ Err x → 1 ≤ x.0
unfolding axes_result
refused_from_one count moves =
    refusal_has NumberFromOne (axes_checks count moves) _ (omega arith, (omega arith, from_numbers 1 (take count moves)))
