-- The promise of a set reads the counted moves alone.
use mathlib.Core.List.{List}
use mathlib.Core.Path.{◌≡◌, refl, ap, ◌∙◌}
use Prim.Native.Nat.{ℕ}
use lib.ListN.{take}
use Rattle.std.specs.Prelude.{Result, Ok, Err}
use Rattle.planner.specs.Axes.{rest_plan, axis_plan, common_samples, axes_result, axes_places}
use Rattle.planner.specs.AxesClaims.{CountedAloneClaim}
use Rattle.planner.specs.declared.Move.{Move}
use Rattle.planner.specs.declared.Plan.{Plan}

-- the places of a set, with a row for each axis at the common duration
abbrev pub places_for :
    (count : ℕ) (moves : List Move) → {O A : Type 0} (zeros : A) (row : ℕ → Move → A) → Result O (ℕ × ℕ) → List A
places_for count moves zeros row = axes_places count moves zeros (row (common_samples (take count moves)))

module _ (count : ℕ) (moves others : List Move) (q : take count moves ≡ take count others) where
  same_result : axes_result count moves ≡ axes_result count others
  unfolding axes_result
  same_result = rw q refl

  pub same_places_for :
      {O A : Type 0} (zeros : A) (row : ℕ → Move → A) (o : Result O (ℕ × ℕ))
      → places_for count moves zeros row o ≡ places_for count others zeros row o
  same_places_for zeros row (Err x) = refl
  same_places_for zeros row (Ok n) = rw q refl

pub counted_alone : (count : ℕ) (moves : List Move) → CountedAloneClaim count moves
counted_alone count moves others q o plans h =
    let same = same_result count moves others q in
    let row : ℕ → Move → Plan = λ n m. axis_plan m n in
    record {
      outcome_is = h.outcome_is ∙ same;
      plans_are = h.plans_are ∙ ap (places_for count moves rest_plan row) same
          ∙ same_places_for count moves others q rest_plan row (axes_result count others);
    }
