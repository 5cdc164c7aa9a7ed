-- The axes that were looked at so far, and what the rest comes to.
use mathlib.Core.Path.{◌≡◌, refl, sym, ap, ◌∙◌}
use mathlib.Core.List.{List, [], ◌++◌, map}
use Prim.Native.Nat.{ℕ, suc, ◌+◌, ◌≤◌, ◌<◌, max}
use native.Mathlib.Numerals.{add-one}
use native.Mathlib.Omega.{arith}
use lib.ListN.{length, take, drop, get_or, set, drop_of_length-le}
use lib.Seq.{drop-cons, take_all}
use Rattle.planner.specs.Intervals.{N}
use Rattle.planner.specs.Refusals.{first_refusal}
use Rattle.std.specs.Prelude.{Result, Ok, Err}
use Rattle.planner.specs.Outcome.{intervals_in, number, outcome}
use Rattle.planner.specs.Axes.{most_axes, rest_plan, with_place, axis_checks, common_samples, checks_from}
use Rattle.planner.specs.Inner.AxisAnswers.{undivided_axis, axis_result, each_places, FindsEach}
use Rattle.planner.specs.declared.Move.{Move}
use Rattle.planner.specs.declared.Plan.{Plan}
use Rattle.planner.specs.declared.Refusal.{Refusal}
use Rattle.planner.specs.declared.AxesPlan.{AxesPlan}
use Rattle.planner.specs.declared.AxisRefusal.{AxisRefusal}
use Rattle.planner.proofs.RefusalLaws.{passed}
use Rattle.planner.proofs.AxisLaws.{axis_found, own_is}
use Rattle.planner.proofs.AxesLaws.{placed_refused, placed_passed, common_next}
use Rattle.planner.proofs.PaddedLaws.{padded_next}

pub record FoundSoFar (axes : List Move) (plans : List Plan) (samples i : ℕ) : Type 0 where
  pub checked : (o : Result ℕ (ℕ × ℕ)) → first_refusal (checks_from 1 axes) o ≡ first_refusal (checks_from (suc i) (drop i axes)) o
  pub placed : plans ≡ each_places (take i axes)
  pub largest : samples ≡ common_samples (take i axes)

pub found_none : (axes : List Move) → FoundSoFar axes (each_places []) 0 0
unfolding common_samples
found_none axes = record { checked = λ o. refl; placed = refl; largest = refl }

module _ {axes : List Move} {plans : List Plan} {samples i : ℕ}
    (f : FoundSoFar axes plans samples i) (d : Move) (within : i < length axes) where
  -- the checks of axis i stand first
  next_checks : (o : Result ℕ (ℕ × ℕ))
      → first_refusal (checks_from 1 axes) o
      ≡ first_refusal (map (with_place (suc i)) (axis_checks (get_or axes i d)) ++ checks_from (suc (suc i)) (drop (suc i) axes)) o
  unfolding checks_from
  next_checks o = f.checked o ∙ ap (λ (l : List Move). first_refusal (checks_from (suc i) l) o) (drop-cons axes i d within)

  pub found_next :
      (x : Plan) (n : ℕ)
      → Ok x ≡ axis_result (get_or axes i d)
      → n ≡ N (intervals_in x)
      → i < most_axes
      → FoundSoFar axes (set plans i x) (max samples n) (i + 1)
  unfolding axis_result
  found_next x n h q place =
      let m = get_or axes i d in
      let own : x ≡ undivided_axis m = axis_found m h in
      record {
        checked = λ o.
            rw (add-one i)
            (next_checks o ∙ placed_passed (suc i) _ o (axis_checks m) (passed (axis_checks m) _ _ (sym h)));
        placed =
            ap (λ (l : List Plan). set l i x) f.placed
            ∙ padded_next undivided_axis most_axes rest_plan axes d i within place own;
        largest =
            omega (arith, f.largest, common_next axes d i within, q ∙ ap (λ (x : Plan). N (intervals_in x)) own ∙ own_is m);
      }

  found_refused : (n : ℕ) (o : Result ℕ (ℕ × ℕ)) → Err n ≡ axis_result (get_or axes i d)
      → Err (n, i + 1) ≡ first_refusal (checks_from 1 axes) o
  unfolding axis_result
  found_refused n o h =
      rw (add-one i) (sym (next_checks o ∙ placed_refused (suc i) _ o (axis_checks (get_or axes i d)) _ n (sym h)))

  -- so the first axis that is refused refuses the set, with its place
  pub finds_refusal :
      {answer : Result Plan Refusal} {r : Result AxesPlan (AxisRefusal Refusal)}
      → outcome answer ≡ axis_result (get_or axes i d)
      → (x : Refusal) × (answer ≡ Err x) × (r ≡ Err (record { place = i + 1; refusal = x }))
      → FindsEach axes r
  finds_refusal h (x, is, r_is) =
      rw r_is (record { outcome_is = found_refused (number x) _ (ap outcome (sym is) ∙ h); placed = tt })

module _ {axes : List Move} {plans : List Plan} {samples i : ℕ} (f : FoundSoFar axes plans samples i) (all : length axes ≤ i) where
  pub found_all : Ok samples ≡ first_refusal (checks_from 1 axes) (Ok (common_samples axes))
  unfolding checks_from first_refusal
  found_all =
      ap Ok (f.largest ∙ ap common_samples (take_all i axes all))
      ∙ sym (f.checked _ ∙ ap (λ (l : List Move). first_refusal (checks_from (suc i) l) (Ok (common_samples axes)))
      (drop_of_length-le axes all))

  pub placed_all : plans ≡ each_places axes
  placed_all = f.placed ∙ ap each_places (take_all i axes all)
