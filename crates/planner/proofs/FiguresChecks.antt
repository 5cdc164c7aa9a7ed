-- The checks of the figures that both orders read: what they come to, as far as they have been made, and what is left of an outcome after
-- them.
use borrow.Author.Tests.{ne_eqb, le-ltb, ltb-false, eqb-false}
use mathlib.Core.Path.{◌≡◌, sym}
use mathlib.Core.List.{List, ◌++◌}
use Prim.Native.Nat.{ℕ, ◌≤◌, ◌^◌}
use native.Mathlib.Nat.{mul-le-mul_left, pos_of_ne-zero}
use native.Mathlib.Omega.{arith}
use lib.IntN.{ℤ, nat_abs}
use Rattle.planner.specs.Quantities.{distance, units_per_count}
use Rattle.planner.specs.Refusals.{Each, Check, first_refusal}
use Rattle.std.specs.Prelude.{Result, Ok, Err}
use Rattle.planner.specs.Outcome.{most_counts, distance_of}
use Rattle.planner.specs.Claims.{EndsInSpan}
use Rattle.planner.specs.ThirdClaims.{ThirdInRange}
use Rattle.planner.specs.Inner.Undivided.{figure_checks, figures_result}
use Rattle.planner.specs.declared.Move.{Move}
use Rattle.planner.proofs.RefusalLaws.{Passes, passed_same, refused_on, passed_on, bound_in_range, bound_passes}

pub near_distance : (X : ℤ) → nat_abs X ≤ most_counts → distance X ≤ 2 ^ 60
unfolding distance
near_distance X h = mul-le-mul_left units_per_count h

module _ (m : Move) where
  abbrev size : ℕ
  size = nat_abs m.displacement

  abbrev figure_checks_of : List (Check ℕ)
  figure_checks_of = figure_checks m.displacement m.velocity m.acceleration m.jerk

  abbrev pub figures_of : Result ℕ ℕ
  figures_of = figures_result m.displacement m.velocity m.acceleration m.jerk

  pub figures_in_range : Each Passes figure_checks_of → EndsInSpan m → ThirdInRange m
  figures_in_range p ends =
      let bounds = p.1.1 in
      record {
        moves = pos_of_ne-zero (eqb-false size 0 p.0);
        near = ltb-false most_counts size p.1.0;
        velocity = bound_in_range _ bounds.0;
        acceleration = bound_in_range _ bounds.1.0;
        jerk = bound_in_range _ bounds.1.1.0;
        ends = ends;
      }

  pub figures_pass : ThirdInRange m → Each Passes figure_checks_of
  figures_pass h = (
    ne_eqb size 0 (λ q. omega (arith, h.moves)),
    (
      le-ltb most_counts size h.near,
      (bound_passes _ h.velocity, (bound_passes _ h.acceleration, (bound_passes _ h.jerk, tt))),
    ),
  )

  -- what is left after them: the checks `last`
  module _ {A : Type 0} (last : List (Check ℕ)) (o : Result A ℕ) where
    pub figures_refused : (n : ℕ) → Err n ≡ figures_of → Err n ≡ first_refusal (figure_checks_of ++ last) o
    unfolding figures_result
    figures_refused n h = refused_on figure_checks_of last _ o n h

    pub figures_passed :
        {W : ℕ} → Ok W ≡ figures_of → first_refusal last o ≡ first_refusal (figure_checks_of ++ last) o
    unfolding figures_result
    figures_passed h = passed_on figure_checks_of last _ o _ h

  module _ {W : ℕ} (h : Ok W ≡ figures_of) where
    pub measured : W ≡ distance_of m
    unfolding figures_result
    measured = sym (passed_same figure_checks_of _ _ (sym h))
