-- A plan whose D is still to be found: all of W is short. And what the private functions answer of it.
use Rattle.std.specs.Prelude.{Bool, List, [], ◌∷◌, ◌++◌, ◌≡◌, ℕ, ◌≤◌, ltb, ℤ, Result, Ok, Err}
use Rattle.planner.specs.Quantities.{distance}
use Rattle.planner.specs.Intervals.{Intervals, N, intervals_by}
use Rattle.planner.specs.Refusals.{Check, check, first_refusal}
use Rattle.planner.specs.Outcome.{most_samples, out_of_range, displacement_checks, bound_checks_to_jerk, checks, distance_of, intervals_of, intervals_in, number}
use Rattle.planner.specs.Inner.Facts.{Ordered}
use Rattle.planner.specs.declared.Move.{Move}
use Rattle.planner.specs.declared.Plan.{Plan}
use Rattle.planner.specs.declared.Refusal.{Refusal}
use Rattle.planner.specs.declared.figures.Figures.{Figures}

abbrev pub undivided : (W : ℕ) (t : Intervals) → Plan
undivided W t = record { a = t.a; b = t.b; c = t.c; e = t.e; snap = 0; shortfall = W }

-- No product of its intervals leaves 64 bits.
pub record Divisible (x : Plan) : Type 0 where
  pub ordered : Ordered (intervals_in x)
  pub samples : N (intervals_in x) ≤ most_samples

unfoldable pub undivided_result : Move → Result Plan ℕ
undivided_result m = first_refusal (checks m) (Ok (undivided (distance_of m) (intervals_of m)))

-- What is left of it where refusals 1 to 5 do not apply; `outside` tells whether 14 does.
unfoldable pub undivided_within : (W V₀ A₀ J₀ S₀ : ℕ) (outside : Bool) → Result Plan ℕ
undivided_within W V₀ A₀ J₀ S₀ outside =
    let t = intervals_by W V₀ A₀ J₀ S₀ in
    first_refusal (check 6 (out_of_range S₀) ∷ check 14 outside ∷ check 7 (ltb most_samples (N t)) ∷ []) (Ok (undivided W t))

-- What the checks come to, with nothing else to give.
unfoldable pub checked : List (Check ℕ) → Result (Unit {0}) ℕ
checked xs = first_refusal xs (Ok tt)

-- The figures that both orders read, and the distance where they are in range: refusals 1 to 5.
abbrev pub figure_checks : (X : ℤ) (V₀ A₀ J₀ : ℕ) → List (Check ℕ)
figure_checks X V₀ A₀ J₀ = displacement_checks X ++ bound_checks_to_jerk V₀ A₀ J₀

unfoldable pub figures_result : (X : ℤ) (V₀ A₀ J₀ : ℕ) → Result ℕ ℕ
figures_result X V₀ A₀ J₀ = first_refusal (figure_checks X V₀ A₀ J₀) (Ok (distance X))

-- The figures are those of the move.
pub record FiguresOf (m : Move) (f : Figures) : Type 0 where
  pub distance_is : Ok f.distance ≡ figures_result m.displacement m.velocity m.acceleration m.jerk
  pub velocity_is : f.velocity ≡ m.velocity
  pub acceleration_is : f.acceleration ≡ m.acceleration
  pub jerk_is : f.jerk ≡ m.jerk

abbrev pub Measures : Move → Result Figures Refusal → Type 0
Measures m (Ok f) = FiguresOf m f
Measures m (Err x) = Err (number x) ≡ figures_result m.displacement m.velocity m.acceleration m.jerk
