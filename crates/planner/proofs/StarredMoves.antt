-- The starred moves of document 01, all in one theorem, computed from the rules themselves; and hence that those with a plan are accepted.
use mathlib.Core.List.{List, [], ◌∷◌, map}
use mathlib.Core.Path.{◌≡◌, refl}
use Prim.Native.Nat.{ℕ, ◌*◌}
use native.Mathlib.Omega.{arith}
use lib.IntN.{pos}
use Rattle.planner.specs.Quantities.{distance, units_per_count as G}
use Rattle.planner.specs.Least.{first_from, least}
use Rattle.planner.specs.Intervals.{interval_a, interval_b, interval_c, interval_e, a, J₁, b, A₁, c, V₁, e}
use Rattle.planner.specs.Outcome.{intervals_of, samples_of, outcome_of}
use Rattle.planner.specs.Refusals.{Each, first_refusal}
use Rattle.std.specs.Prelude.{Result, Ok, Err}
use Rattle.planner.specs.Claims.{Accepted, IsPlanned}
use Rattle.planner.specs.Third.{third_interval_b, third_intervals_of, third_samples_of}
use Rattle.planner.specs.ThirdClaims.{ThirdAccepted}
use Rattle.planner.specs.Starred.{Columns, refusal, columns, shown, starred, StarredClaim}
use Rattle.planner.specs.declared.Move.{Move}
use Rattle.planner.specs.declared.Plan.{Plan}
use Rattle.planner.proofs.Clash.{clash}
use Rattle.planner.proofs.Acceptance.{rule_accepted, accepted_figures}

pub starred_moves : StarredClaim
unfolding starred outcome_of first_refusal samples_of intervals_of distance a J₁ b A₁ c V₁ e interval_a interval_b interval_c interval_e least first_from
starred_moves = refl

-- a row with columns, and none with a refusal
abbrev HasPlan : Columns → Type 0
HasPlan (refusal number) = ⊥
HasPlan (columns p q r s N D short) = Unit {0}

row_planned : (o : Result Plan ℕ) (x : Columns) → shown o ≡ x → HasPlan x → IsPlanned o
row_planned o (refusal number) h k = absurd k
row_planned (Err n) (columns p q r s N D short) h k = absurd (clash cc)
row_planned (Ok x) (columns p q r s N D short) h k = tt

-- what two maps have in common, row by row
each_row :
    {A B : Type 0} (f g : A → B) (xs : List A) → map f xs ≡ map g xs → Each (λ x. f x ≡ g x) xs
each_row f g [] h = tt
each_row f g (x ∷ xs) h = (cc, each_row f g xs (cc))

row_accepted : (x : Move × Columns) → shown (outcome_of x.0) ≡ x.1 → HasPlan x.1 → Accepted x.0
row_accepted x h k = (rule_accepted x.0).0 (row_planned (outcome_of x.0) x.1 h k)

rows_accepted :
    (xs : List (Move × Columns)) → Each (λ x. shown (outcome_of x.0) ≡ x.1) xs → Each (λ x. HasPlan x.1 → Accepted x.0) xs
rows_accepted [] h = tt
rows_accepted (x ∷ xs) h = (row_accepted x h.0, rows_accepted xs h.1)

pub starred_accepted : Each (λ (x : Move × Columns). HasPlan x.1 → Accepted x.0) starred
starred_accepted =
    rows_accepted starred
    (each_row (λ (x : Move × Columns). shown (outcome_of x.0)) (λ (x : Move × Columns). x.1) starred starred_moves)

-- the moves of the first two rows, of 8 and 12 samples
abbrev pub first_starred : Move
first_starred = record { displacement = pos 8; velocity = 2 * G; acceleration = G; jerk = G; snap = G; start = pos 0 }

pub first_accepted : Accepted first_starred
unfolding starred
first_accepted = starred_accepted.0 tt

-- in the third order too: its intervals are 1, 2 and 4
pub first_third_accepted : ThirdAccepted first_starred
unfolding third_samples_of third_intervals_of third_interval_b c e A₁ V₁ interval_c interval_e least first_from distance
first_third_accepted = record { is_in_range = accepted_figures first_starred first_accepted; short_enough = omega arith }

abbrev pub second_starred : Move
second_starred = record { displacement = pos 8; velocity = G; acceleration = G; jerk = G; snap = G; start = pos 0 }

pub second_accepted : Accepted second_starred
unfolding starred
second_accepted = starred_accepted.1.0 tt
