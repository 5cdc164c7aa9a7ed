-- A step from one sample to the next, and the state that steps from rest reach, from 0 or from another position.
use Rattle.std.specs.Prelude.{ℕ, zero, suc, ℤ, pos, ◌+ℤ◌}
use Rattle.std.specs.Int.{w64}
use Rattle.std.proofs.Common.{SFits}
use Rattle.profile.specs.Inner.Repeated.{sums}
use Rattle.motion.specs.declared.state.State.{State}
use Rattle.motion.specs.declared.state.ThirdState.{ThirdState}

abbrev pub stepped : State → ℤ → State
stepped s x =
    record {
      jerk = s.jerk +ℤ x;
      acceleration = s.acceleration +ℤ s.jerk;
      velocity = s.velocity +ℤ s.acceleration;
      position = s.position +ℤ s.velocity;
    }

abbrev pub rest_at : (position : ℤ) → State
rest_at position = record { jerk = pos 0; acceleration = pos 0; velocity = pos 0; position = position }

-- No sum of a step leaves its range.
pub record StepFits (s : State) (x : ℤ) : Type 0 where
  pub jerk : SFits w64 (s.jerk +ℤ x)
  pub acceleration : SFits w64 (s.acceleration +ℤ s.jerk)
  pub velocity : SFits w64 (s.velocity +ℤ s.acceleration)
  pub position : SFits w64 (s.position +ℤ s.velocity)

-- The sum of f from this first value, in place of 0.
unfoldable pub sum_from : (first : ℤ) → (ℕ → ℤ) → ℕ → ℤ
sum_from first f zero = first
sum_from first f (suc k) = sum_from first f k +ℤ f k

-- The state at sample k where the snap is f, and the same from rest at this position.
abbrev pub state_at : (ℕ → ℤ) → ℕ → State
state_at f k =
    record { jerk = sums 1 f k; acceleration = sums 2 f k; velocity = sums 3 f k; position = sums 4 f k }

abbrev pub state_from : (origin : ℤ) → (ℕ → ℤ) → ℕ → State
state_from origin f k =
    record { jerk = sums 1 f k; acceleration = sums 2 f k; velocity = sums 3 f k; position = sum_from origin (sums 3 f) k }

-- The sums without the jerk, which the third order sets and does not sum.
abbrev pub Sums : Type 0
Sums = ThirdState

abbrev pub sums_in : State → Sums
sums_in s = record { acceleration = s.acceleration; velocity = s.velocity; position = s.position }

-- The state with this jerk, and the sums after a step from it.
abbrev pub with_jerk : Sums → (jerk : ℤ) → State
with_jerk s jerk =
    record { jerk = jerk; acceleration = s.acceleration; velocity = s.velocity; position = s.position }

abbrev pub summed : Sums → (jerk : ℤ) → Sums
summed s jerk = sums_in (stepped (with_jerk s jerk) (pos 0))

-- The sums at sample k where the jerk is f, and the same from rest at this position.
abbrev pub sums_at : (ℕ → ℤ) → ℕ → Sums
sums_at f k = record { acceleration = sums 1 f k; velocity = sums 2 f k; position = sums 3 f k }

abbrev pub sums_from : (origin : ℤ) → (ℕ → ℤ) → ℕ → Sums
sums_from origin f k = record { acceleration = sums 1 f k; velocity = sums 2 f k; position = sum_from origin (sums 2 f) k }

abbrev pub third_state_from : (origin : ℤ) → (ℕ → ℤ) → ℕ → State
third_state_from origin f k = with_jerk (sums_from origin f k) (f k)
