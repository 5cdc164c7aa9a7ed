-- What the two orders put in a table: the stretches of a plan and its start, the step of each, and what an entry comes to.
use Rattle.std.specs.Prelude.{ℕ, suc, ◌≡◌, ℤ, pos, neg_ℤ, ◌+ℤ◌, ◌<◌, min, List, Result, Ok, Err}
use Rattle.std.specs.Int.{w64}
use Rattle.std.proofs.Common.{SFits}
use Rattle.planner.specs.Quantities.{along}
use Rattle.planner.specs.Refusals.{Each, first_refusal}
use Rattle.planner.specs.Outcome.{intervals_in}
use Rattle.planner.specs.Third.{third_intervals_in}
use Rattle.planner.specs.declared.Move.{Move}
use Rattle.planner.specs.declared.Plan.{Plan}
use Rattle.planner.specs.declared.ThirdPlan.{ThirdPlan}
use Rattle.profile.specs.Profile as profile
use Rattle.planner.proofs.RefusalLaws.{Passes}
use Rattle.motion.specs.Sampling.{Values, Motion}
use Rattle.motion.specs.declared.state.State.{State}
use Rattle.motion.specs.declared.sums.Stretch.{Stretch}
use Rattle.motion.specs.Inner.Steps.{stepped, StepFits, Sums, with_jerk, summed}
use Rattle.motion.specs.Inner.SegmentLists.{with_trailing, fourth_segments, third_segments}
use Rattle.motion.specs.Inner.Stretches.{leveled}

-- The pair of a position and the next one fits.
abbrev pub PairFits : (position velocity : ℤ) → Type 0
PairFits position velocity = SFits w64 (position +ℤ velocity +ℤ position)

abbrev pub fourth_step : (snap : ℤ) → State → State
fourth_step x s = stepped s x

abbrev pub FourthFits : (snap : ℤ) → State → Type 0
FourthFits x s = StepFits s x × PairFits s.position s.velocity

abbrev pub third_step : (jerk : ℤ) → Sums → Sums
third_step x s = summed s x

abbrev pub ThirdFits : (jerk : ℤ) → Sums → Type 0
ThirdFits x s = StepFits (with_jerk s x) (pos 0) × PairFits s.position s.velocity

-- The segments with D in the direction of X.
abbrev pub directed_stretches : (X : ℤ) (D : ℕ) → List profile.Segment → List Stretch
directed_stretches X D xs = leveled xs (along X (pos D)) (neg_ℤ (along X (pos D)))

abbrev pub fourth_stretches : (trailing : ℕ) → Move → Plan → List Stretch
fourth_stretches trailing m x = directed_stretches m.displacement x.snap (with_trailing (fourth_segments (intervals_in x)) trailing)

abbrev pub third_stretches : (trailing : ℕ) → Move → ThirdPlan → List Stretch
third_stretches trailing m x =
    directed_stretches m.displacement x.jerk (with_trailing (third_segments (third_intervals_in x)) trailing)

-- From this start, the sums step from each sample to the next along these levels, in range, and their rows are p.
pub record RunsAlong
    {S : Type 0} (row : S → ℤ) (can : ℤ → S → Type 0) (stepped : ℤ → S → S) (level : ℕ → ℤ) (start : S) (count : ℕ) (p : ℕ → ℤ)
    : Type 0 where
  pub at : ℕ → S
  pub first : at 0 ≡ start
  pub next : (k : ℕ) → stepped (level k) (at k) ≡ at (suc k)
  pub fits : (k : ℕ) → k < count → can (level k) (at k)
  pub rows_are : (k : ℕ) → row (at k) ≡ p k

-- The positions begin at no distance, and after the last sample they stay.
pub record Rests (n : ℕ) (v : ℕ → Values) : Type 0 where
  pub begins : (v 0).position ≡ pos 0
  pub holds : (k : ℕ) → (v (min k n)).position ≡ (v k).position

-- A plan with n samples and these values, as the rules of the motion x have it.
pub record PlannedAs (x : Motion) (n : ℕ) (v : ℕ → Values) : Type 0 where
  pub pass : Each Passes x.plan_checks
  pub samples_are : n ≡ x.samples
  pub values_are : (k : ℕ) → v k ≡ x.values k

-- The refusal of the rules of the motion x, where a plan is asked for.
pub record RefusedAs (P : Type 0) (x : Motion) (n : ℕ) : Type 0 where
  pub plan : P
  pub is : Err n ≡ first_refusal x.plan_checks (Ok plan)

-- What an order's rule says of a move is what the rules of its motion say.
abbrev pub AsRuled : {P : Type 0} (x : Motion) (samples : P → ℕ) (values : P → ℕ → Values) → Result P ℕ → Type 0
AsRuled {P} x samples values (Err n) = RefusedAs P x n
AsRuled x samples values (Ok plan) = PlannedAs x (samples plan) (values plan)
