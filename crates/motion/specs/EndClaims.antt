-- The last sample of a move, in either order or as an axis of a set: its remainder (`end_remainder`); and document 02, 7: its count
-- (`end_count`), and the next move that starts there (`hand_over`).
use Rattle.std.specs.Prelude.{List, ◌≡◌, ℕ, ◌<◌, ◌^◌, ℤ, pos, neg_ℤ, nat_abs, ◌+ℤ◌, length, get_or, Ok}
use Rattle.planner.specs.Quantities.{along}
use Rattle.planner.specs.Outcome.{samples_of, Plans}
use Rattle.planner.specs.Claims.{InSpan}
use Rattle.planner.specs.Third.{third_samples_of, PlansThird}
use Rattle.planner.specs.Axes.{most_axes, rest_plan, PlansAxes}
use Rattle.planner.specs.AxesClaims.{axis_at}
use Rattle.planner.specs.declared.Move.{Move}
use Rattle.planner.specs.declared.Plan.{Plan}
use Rattle.planner.specs.declared.ThirdPlan.{ThirdPlan}
use Rattle.motion.specs.Sampling.{fourth_order, third_order, Samples}
use Rattle.motion.specs.Axes.{rest_sample, SamplesAxes}
use Rattle.motion.specs.StartClaims.{SampledAt}
use Rattle.motion.specs.declared.Sample.{Sample}

-- The last sample of a move, with the shortfall of its plan.
pub data EndsAt : Move → (shortfall : ℕ) → (last : Sample) → Type 0 where
  fourth_ends :
      (m : Move) (plan : Plan) → Plans m (Ok plan)
      → (last : Sample) → Samples (fourth_order m) (samples_of m) (Ok last) → EndsAt m plan.shortfall last
  third_ends :
      (m : Move) (plan : ThirdPlan) → PlansThird m (Ok plan)
      → (last : Sample) → Samples (third_order m) (third_samples_of m) (Ok last) → EndsAt m plan.shortfall last
  axis_ends :
      (count : ℕ) (moves : List Move) → length moves ≡ most_axes
      → (N : ℕ) (plans : List Plan) → PlansAxes count moves (Ok N) plans
      → (samples : List Sample) → SamplesAxes count moves N (Ok tt) samples
      → (i : ℕ) → i < count → EndsAt (axis_at moves i) (get_or plans i rest_plan).shortfall (get_or samples i (rest_sample (pos 0)))

-- No rule asks it, but a bench relies on it: at the last sample the remainder is minus the shortfall for a positive X, and plus the shortfall
-- for a negative one. So it is below half a count in size, as the half-count rule has it.
pub record EndRemainder (X : ℤ) (shortfall : ℕ) (last : Sample) : Type 0 where
  pub remainder_is : last.remainder ≡ neg_ℤ (along X (pos shortfall))
  pub below_half : nat_abs last.remainder < 2 ^ 39

abbrev pub EndRemainderClaim : Type 0
EndRemainderClaim = (m : Move) (shortfall : ℕ) (last : Sample) → EndsAt m shortfall last → EndRemainder m.displacement shortfall last

-- It has the count asked for, start plus X, which is a start in the span.
pub record EndCount (m : Move) (last : Sample) : Type 0 where
  pub count_is : last.count ≡ m.start +ℤ m.displacement
  pub in_span : InSpan last.count

abbrev pub EndCountClaim : Type 0
EndCountClaim = (m : Move) (shortfall : ℕ) (last : Sample) → EndsAt m shortfall last → EndCount m last

-- "Handing the bottle from rail to rail": where the next move starts at the count where this one ended, the counts join, and so do the
-- positions up to the shortfall.
pub record HandOver (X : ℤ) (shortfall : ℕ) (last first : Sample) : Type 0 where
  pub counts_join : first.count ≡ last.count
  pub positions_join : first.position ≡ last.position +ℤ along X (pos shortfall)

abbrev pub HandOverClaim : Type 0
HandOverClaim =
    (m next : Move) (shortfall : ℕ) (last first : Sample) → EndsAt m shortfall last → SampledAt 0 next first
    → next.start ≡ last.count
    → HandOver m.displacement shortfall last first
