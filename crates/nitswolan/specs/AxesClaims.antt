-- What the promises of the C entries for a set of axes come to for their caller, over any answers that meet them. C sends eight moves.
use Rattle.std.specs.Prelude.{◌↔◌, ◌≡◌, ℕ, ◌≤◌, ◌<◌, length, Ok}
use Rattle.planner.specs.Axes.{most_axes, common_samples, counted}
use Rattle.planner.specs.AxesClaims.{AcceptedAxes, Reason}
use Rattle.motion.specs.AxesClaims.{Demand3Axes}
use Rattle.nitswolan.specs.Fields.{Answers, PlansSet, SamplesSet, axes_plan_fields, axes_sample_fields}
use Rattle.nitswolan.specs.declared.axes.Axes.{Axes}
use Rattle.nitswolan.specs.declared.axes.AxesPlanResult.{AxesPlanResult}
use Rattle.nitswolan.specs.declared.axes.AxesSampleResult.{AxesSampleResult}

module _ (axes : Axes) where
  abbrev Accepted : Type 0
  Accepted = AcceptedAxes axes.count axes.moves

  -- Demand 2: the plan's refusal is 0 if and only if the set is accepted.
  abbrev pub AxesAcceptedClaim : Type 0
  AxesAcceptedClaim =
      length axes.moves ≡ most_axes
      → (plan : AxesPlanResult) → Answers axes_plan_fields (PlansSet axes) plan → (plan.refusal ≡ 0) ↔ Accepted

  -- Demand 1: each promise leaves one answer, in every field and place.
  pub record OneAxesStructClaim : Type 0 where
    pub plan : (x y : AxesPlanResult) → Answers axes_plan_fields (PlansSet axes) x → Answers axes_plan_fields (PlansSet axes) y → x ≡ y
    pub sample :
        (k : ℕ) (x y : AxesSampleResult)
        → Answers axes_sample_fields (SamplesSet axes k) x → Answers axes_sample_fields (SamplesSet axes k) y → x ≡ y

  -- Of an accepted set: a sample is refused exactly where k is above the common N, with 9 and place 0.
  pub record AxesSampleRefusals (k : ℕ) (r : AxesSampleResult) : Type 0 where
    pub within : k ≤ common_samples (counted axes.count axes.moves) → r.refusal ≡ 0
    pub past : common_samples (counted axes.count axes.moves) < k → (r.refusal ≡ 9) × (r.place ≡ 0)

  abbrev pub AxesSampleRefusalsClaim : Type 0
  AxesSampleRefusalsClaim =
      length axes.moves ≡ most_axes → Accepted
      → (k : ℕ) (r : AxesSampleResult) → Answers axes_sample_fields (SamplesSet axes k) r → AxesSampleRefusals k r

  -- The refusal and the place of a set's plan are n and p exactly where there is this reason for it.
  abbrev pub CallerAxesRefusedClaim : Type 0
  CallerAxesRefusedClaim =
      length axes.moves ≡ most_axes
      → (plan : AxesPlanResult) → Answers axes_plan_fields (PlansSet axes) plan
      → (n p : ℕ) → 0 < n → ((plan.refusal ≡ n) × (plan.place ≡ p)) ↔ Reason axes.count axes.moves n p

  -- A caller that sees no refusal of the plan gets none up to its samples, and demand 3 of every axis: of the plans and values that stand in
  -- the structs, whose refusals and places are 0.
  pub record CallerAxesFacts (plan : AxesPlanResult) (sample : ℕ → AxesSampleResult) : Type 0 where
    pub planned : plan ≡ axes_plan_fields (Ok plan.samples, plan.plans)
    pub sampled : (k : ℕ) → k ≤ plan.samples → sample k ≡ axes_sample_fields (Ok tt, (sample k).values)
    pub demand_3 : Demand3Axes axes.count axes.moves (Ok plan.samples) plan.plans (λ k. Ok tt) (λ k. (sample k).values)

  abbrev pub CallerAxesClaim : Type 0
  CallerAxesClaim =
      length axes.moves ≡ most_axes
      → (plan : AxesPlanResult) → Answers axes_plan_fields (PlansSet axes) plan → plan.refusal ≡ 0
      → (sample : ℕ → AxesSampleResult)
      → ((k : ℕ) → k ≤ plan.samples → Answers axes_sample_fields (SamplesSet axes k) (sample k))
      → CallerAxesFacts plan sample
