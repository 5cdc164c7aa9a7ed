-- What the private function of a third-order plan answers.
use Rattle.std.specs.Prelude.{Bool, [], ◌∷◌, ℕ, ltb, Result, Ok}
use Rattle.planner.specs.Refusals.{check, first_refusal}
use Rattle.planner.specs.Outcome.{most_samples}
use Rattle.planner.specs.Third.{third_intervals_by, N₃, third_plan_of}
use Rattle.planner.specs.declared.ThirdPlan.{ThirdPlan}

-- What is left of the outcome where refusals 1 to 5 do not apply; `outside` tells whether 14 does.
unfoldable pub third_within : (W V₀ A₀ J₀ : ℕ) (outside : Bool) → Result ThirdPlan ℕ
third_within W V₀ A₀ J₀ outside =
    let t = third_intervals_by W V₀ A₀ J₀ in
    first_refusal (check 14 outside ∷ check 7 (ltb most_samples (N₃ t)) ∷ []) (Ok (third_plan_of W t))
