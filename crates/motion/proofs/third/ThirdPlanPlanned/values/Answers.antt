-- `values` meets its contract: each sum is scaled from the product found for it. The answers cite all of them, so that one in another's
-- place fails where it is wrong.
use mathlib.Core.Path.{◌∙◌, subst, sym}
use Prim.Native.Nat.{◌≤◌, ◌^◌}
use lib.IntN.{ℤ, nat_abs, pos}
use mir.Syntax.{w64}
use mir.Facts.{to_z-of_z}
use Rattle.motion.specs.Sampling.{third_values_at}
use Rattle.motion.proofs.OneSample.{third_plan_scales, third_plan_jerk}
use Rattle.motion.proofs.ThirdStates.{third_distance_below}
use Rattle.motion.proofs.third.ThirdPlanPlanned.values.Goals as goal

pub scaled-acceleration-requires : goal.scaled-acceleration-requires
scaled-acceleration-requires c = search (third_plan_scales c.args.self.now c.requires.plan_in_range c.requires.k_bound c.levels-levels.ensures c.over_three-products.ensures)

pub scaled-velocity-requires : goal.scaled-velocity-requires
scaled-velocity-requires c = search (third_plan_scales c.args.self.now c.requires.plan_in_range c.requires.k_bound c.levels-levels.ensures c.over_three-products.ensures)

pub scaled-distance-requires : goal.scaled-distance-requires
scaled-distance-requires c = search (third_plan_scales c.args.self.now c.requires.plan_in_range c.requires.k_bound c.levels-levels.ensures c.over_three-products.ensures)

pub returns-clause-are : goal.returns-clause-are
unfolding third_values_at
returns-clause-are c =
    let all = third_plan_scales c.args.self.now c.requires.plan_in_range c.requires.k_bound c.levels-levels.ensures c.over_three-products.ensures in
    let switched = to_z-of_z {w = w64} {z = c.at-jerk.result} (record { sfits = c.at-jerk.type_inv }) ∙ c.at-jerk.ensures ∙ third_plan_jerk c.args.self.now c.requires.plan_in_range c.requires.k_bound c.levels-levels.ensures in
    λ i.
    record {
      snap = pos 0;
      jerk = switched i;
      acceleration = all.0.is _ c.scaled-acceleration.ensures i;
      velocity = all.1.is _ c.scaled-velocity.ensures i;
      position = all.2.is _ c.scaled-distance.ensures i;
    }

pub returns-clause-near : goal.returns-clause-near
returns-clause-near c =
    let all = third_plan_scales c.args.self.now c.requires.plan_in_range c.requires.k_bound c.levels-levels.ensures c.over_three-products.ensures in
    subst (λ (x : ℤ). nat_abs x ≤ 2 ^ 60) (sym (all.2.is _ c.scaled-distance.ensures))
    (third_distance_below c.args.m.now.displacement _ _ c.requires.plan_in_range c.args.k)
