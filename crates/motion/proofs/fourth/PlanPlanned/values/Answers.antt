-- `values` meets its contract: each sum is scaled from the product found for it. The answers cite all of them, so that one in another's
-- place fails where it is wrong.
use mathlib.Core.Path.{◌∙◌, subst, sym}
use Prim.Native.Nat.{◌≤◌, ◌^◌}
use lib.IntN.{ℤ, nat_abs}
use mir.Syntax.{w64}
use mir.Facts.{to_z-of_z}
use Rattle.motion.proofs.OneSample.{plan_scales, plan_snap}
use Rattle.motion.proofs.StateLaws.{distance_below}
use Rattle.motion.proofs.fourth.PlanPlanned.values.Goals as goal

pub scaled-jerk-requires : goal.scaled-jerk-requires
scaled-jerk-requires c = search (plan_scales c.args.self.now c.requires.plan_in_range c.requires.k_bound c.levels-levels.ensures c.over_four-products.ensures)

pub scaled-acceleration-requires : goal.scaled-acceleration-requires
scaled-acceleration-requires c = search (plan_scales c.args.self.now c.requires.plan_in_range c.requires.k_bound c.levels-levels.ensures c.over_four-products.ensures)

pub scaled-velocity-requires : goal.scaled-velocity-requires
scaled-velocity-requires c = search (plan_scales c.args.self.now c.requires.plan_in_range c.requires.k_bound c.levels-levels.ensures c.over_four-products.ensures)

pub scaled-distance-requires : goal.scaled-distance-requires
scaled-distance-requires c = search (plan_scales c.args.self.now c.requires.plan_in_range c.requires.k_bound c.levels-levels.ensures c.over_four-products.ensures)

pub returns-clause-are : goal.returns-clause-are
returns-clause-are c =
    let all = plan_scales c.args.self.now c.requires.plan_in_range c.requires.k_bound c.levels-levels.ensures c.over_four-products.ensures in
    let switched = to_z-of_z {w = w64} {z = c.at-snap.result} (record { sfits = c.at-snap.type_inv }) ∙ c.at-snap.ensures ∙ plan_snap c.args.self.now c.requires.plan_in_range c.requires.k_bound c.levels-levels.ensures in
    λ i.
    record {
      snap = switched i;
      jerk = all.0.is _ c.scaled-jerk.ensures i;
      acceleration = all.1.is _ c.scaled-acceleration.ensures i;
      velocity = all.2.is _ c.scaled-velocity.ensures i;
      position = all.3.is _ c.scaled-distance.ensures i;
    }

pub returns-clause-near : goal.returns-clause-near
returns-clause-near c =
    let all = plan_scales c.args.self.now c.requires.plan_in_range c.requires.k_bound c.levels-levels.ensures c.over_four-products.ensures in
    subst (λ (x : ℤ). nat_abs x ≤ 2 ^ 60) (sym (all.3.is _ c.scaled-distance.ensures))
    (distance_below c.args.m.now.displacement _ _ c.requires.plan_in_range c.args.k)
