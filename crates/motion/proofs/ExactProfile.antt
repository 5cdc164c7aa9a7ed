-- What E is, for every move, and for every moving axis of a set.
use mathlib.Core.List.{List, [], ◌∷◌}
use mathlib.Core.Path.{◌≡◌, refl, sym, ap, subst, ◌∙◌}
use Prim.Native.Nat.{ℕ, suc, ◌*◌}
use native.Mathlib.Nat.{le_refl, mul_comm}
use lib.IntN.{ℤ, pos, negsuc, neg_ℤ, ◌*ℤ◌}
use Rattle.planner.specs.Quantities.{units_per_count, distance, along}
use Rattle.planner.specs.Intervals.{Intervals}
use Rattle.planner.specs.Outcome.{distance_of, intervals_of}
use Rattle.planner.specs.Axes.{raised}
use Rattle.planner.specs.Third.{third_intervals_of}
use Rattle.planner.specs.Inner.Facts.{Ordered}
use Rattle.planner.specs.declared.Move.{Move}
use Rattle.planner.proofs.PlannedFacts.{rule_ordered}
use Rattle.planner.proofs.AxisLaws.{moving_rest}
use Rattle.planner.proofs.RaisedLaws.{raised_ordered}
use Rattle.planner.proofs.ThirdTheorems.{third_rule_ordered}
use Rattle.profile.specs.Profile as profile
use Rattle.profile.specs.Inner.Widths.{span, product, Spread}
use Rattle.profile.specs.Inner.Facts.{jerk_over}
use Rattle.profile.proofs.AnyOrder.{any_order_end}
use Rattle.motion.specs.Sampling.{Values, values_at, third_values_at, exact_position_times_p, third_exact_position_times_p, units_of}
use Rattle.motion.specs.AxesClaims.{AxisExactProfileClaim}
use Rattle.motion.specs.Demand3.{ExactIn, ExactProfileClaim, ThirdExactProfileClaim}
use Rattle.motion.proofs.IntegerLaws.{multiple_negated}
use Rattle.motion.proofs.OrderedLaws.{spread, third_spread}
use Rattle.motion.proofs.KeptRules.{Follows, fourth_follows, third_follows}
use Rattle.motion.proofs.AxisSampling.{exact_by}

-- W times P in the direction of X
whole_way : (X : ℤ) (n : ℕ) → along X (pos (distance X * n)) ≡ pos n *ℤ units_of X
unfolding along distance
whole_way (pos i) n = ap pos (mul_comm _ n)
whole_way (negsuc i) n = ap (λ (k : ℕ). neg_ℤ (pos k)) (mul_comm _ n) ∙ sym (multiple_negated n (pos (units_per_count * suc i)))

-- of a profile with W for D, over any widths
whole_end :
    (m : Move) (a : ℕ) (inner : List ℕ) (c e : ℕ) → Spread a (e ∷ c ∷ inner)
    → {v : ℕ → Values} → Follows m.displacement (jerk_over a inner c e (distance_of m)) v
    → (v (span a (e ∷ c ∷ inner))).position ≡ pos (product a (e ∷ c ∷ inner)) *ℤ units_of m.displacement
whole_end m a inner c e s w =
    w.position_is _
    ∙ ap (along m.displacement) (any_order_end a inner c e s (distance_of m) _ (le_refl _)).position_full
    ∙ whole_way m.displacement (product a (e ∷ c ∷ inner))

pub third_exact_profile : ThirdExactProfileClaim
unfolding third_exact_position_times_p third_values_at span product
third_exact_profile m =
    let t = third_intervals_of m in
    record {
      summed = λ k. refl;
      at_end = whole_end m t.b [] t.c t.e (third_spread (third_rule_ordered m)) (third_follows m.displacement t (distance_of m));
    }

-- of any intervals that follow each other
exact : (m : Move) {t : Intervals} → Ordered t → ExactIn m t (λ k. (values_at m.displacement t (distance_of m) k).position)
unfolding values_at profile.snap profile.jerk profile.acceleration profile.velocity profile.position span product
exact m {t} o =
    record {
      summed = λ k. refl;
      at_end = whole_end m t.a (t.b ∷ []) t.c t.e (spread o) (fourth_follows m.displacement t (distance_of m));
    }

pub exact_profile : ExactProfileClaim
unfolding exact_position_times_p
exact_profile m = exact m (rule_ordered m)

pub axis_exact_profile : AxisExactProfileClaim
axis_exact_profile n m h =
    subst (ExactIn m (raised n (intervals_of m))) (sym (exact_by n m (moving_rest m h))) (exact m (raised_ordered n m))
