-- The laws of the profile, for the intervals of either order that follow each other.
use mathlib.Core.List.{[], ◌∷◌}
use mathlib.Core.Path.{◌≡◌, ap, ◌∙◌}
use Prim.Native.Nat.{ℕ, ◌≤◌}
use lib.IntN.{ℤ}
use Rattle.planner.specs.Intervals.{Intervals, p, q, r, s, N}
use Rattle.planner.specs.Third.{ThirdIntervals}
use Rattle.planner.specs.Inner.Facts.{Ordered}
use Rattle.planner.specs.Inner.ThirdFacts.{ThirdOrdered}
use Rattle.profile.specs.Profile as profile
use Rattle.profile.specs.Inner.Widths.{span, Spread}
use Rattle.profile.specs.Inner.Facts.{jerk_over, AtEnd}
use Rattle.profile.proofs.Lookup.{samples}
use Rattle.profile.proofs.SwitchedLaws.{samples_switched}
use Rattle.profile.proofs.AnyOrder.{any_order_end}
use Rattle.profile.proofs.Orders as orders
use Rattle.motion.specs.Inner.Planned.{widths_of, third_widths_of}
use Rattle.motion.specs.Inner.SegmentLists.{fourth_segments, third_segments}

module _ (t : Intervals) (D : ℕ) where
  -- the jerk of the profile is that over its widths
  abbrev pub fourth_jerk : ℕ → ℤ
  fourth_jerk = jerk_over t.a (t.b ∷ []) t.c t.e D

  pub fourth_jerk_lem : profile.jerk (p t) (q t) (r t) (s t) D ≡ fourth_jerk
  fourth_jerk_lem = orders.fourth_jerk_lem t.a t.b t.c t.e D

module _ {t : Intervals} (o : Ordered t) where
  pub spread : Spread t.a (widths_of t)
  spread = orders.fourth_spread t.a t.b t.c t.e o.a_b o.ab_c o.abc_e

  pub fourth_samples : samples (fourth_segments t) ≡ N t
  unfolding span
  fourth_samples = ap samples (orders.fifteen t.a t.b t.c t.e) ∙ samples_switched t.a (widths_of t) spread

  pub fourth_end : (D k : ℕ) → N t ≤ k → AtEnd t.a (t.b ∷ []) t.c t.e D k
  unfolding span
  fourth_end D k l = any_order_end t.a (t.b ∷ []) t.c t.e spread D k l

module _ (t : ThirdIntervals) (D : ℕ) where
  abbrev pub third_jerk : ℕ → ℤ
  third_jerk = jerk_over t.b [] t.c t.e D

  pub third_jerk_lem : profile.switched_in (third_segments t) D ≡ third_jerk
  third_jerk_lem = orders.third_jerk_lem t.b t.c t.e D

module _ {t : ThirdIntervals} (o : ThirdOrdered t) where
  pub third_spread : Spread t.b (third_widths_of t)
  third_spread = orders.third_spread t.b t.c t.e o.b_c o.bc_e
