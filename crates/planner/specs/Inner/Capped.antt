-- Intervals that are searched for up to a cap only, and how they stand to the rule's.
use Rattle.std.specs.Prelude.{◌≡◌, ℕ, ◌*◌, ◌^◌, ◌≤◌, ◌<◌, min}
use Rattle.planner.specs.Intervals.{Intervals, N, interval_b, c, e, intervals_by}
use Rattle.planner.specs.Claims.{BoundInRange}
use Rattle.planner.specs.declared.intervals.Intervals as code

-- The figures of a move in range that both orders read, by its distance.
pub record FiguresToJerk (W V₀ A₀ J₀ : ℕ) : Type 0 where
  pub distance : W ≤ 2 ^ 60
  pub velocity : BoundInRange V₀
  pub acceleration : BoundInRange A₀
  pub jerk : BoundInRange J₀

-- r and x are the same number, or both are at least cap; r is from 1 to most.
pub record Agrees (cap most r x : ℕ) : Type 0 where
  pub agree : min cap r ≡ min cap x
  pub positive : 1 ≤ r
  pub at_most : r ≤ most

-- r is the smaller of the bound and k·n, and a bound in range itself.
pub record Carried (bound k n r : ℕ) : Type 0 where
  pub value : r ≡ min bound (k * n)
  pub is_in_range : BoundInRange r

-- The four numbers that the code found.
abbrev pub found : code.Intervals → Intervals
found i = record { a = i.a; b = i.b; c = i.c; e = i.e }

-- The rule's intervals from b on, where a and J₁ are given.
abbrev pub later_by : (W V₀ A₀ J₁ a : ℕ) → Intervals
later_by W V₀ A₀ J₁ a =
    let b = interval_b W V₀ A₀ J₁ a in
    record { a = a; b = b; c = c W V₀ A₀ J₁ a b; e = e W V₀ A₀ J₁ a b }

-- The four numbers are these where they make fewer than cap samples; otherwise these make cap or more too.
pub record LaterAgree (cap W V₀ A₀ J₁ a : ℕ) (t : Intervals) : Type 0 where
  pub samples : min cap (N t) ≡ min cap (N (later_by W V₀ A₀ J₁ a))
  pub same : N t < cap → t ≡ later_by W V₀ A₀ J₁ a
  pub first : t.a ≡ a
  pub positive : (1 ≤ t.b) × (1 ≤ t.c) × (1 ≤ t.e)
  pub at_most : (t.b ≤ cap) × (t.c ≤ 2 * cap) × (t.e ≤ 4 * cap)

-- The four numbers are the rule's intervals where they make fewer than cap samples; otherwise the rule's make cap or more too.
pub record IntervalsAgree (cap W V₀ A₀ J₀ S₀ : ℕ) (t : Intervals) : Type 0 where
  pub samples : min cap (N t) ≡ min cap (N (intervals_by W V₀ A₀ J₀ S₀))
  pub same : N t < cap → t ≡ intervals_by W V₀ A₀ J₀ S₀
  pub positive : (1 ≤ t.a) × (1 ≤ t.b) × (1 ≤ t.c) × (1 ≤ t.e)
  pub at_most : (t.a ≤ cap) × (t.b ≤ cap) × (t.c ≤ 2 * cap) × (t.e ≤ 4 * cap)
