-- From "planned" to all that holds of a plan: what other crates use in place of the rules' own text.
use mathlib.Core.Path.{◌≡◌, refl, subst, sym, ◌∙◌}
use Prim.Native.Nat.{ℕ, zero, suc, ◌+◌, ◌-◌, ◌*◌, ◌/◌, ◌≤◌, ◌<◌}
use native.Mathlib.Nat.{le_refl, le_trans, mul-le-mul_left, min-le_left, min-le_right, div-mul-le_self, div-add-mod', mod-lt}
use native.Mathlib.Omega.{arith}
use Rattle.planner.specs.Quantities.{distance}
use Rattle.planner.specs.Intervals.{Intervals, a, J₁, b, A₁, V₁, from_b, N, P, D}
use Rattle.std.specs.Prelude.{Ok, Result}
use Rattle.planner.specs.Outcome.{distance_of, intervals_of, intervals_in, samples_of, most_samples, plan_of, Plans, outcome}
use Rattle.planner.specs.Claims.{InRange, Accepted, of_move, IntervalClaim}
use Rattle.planner.specs.declared.Move.{Move}
use Rattle.planner.specs.declared.Plan.{Plan}
use Rattle.planner.specs.declared.Refusal.{Refusal}
use Rattle.planner.specs.Inner.Facts.{Ordered, KeepsBounds, PlanFacts}
use Rattle.planner.proofs.ResultLaws.{same_given}
use Rattle.planner.proofs.Acceptance.{acceptance, accepted_outcome}
use Rattle.planner.proofs.BoundLaws.{ordered, durations, one_b, product_positive, keeps_bounds}
use Rattle.planner.proofs.ProductBound.{product_bound}
use Rattle.planner.proofs.CarriedLaws.{one_min, one_A₁, one_V₁, covers_A, covers_V, covers_W}

-- the division with its remainder
module _ (W d : ℕ) where
  pub whole : W / d * d + (W - W / d * d) ≡ W
  whole = omega (arith, div-mul-le_self W d)

  pub below : 1 ≤ d → W - W / d * d < d
  below h = omega (arith, div-add-mod' W d, mod-lt W h)

module _ (m : Move) where
  pub rule_ordered : Ordered (intervals_of m)
  unfolding intervals_of
  rule_ordered = ordered (distance_of m) m.velocity m.acceleration m.jerk m.snap

  rule_J₁ : InRange m → 1 ≤ of_move m J₁
  unfolding J₁ intervals_of
  rule_J₁ h = one_min h.bounds.jerk.at_least h.bounds.snap.at_least rule_ordered.one_a

  -- what a rule from b on gives
  abbrev pub later : ((W V₀ A₀ J₁ a b : ℕ) → ℕ) → ℕ
  later rule = of_move m (from_b rule)

  rule_A₁ : InRange m → 1 ≤ later A₁
  unfolding intervals_of
  rule_A₁ h = one_A₁ _ _ _ _ _ _ h.bounds.acceleration.at_least (rule_J₁ h) (one_b rule_ordered)

  rule_V₁ : InRange m → 1 ≤ later V₁
  unfolding intervals_of
  rule_V₁ h = one_V₁ _ _ _ _ _ _ h.bounds.velocity.at_least h.bounds.acceleration.at_least (rule_J₁ h) (one_b rule_ordered)

  -- the rule's intervals with another e
  abbrev pub with_last : ℕ → Intervals
  with_last e = record { a = (intervals_of m).a; b = (intervals_of m).b; c = (intervals_of m).c; e = e }

  module _ (e : ℕ) (longer : (intervals_of m).e ≤ e) where
    pub last_ordered : Ordered (with_last e)
    last_ordered = record {
      one_a = rule_ordered.one_a;
      a_b = rule_ordered.a_b;
      ab_c = rule_ordered.ab_c;
      abc_e = le_trans
          rule_ordered.abc_e longer;
    }

    last_bounds : InRange m → KeepsBounds m (with_last e) (D (with_last e) (distance_of m))
    unfolding intervals_of J₁ A₁ V₁
    last_bounds h =
        keeps_bounds last_ordered (distance_of m) m (of_move m J₁) (later A₁) (later V₁)
        (le_trans (covers_W _ _ _ _ _ (of_move m b) (rule_V₁ h)) (mul-le-mul_left (later V₁) longer))
        (covers_V (distance_of m) m.velocity m.acceleration (of_move m J₁) (of_move m a) (of_move m b))
        (covers_A (distance_of m) m.velocity m.acceleration (of_move m J₁) (of_move m a) (of_move m b))
        (min-le_right _ _) (min-le_left _ _) (min-le_left _ _) (min-le_left _ _)

    pub last_facts : Accepted m → N (with_last e) ≤ most_samples → PlanFacts m (with_last e) (plan_of (distance_of m) (with_last e))
    last_facts h l =
        record {
          accepted = h;
          plan_rule = refl;
          ordered = last_ordered;
          samples = l;
          product = product_bound last_ordered l;
          shortfall_below = below _ _ (product_positive last_ordered);
          whole = whole _ _;
          bounds = last_bounds h.is_in_range;
        }

  pub rule_facts : Accepted m → PlanFacts m (intervals_of m) (plan_of (distance_of m) (intervals_of m))
  unfolding samples_of
  rule_facts h = last_facts (intervals_of m).e (le_refl _) h h.short_enough

pub interval_claim : (m : Move) → IntervalClaim m
interval_claim m =
    record {
      durations = durations (rule_ordered m);
      product = product_bound (rule_ordered m);
      one_J₁ = rule_J₁ m;
      one_A₁ = rule_A₁ m;
      one_V₁ = rule_V₁ m;
    }

module _ {m : Move} where
  pub planned_facts : {x : Plan} → Plans m (Ok x) → PlanFacts m (intervals_of m) x
  planned_facts h =
      let k = (acceptance m _ h).0 tt in
      subst (PlanFacts m (intervals_of m)) (sym (same_given (h.outcome_is ∙ accepted_outcome m k))) (rule_facts m k)

  -- the same for an answer that was taken apart
  pub answer_facts : {r : Result Plan Refusal} {x : Plan} → Plans m (outcome r) → r ≡ Ok x → PlanFacts m (intervals_of m) x
  answer_facts h q = planned_facts (subst (λ (r : Result Plan Refusal). Plans m (outcome r)) q h)

  -- A plan's snap is not 0: the distance is at least 2^40, and P at most 2^39.
  pub snap_from_one : {t : Intervals} {x : Plan} → PlanFacts m t x → 0 < x.snap
  unfolding distance
  snap_from_one {x = x} f = from_one x.snap (P (intervals_in x)) f.whole
    where
      from_one : (D p : ℕ) → D * p + x.shortfall ≡ distance_of m → 0 < D
      from_one zero p q = absurd (omega (arith, q, f.shortfall_below, f.product, f.accepted.is_in_range.moves))
      from_one (suc D) p q = omega arith
