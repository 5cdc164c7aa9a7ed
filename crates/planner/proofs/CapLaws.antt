-- From the searches' capped numbers to the rule's intervals: each agrees with its rule as far as 4,096, and so do their sums.
use mathlib.Core.Path.{◌≡◌, refl, sym, ap, ap₂, subst, ◌∙◌}
use mathlib.Core.Logic.{◌⊎◌, inl, inr, ⊎_elim}
use Prim.Native.Nat.{ℕ, ◌*◌, ◌≤◌, ◌<◌, min, max}
use native.Mathlib.Nat.{max-min_distrib_left, max-eq_right}
use native.Mathlib.Omega.{arith}
use native.Mathlib.Decide.{dec_lt}
use Rattle.planner.specs.Least.{least}
use Rattle.planner.specs.Intervals.{interval_a, interval_b, interval_c, interval_e, a, J₁, b, A₁, c, V₁, e, intervals_by, Intervals, N}
use Rattle.planner.specs.Inner.Capped.{Agrees, Carried, later_by, LaterAgree, IntervalsAgree}

-- x is m, but not below lo and not above hi
pub record Between (lo hi x m : ℕ) : Type 0 where
  pub value : x ≡ max lo (min hi m)

-- what the first search gives, under the paper's form g of what is to reach t
pub between : (t : ℕ) {lo hi x : ℕ} {f g : ℕ → ℕ} → f ≡ g → x ≡ max lo (min hi (least t f)) → Between lo hi x (least t g)
between t {lo} {hi} h v = record { value = v ∙ ap (λ (f : ℕ → ℕ). max lo (min hi (least t f))) h }

max_max : (x y : ℕ) → max x (max x y) ≡ max x y
max_max x y = omega arith

min_min : (x y z : ℕ) → min (min x y) z ≡ min x (min z y)
min_min x y z = omega arith

-- a further search, which looks no further than x: the smaller of the two
narrower : (lo hi m n : ℕ) → max lo (min (max lo (min hi m)) n) ≡ max lo (min hi (min n m))
narrower lo hi m n =
    max-min_distrib_left lo (max lo (min hi m)) n
    ∙ ap (λ (z : ℕ). min z (max lo n)) (max_max lo (min hi m))
    ∙ sym (max-min_distrib_left lo (min hi m) n)
    ∙ ap (max lo) (min_min hi m n)

pub between_min :
    (t : ℕ) {lo hi x y m : ℕ} {f g : ℕ → ℕ} → f ≡ g → Between lo hi x m → y ≡ max lo (min x (least t f)) →
    Between lo hi y (min (least t g) m)
between_min t {lo} {hi} {m = m} {g = g} h first v =
    record { value = (between t h v).value ∙ ap (λ (z : ℕ). max lo (min z (least t g))) first.value ∙ narrower lo hi m (least t g) }

-- an interval that is never below lo agrees with the rule as far as 4,096, where its span does not end sooner
pub agrees : {lo hi r m : ℕ} (most : ℕ) → Between lo hi r m → 1 ≤ lo → lo ≤ hi → 4097 ≤ hi → hi ≤ most → Agrees 4097 most r (max lo m)
agrees {lo} {hi} {r} {m} most b one h cap top =
    record { agree = omega (arith, b.value); positive = omega (arith, b.value); at_most = omega (arith, b.value) }

-- the same for an interval that may be as short as 1
pub agrees_from_one : {hi r m : ℕ} (most : ℕ) → Between 1 hi r m → 1 ≤ m → 4097 ≤ hi → hi ≤ most → Agrees 4097 most r m
agrees_from_one {hi} {r} {m} most b one cap top =
    subst (Agrees 4097 most r) (max-eq_right one) (agrees most b (omega arith) (omega arith) cap top)

-- and for one that is never below lo, which may be 0
pub agrees_above :
    {lo hi r m : ℕ} (most : ℕ) → Between (max 1 lo) hi r m → 1 ≤ m → lo ≤ hi → 4097 ≤ hi → hi ≤ most → Agrees 4097 most r (max lo m)
agrees_above {lo} {hi} {r} {m} most b one h cap top =
    let same : max (max 1 lo) m ≡ max lo m = omega arith in
    subst (Agrees 4097 most r) same (agrees most b (omega arith) (omega arith) cap top)

-- two numbers that agree are the same where one of them is below the cap
same : {most r x y : ℕ} → Agrees 4097 most r x → x ≡ y → (r < 4097) ⊎ (y < 4097) → r ≡ y
same {most} {r} {x} {y} g q = ⊎_elim (λ (h : r < 4097). omega (arith, g.agree)) (λ (h : y < 4097). omega (arith, g.agree))

-- a part of a sum is below the cap where the sum is
part : {r y m n : ℕ} → r ≤ m → y ≤ n → (m < 4097) ⊎ (n < 4097) → (r < 4097) ⊎ (y < 4097)
part {r} {y} {m} {n} h k = ⊎_elim (λ (l : m < 4097). inl (omega arith)) (λ (l : n < 4097). inr (omega arith))

-- what `later_intervals` puts together
module _ (W V₀ A₀ J₁ a rb a1 rc v1 re : ℕ)
    (gb : Agrees 4097 4097 rb (interval_b W V₀ A₀ J₁ a))
    (ha : Carried A₀ J₁ rb a1)
    (gc : Agrees 4097 8194 rc (interval_c W V₀ a1 a rb))
    (hv : Carried V₀ a1 rc v1)
    (ge : Agrees 4097 16388 re (interval_e W v1 a rb rc))
  where
    abbrev found : Intervals
    found = record { a = a; b = rb; c = rc; e = re }

    abbrev rule : Intervals
    rule = later_by W V₀ A₀ J₁ a

    -- one of the two sums is below the cap
    abbrev Short : Type 0
    Short = (N found < 4097) ⊎ (N rule < 4097)

    same_b : Short → rb ≡ rule.b
    same_b h = same gb refl (part (omega arith) (omega arith) h)

    same_A₁ : Short → a1 ≡ A₁ W V₀ A₀ J₁ a rule.b
    unfolding A₁
    same_A₁ h = ha.value ∙ ap (λ (x : ℕ). min A₀ (J₁ * x)) (same_b h)

    same_c : Short → rc ≡ rule.c
    unfolding c
    same_c h = same gc (ap₂ (λ (x y : ℕ). interval_c W V₀ x a y) (same_A₁ h) (same_b h)) (part (omega arith) (omega arith) h)

    same_V₁ : Short → v1 ≡ V₁ W V₀ A₀ J₁ a rule.b
    unfolding V₁
    same_V₁ h = hv.value ∙ ap₂ (λ (x y : ℕ). min V₀ (x * y)) (same_A₁ h) (same_c h)

    same_e : Short → re ≡ rule.e
    unfolding e
    same_e h =
        same ge
        (ap (λ (x : ℕ). interval_e W x a rb rc) (same_V₁ h) ∙ ap₂ (interval_e W (V₁ W V₀ A₀ J₁ a rule.b) a) (same_b h) (same_c h))
        (part (omega arith) (omega arith) h)

    same_all : Short → found ≡ rule
    same_all h = λ i. record { a = a; b = same_b h i; c = same_c h i; e = same_e h i }

    capped_samples : Dec (N found < 4097) → Dec (N rule < 4097) → min 4097 (N found) ≡ min 4097 (N rule)
    capped_samples (yes h) d = ap (λ (t : Intervals). min 4097 (N t)) (same_all (inl h))
    capped_samples (no h) (yes k) = ap (λ (t : Intervals). min 4097 (N t)) (same_all (inr k))
    capped_samples (no h) (no k) = omega arith

    pub later_agree : LaterAgree 4097 W V₀ A₀ J₁ a found
    later_agree =
        record {
          samples = capped_samples (dec_lt (N found) 4097) (dec_lt (N rule) 4097);
          same = λ h. same_all (inl h);
          first = refl;
          positive = (gb.positive, gc.positive, ge.positive);
          at_most = (gb.at_most, gc.at_most, ge.at_most);
        }

-- what `intervals` puts together
module _ (W V₀ A₀ J₀ S₀ ra j1 : ℕ) (t : Intervals)
    (ga : Agrees 4097 4097 ra (interval_a W V₀ A₀ J₀ S₀))
    (hj : Carried J₀ S₀ ra j1)
    (later : LaterAgree 4097 W V₀ A₀ j1 ra t)
  where
    abbrev whole : Intervals
    whole = intervals_by W V₀ A₀ J₀ S₀

    -- where a is the rule's, so are the others
    same_first : (ra < 4097) ⊎ (whole.a < 4097) → later_by W V₀ A₀ j1 ra ≡ whole
    unfolding a J₁ b
    same_first h =
        let q : ra ≡ whole.a = same ga refl h in
        ap₂ (later_by W V₀ A₀) (hj.value ∙ ap (λ (x : ℕ). min J₀ (S₀ * x)) q) q

    whole_samples : Dec (ra < 4097) → Dec (whole.a < 4097) → min 4097 (N t) ≡ min 4097 (N whole)
    whole_samples (yes h) d = later.samples ∙ ap (λ (t : Intervals). min 4097 (N t)) (same_first (inl h))
    whole_samples (no h) (yes k) = later.samples ∙ ap (λ (t : Intervals). min 4097 (N t)) (same_first (inr k))
    whole_samples (no h) (no k) = omega (arith, later.first)

    pub intervals_agree : IntervalsAgree 4097 W V₀ A₀ J₀ S₀ t
    intervals_agree =
        record {
          samples = whole_samples (dec_lt ra 4097) (dec_lt whole.a 4097);
          same = λ h. later.same h ∙ same_first (inl (omega (arith, later.first)));
          positive = let p = later.positive in (rw later.first ga.positive, p.0, p.1, p.2);
          at_most = let p = later.at_most in (rw later.first ga.at_most, p.0, p.1, p.2);
        }
