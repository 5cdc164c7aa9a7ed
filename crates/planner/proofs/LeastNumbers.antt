-- The ten searches of the fourth order and the six of the third, written out once: the intervals of the rules are the smallest of what they
-- give, and for a move in range each gives the least number.
use mathlib.Core.List.{List, [], ◌∷◌}
use mathlib.Core.Path.{◌≡◌, refl}
use Prim.Native.Nat.{ℕ, ◌+◌, ◌*◌, ◌^◌, ◌≤◌, min, max}
use native.Mathlib.Omega.{arith}
use Rattle.planner.specs.Least.{least, IsLeast}
use Rattle.planner.specs.Intervals.{interval_a, interval_b, interval_c, interval_e, a, b, c, e, J₁, A₁, V₁}
use Rattle.planner.specs.Refusals.{Each}
use Rattle.planner.specs.Outcome.{distance_of, intervals_of}
use Rattle.planner.specs.Claims.{InRange, of_move}
use Rattle.planner.specs.Third.{third_interval_b, third_intervals_of}
use Rattle.planner.specs.ThirdClaims.{ThirdInRange}
use Rattle.planner.specs.declared.Move.{Move}
use Rattle.planner.proofs.Forms.{power_form, linear_form, product_form, square_form, form_least}
use Rattle.planner.proofs.PlannedFacts.{rule_ordered, interval_claim}
use Rattle.planner.proofs.BoundLaws.{one_b}
use Rattle.planner.proofs.CarriedLaws.{one_A₁, one_V₁}
use Rattle.planner.proofs.ThirdTheorems.{third_rule_ordered}

-- a target, and what is to reach it
abbrev Search : Type 0
Search = ℕ × (ℕ → ℕ)

abbrev found_by : Search → ℕ
found_by x = least x.0 x.1

abbrev FindsLeast : Search → Type 0
FindsLeast x = IsLeast x.0 x.1 (found_by x)

abbrev smallest : List Search → ℕ
smallest [] = 0
smallest (x ∷ []) = found_by x
smallest (x ∷ y ∷ xs) = min (found_by x) (smallest (y ∷ xs))

abbrev searches_a : (W V₀ A₀ J₀ S₀ : ℕ) → List Search
searches_a W V₀ A₀ J₀ S₀ = (W, λ n. 8 * S₀ * n ^ 4) ∷ (V₀, λ n. 2 * S₀ * n ^ 3) ∷ (A₀, λ n. S₀ * n ^ 2) ∷ (J₀, λ n. S₀ * n) ∷ []

abbrev searches_b : (W V₀ A₀ J₁ a : ℕ) → List Search
searches_b W V₀ A₀ J₁ a = (W, λ n. 2 * J₁ * n * (a + n) ^ 2) ∷ (V₀, λ n. J₁ * n * (a + n)) ∷ (A₀, λ n. J₁ * n) ∷ []

abbrev searches_third : (W V₀ A₀ J₀ : ℕ) → List Search
searches_third W V₀ A₀ J₀ = (W, λ n. 2 * J₀ * n ^ 3) ∷ (V₀, λ n. J₀ * n ^ 2) ∷ (A₀, λ n. J₀ * n) ∷ []

abbrev searches_c : (W V₀ A₁ a b : ℕ) → List Search
searches_c W V₀ A₁ a b = (W, λ n. A₁ * n * (a + b + n)) ∷ (V₀, λ n. A₁ * n) ∷ []

abbrev searches_e : (W V₁ : ℕ) → List Search
searches_e W V₁ = (W, λ n. V₁ * n) ∷ []

-- each finds the least, by its factor, which is at least 1
least_a : (W V₀ A₀ J₀ S₀ : ℕ) → 1 ≤ S₀ → Each FindsLeast (searches_a W V₀ A₀ J₀ S₀)
least_a W V₀ A₀ J₀ S₀ h = (
  form_least (8 * S₀) 0 3 W (power_form _ 3) (omega arith),
  (
    form_least (2 * S₀) 0 2 V₀ (power_form _ 2) (omega arith),
    (form_least S₀ 0 1 A₀ (power_form _ 1) h, (form_least S₀ 0 0 J₀ (linear_form _ 0) h, tt)),
  ),
)

least_b : (W V₀ A₀ J₁ a : ℕ) → 1 ≤ J₁ → Each FindsLeast (searches_b W V₀ A₀ J₁ a)
least_b W V₀ A₀ J₁ a h = (
  form_least (2 * J₁) a 2 W (product_form _ _ 2) (omega arith),
  (form_least J₁ a 1 V₀ (square_form _ _) h, (form_least J₁ a 0 A₀ (linear_form _ a) h, tt)),
)

least_third : (W V₀ A₀ J₀ : ℕ) → 1 ≤ J₀ → Each FindsLeast (searches_third W V₀ A₀ J₀)
least_third W V₀ A₀ J₀ h = (
  form_least (2 * J₀) 0 2 W (power_form _ 2) (omega arith),
  (form_least J₀ 0 1 V₀ (power_form _ 1) h, (form_least J₀ 0 0 A₀ (linear_form _ 0) h, tt)),
)

least_c : (W V₀ A₁ a b : ℕ) → 1 ≤ A₁ → Each FindsLeast (searches_c W V₀ A₁ a b)
least_c W V₀ A₁ a b h = (form_least A₁ (a + b) 1 W (square_form _ _) h, (form_least A₁ a 0 V₀ (linear_form _ a) h, tt))

least_e : (W V₁ : ℕ) → 1 ≤ V₁ → Each FindsLeast (searches_e W V₁)
least_e W V₁ h = (form_least V₁ 0 0 W (linear_form _ 0) h, tt)

-- From b on, "the smaller of: ..; but never below ..": the three searches that both orders share, for any b.
module _ (W V₀ A₀ J₁ a b : ℕ) where
  abbrev searched_c : List Search
  searched_c = searches_c W V₀ (A₁ W V₀ A₀ J₁ a b) a b

  abbrev searched_e : List Search
  searched_e = searches_e W (V₁ W V₀ A₀ J₁ a b)

  pub record LaterLeast : Type 0 where
    pub c_is : c W V₀ A₀ J₁ a b ≡ max (a + b) (smallest searched_c)
    pub e_is : e W V₀ A₀ J₁ a b ≡ max (a + b + c W V₀ A₀ J₁ a b) (smallest searched_e)
    pub c_least : Each FindsLeast searched_c
    pub e_least : Each FindsLeast searched_e

  later_least : 1 ≤ V₀ → 1 ≤ A₀ → 1 ≤ J₁ → 1 ≤ b → LaterLeast
  unfolding c e interval_c interval_e
  later_least hv ha hj hb =
      record {
        c_is = refl;
        e_is = refl;
        c_least = least_c _ _ _ _ _ (one_A₁ W V₀ A₀ J₁ a b ha hj hb);
        e_least = least_e _ _ (one_V₁ W V₀ A₀ J₁ a b hv ha hj hb);
      }

module _ (m : Move) where
  -- the ten of the fourth order
  abbrev searched_a : List Search
  searched_a = searches_a (distance_of m) m.velocity m.acceleration m.jerk m.snap

  abbrev searched_b : List Search
  searched_b = searches_b (distance_of m) m.velocity m.acceleration (of_move m J₁) (of_move m a)

  pub record TenLeast : Type 0 where
    pub a_is : of_move m a ≡ smallest searched_a
    pub b_is : of_move m b ≡ max (of_move m a) (smallest searched_b)
    pub a_least : Each FindsLeast searched_a
    pub b_least : Each FindsLeast searched_b
    pub later : LaterLeast (distance_of m) m.velocity m.acceleration (of_move m J₁) (of_move m a) (of_move m b)

  -- the six of the third
  abbrev searched_third : List Search
  searched_third = searches_third (distance_of m) m.velocity m.acceleration m.jerk

  abbrev third_b : ℕ
  third_b = third_interval_b (distance_of m) m.velocity m.acceleration m.jerk

  pub record SixLeast : Type 0 where
    pub b_is : third_b ≡ smallest searched_third
    pub b_least : Each FindsLeast searched_third
    pub later : LaterLeast (distance_of m) m.velocity m.acceleration m.jerk 0 third_b

pub ten_least : (m : Move) → InRange m → TenLeast m
unfolding a b interval_a interval_b intervals_of
ten_least m h =
    let i = h.bounds in
    let one_J₁ = (interval_claim m).one_J₁ h in
    record {
      a_is = refl;
      b_is = refl;
      a_least = least_a _ _ _ _ _ i.snap.at_least;
      b_least = least_b _ _ _ _ _ one_J₁;
      later = later_least _ _ _ _ _ _ i.velocity.at_least i.acceleration.at_least one_J₁ (one_b (rule_ordered m));
    }

pub six_least : (m : Move) → ThirdInRange m → SixLeast m
unfolding third_interval_b third_intervals_of
six_least m h =
    record {
      b_is = refl;
      b_least = least_third _ _ _ _ h.jerk.at_least;
      later =
          later_least _ _ _ _ _ _ h.velocity.at_least h.acceleration.at_least h.jerk.at_least
          (third_rule_ordered m).one_b;
    }
