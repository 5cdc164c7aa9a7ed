-- Laws of the intervals of a move: their order, their durations, and the bounds that the snap keeps.
use mathlib.Core.Path.{◌≡◌}
use Prim.Native.Nat.{ℕ, ◌+◌, ◌-◌, ◌*◌, ◌≤◌, min}
use native.Mathlib.Nat.{le_trans, le_of_eq, mul-pos, mul_assoc, le_of_mul-le-mul_right, div-mul-le_self, le-max_left}
use native.Mathlib.Omega.{arith}
use Rattle.planner.specs.Least.{least}
use Rattle.planner.specs.Intervals.{interval_a, interval_b, a, b, intervals_by, Intervals, p, q, r, s, N, P, D}
use Rattle.planner.specs.Inner.Facts.{Ordered, KeepsBounds}
use Rattle.planner.specs.declared.Move.{Move}
use Rattle.planner.proofs.LeastLaws.{least_positive}
use Rattle.planner.proofs.CarriedLaws.{ab_c, abc_e}

min_positive : {x y : ℕ} → 1 ≤ x → 1 ≤ y → 1 ≤ min x y
min_positive h k = omega arith

pub one_interval_a : (W V₀ A₀ J₀ S₀ : ℕ) → 1 ≤ interval_a W V₀ A₀ J₀ S₀
unfolding interval_a
one_interval_a W V₀ A₀ J₀ S₀ =
    min_positive (least_positive _ _) (min_positive (least_positive _ _) (min_positive (least_positive _ _) (least_positive _ _)))

-- the smallest of the searches for b
pub one_smallest_b : (W V₀ A₀ : ℕ) (f g h : ℕ → ℕ) → 1 ≤ min (least W f) (min (least V₀ g) (least A₀ h))
one_smallest_b W V₀ A₀ f g h = min_positive (least_positive _ _) (min_positive (least_positive _ _) (least_positive _ _))

pub ordered : (W V₀ A₀ J₀ S₀ : ℕ) → Ordered (intervals_by W V₀ A₀ J₀ S₀)
unfolding a b interval_b
ordered W V₀ A₀ J₀ S₀ =
    record { one_a = one_interval_a W V₀ A₀ J₀ S₀; a_b = le-max_left _ _; ab_c = ab_c _ _ _ _ _ _; abc_e = abc_e _ _ _ _ _ _ }

-- Each bound from the one after it, for a jerk of size z: the last interval covers W, and each interval covers the bound that was carried
-- on.
module _ (W z b c e J₁ A₁ V₁ : ℕ)
    (one_b : 1 ≤ b) (one_c : 1 ≤ c) (one_e : 1 ≤ e)
    (covers_W : W ≤ V₁ * e) (covers_V : V₁ ≤ A₁ * c) (covers_A : A₁ ≤ J₁ * b)
    (way : z * b * c * e ≤ W) where
  pub velocity_kept : z * b * c ≤ V₁
  velocity_kept = le_of_mul-le-mul_right (le_trans way covers_W) one_e

  pub acceleration_kept : z * b ≤ A₁
  acceleration_kept = le_of_mul-le-mul_right (le_trans velocity_kept covers_V) one_c

  pub jerk_kept : z ≤ J₁
  jerk_kept = le_of_mul-le-mul_right (le_trans acceleration_kept covers_A) one_b

-- what is left of an interval after those before it
left_1 : (a b : ℕ) → a ≤ b → b ≡ a + (b - a)
left_1 a b h = omega arith

left_2 : (a b c : ℕ) → a + b ≤ c → c ≡ a + b + (c - a - b)
left_2 a b c h = omega arith

left_3 : (a b c e : ℕ) → a + b + c ≤ e → e ≡ a + b + c + (e - a - b - c)
left_3 a b c e h = omega arith

eightfold : (a b c e q r s : ℕ) → b ≡ a + q → c ≡ a + b + r → e ≡ a + b + c + s → a + b + c + e ≡ 8 * a + 4 * q + 2 * r + s
eightfold a b c e q r s hb hc he = omega arith

module _ {t : Intervals} (o : Ordered t) where
  -- "N = a+b+c+e = 8p+4q+2r+s"
  pub durations : N t ≡ 8 * p t + 4 * q t + 2 * r t + s t
  durations =
      eightfold t.a t.b t.c t.e (q t) (r t) (s t) (left_1 t.a t.b o.a_b) (left_2 t.a t.b t.c o.ab_c)
      (left_3 t.a t.b t.c t.e o.abc_e)

  pub one_b : 1 ≤ t.b
  one_b = omega (arith, o.one_a, o.a_b)

  pub one_c : 1 ≤ t.c
  one_c = omega (arith, o.one_a, o.ab_c)

  one_e : 1 ≤ t.e
  one_e = omega (arith, o.one_a, o.abc_e)

  pub product_positive : 1 ≤ P t
  product_positive = mul-pos (mul-pos (mul-pos o.one_a one_b) one_c) one_e

  -- the snap of a plan whose last interval covers W
  module _ (W : ℕ) (m : Move) (J₁ A₁ V₁ : ℕ)
      (covers_W : W ≤ V₁ * t.e)
      (covers_V : V₁ ≤ A₁ * t.c)
      (covers_A : A₁ ≤ J₁ * t.b)
      (covers-J : J₁ ≤ m.snap * t.a) where
    snap : ℕ
    snap = D t W

    regroup : snap * t.a * t.b * t.c * t.e ≡ snap * P t
    regroup =
        rw (mul_assoc (snap * t.a * t.b) t.c t.e, mul_assoc (snap * t.a) t.b (t.c * t.e), mul_assoc snap t.a (t.b * (t.c * t.e)))
        (rw (mul_assoc (t.a * t.b) t.c t.e, mul_assoc t.a t.b (t.c * t.e)))

    way : snap * t.a * t.b * t.c * t.e ≤ W
    unfolding snap
    way = le_trans (le_of_eq regroup) (div-mul-le_self W (P t))

    pub keeps_bounds : V₁ ≤ m.velocity → A₁ ≤ m.acceleration → J₁ ≤ m.jerk → KeepsBounds m t (D t W)
    unfolding snap
    keeps_bounds hv ha hj =
        let jerk = jerk_kept _ _ _ _ _ _ _ _ one_b one_c one_e covers_W covers_V covers_A way in
        let acceleration = acceleration_kept _ _ _ _ _ _ _ _ one_b one_c one_e covers_W covers_V covers_A way in
        let velocity = velocity_kept _ _ _ _ _ _ _ _ one_b one_c one_e covers_W covers_V covers_A way in
        record {
          snap = le_of_mul-le-mul_right (le_trans jerk covers-J) o.one_a;
          jerk = le_trans jerk hj;
          acceleration = rw (mul_assoc (D t W) t.a t.b) at (le_trans acceleration ha);
          velocity =
              rw (mul_assoc (D t W) t.a t.b, mul_assoc (D t W) (t.a * t.b) t.c) at (le_trans velocity hv);
        }
