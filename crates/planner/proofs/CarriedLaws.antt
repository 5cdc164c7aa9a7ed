-- Laws of the intervals and bounds from b on, for both orders: each bound that is carried on is at least 1, the interval before it covers
-- it, and the intervals follow each other.
use Prim.Native.Nat.{ℕ, ◌+◌, ◌*◌, ◌≤◌, min}
use native.Mathlib.Nat.{le_trans, mul-le-mul_left, le-max_left, le-max_right, min-le_right, one-le-mul}
use native.Mathlib.Omega.{arith}
use Rattle.planner.specs.Intervals.{A₁, c, V₁, e, interval_c, interval_e}
use Rattle.planner.proofs.Forms.{linear_form, form_least}

-- the smaller of a bound and a product
pub one_min : {bound k n : ℕ} → 1 ≤ bound → 1 ≤ k → 1 ≤ n → 1 ≤ min bound (k * n)
one_min {k = k} {n = n} hb hk hn = omega (arith, one-le-mul hk hn)

module _ (W V₀ A₀ J₁ a b : ℕ) where
  pub ab_c : a + b ≤ c W V₀ A₀ J₁ a b
  unfolding c interval_c
  ab_c = le-max_left _ _

  pub abc_e : a + b + c W V₀ A₀ J₁ a b ≤ e W V₀ A₀ J₁ a b
  unfolding e interval_e
  abc_e = le-max_left _ _

  pub one_A₁ : 1 ≤ A₀ → 1 ≤ J₁ → 1 ≤ b → 1 ≤ A₁ W V₀ A₀ J₁ a b
  unfolding A₁
  one_A₁ ha hj hb = one_min ha hj hb

  pub one_V₁ : 1 ≤ V₀ → 1 ≤ A₀ → 1 ≤ J₁ → 1 ≤ b → 1 ≤ V₁ W V₀ A₀ J₁ a b
  unfolding V₁
  one_V₁ hv ha hj hb = one_min hv (one_A₁ ha hj hb) (omega (arith, ab_c))

  pub covers_A : A₁ W V₀ A₀ J₁ a b ≤ J₁ * b
  unfolding A₁
  covers_A = min-le_right _ _

  pub covers_V : V₁ W V₀ A₀ J₁ a b ≤ A₁ W V₀ A₀ J₁ a b * c W V₀ A₀ J₁ a b
  unfolding V₁
  covers_V = min-le_right _ _

  -- the last interval covers the whole distance
  pub covers_W : 1 ≤ V₁ W V₀ A₀ J₁ a b → W ≤ V₁ W V₀ A₀ J₁ a b * e W V₀ A₀ J₁ a b
  unfolding e interval_e
  covers_W h = le_trans (form_least _ 0 0 W (linear_form _ 0) h).reaches (mul-le-mul_left (V₁ W V₀ A₀ J₁ a b) (le-max_right _ _))
