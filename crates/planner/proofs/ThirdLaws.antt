-- Laws of the intervals of a third-order plan: b by the base's rule, their order, their product, the bounds that the jerk keeps; and what
-- `plan_third` answers.
use mathlib.Core.Bool.{Bool, true, false}
use mathlib.Core.Path.{◌≡◌, sym, ap, ap₂, subst, ◌∙◌}
use Prim.Native.Nat.{ℕ, ◌+◌, ◌*◌, ◌^◌, ◌≤◌, ◌<◌, min}
use native.Mathlib.Nat.{le_trans, le_of_eq, mul_assoc, mul-pos, mul-le-mul, mul-le-mul_right, min-le_left, div-mul-le_self}
use native.Mathlib.Omega.{arith}
use borrow.Author.Tests.{lt-ltb, le-ltb}
use Rattle.planner.specs.Least.{least}
use Rattle.planner.specs.Intervals.{interval_b, A₁, c, V₁, e, Intervals}
use Rattle.std.specs.Prelude.{Ok, Err}
use Rattle.planner.specs.Outcome.{most_samples}
use Rattle.planner.specs.Third.{ThirdIntervals, third_interval_b, third_intervals_by, N₃, P₃, jerk_size, third_plan_of}
use Rattle.planner.specs.Inner.Capped.{later_by, LaterAgree}
use Rattle.planner.specs.Inner.Capped.{FiguresToJerk}
use Rattle.planner.specs.Inner.ThirdWithin.{third_within}
use Rattle.planner.specs.Inner.ThirdFacts.{ThirdOrdered, ThirdKeepsBounds}
use Rattle.planner.specs.declared.Move.{Move}
use Rattle.planner.proofs.Forms.{power_form, product_form, square_form}
use Rattle.planner.proofs.CarriedLaws.{ab_c, abc_e, one_V₁, covers_A, covers_V, covers_W}
use Rattle.planner.proofs.BoundLaws.{one_smallest_b, velocity_kept, acceleration_kept, jerk_kept}
use Rattle.planner.proofs.ProductBound.{four_products}
use Rattle.planner.proofs.RefusalLaws.{stop, skip, none_left}

module _ (W V₀ A₀ J₀ : ℕ) where
  abbrev t : ThirdIntervals
  t = third_intervals_by W V₀ A₀ J₀

  -- the base's rule of b for a = 0 and J₁ = J₀
  pub base_b : third_interval_b W V₀ A₀ J₀ ≡ interval_b W V₀ A₀ J₀ 0
  unfolding third_interval_b interval_b
  base_b =
      let cubes = sym (power_form (2 * J₀) 2) ∙ product_form (2 * J₀) 0 2 in
      let squares = sym (power_form J₀ 1) ∙ square_form J₀ 0 in
      ap₂ (λ (f g : ℕ → ℕ). min (least W f) (min (least V₀ g) (least A₀ (λ n. J₀ * n)))) cubes squares ∙ omega arith

  pub third_ordered : ThirdOrdered t
  unfolding third_interval_b
  third_ordered =
      record {
        one_b = one_smallest_b W V₀ A₀ _ _ _;
        b_c = omega (arith, ab_c W V₀ A₀ J₀ 0 t.b);
        bc_e = omega (arith, abc_e W V₀ A₀ J₀ 0 t.b);
      }

  -- each search covers the bound that was carried on
  module _ (h : FiguresToJerk W V₀ A₀ J₀) where
    one_V : 1 ≤ V₁ W V₀ A₀ J₀ 0 t.b
    one_V = one_V₁ _ _ _ _ _ _ h.velocity.at_least h.acceleration.at_least h.jerk.at_least third_ordered.one_b

    abbrev size : ℕ
    size = jerk_size t W

    way : size * t.b * t.c * t.e ≤ W
    way =
        le_trans (le_of_eq (ap (λ (n : ℕ). n * t.e) (mul_assoc size t.b t.c) ∙ mul_assoc size (t.b * t.c) t.e))
        (div-mul-le_self W (P₃ t))

    pub third_keeps_bounds : (m : Move) → V₀ ≤ m.velocity → A₀ ≤ m.acceleration → J₀ ≤ m.jerk → ThirdKeepsBounds m t size
    unfolding A₁ V₁
    third_keeps_bounds m hv ha hj =
        let o = third_ordered in
        let one_c : 1 ≤ t.c = omega (arith, o.one_b, o.b_c) in
        let one_e : 1 ≤ t.e = omega (arith, o.one_b, o.bc_e) in
        let wide = covers_W W V₀ A₀ J₀ 0 t.b one_V in
        let fast = covers_V W V₀ A₀ J₀ 0 t.b in
        let steep = covers_A W V₀ A₀ J₀ 0 t.b in
        record {
          jerk = le_trans (jerk_kept W size t.b t.c t.e J₀ _ _ o.one_b one_c one_e wide fast steep way) hj;
          acceleration =
              le_trans (acceleration_kept W size t.b t.c t.e J₀ _ _ o.one_b one_c one_e wide fast steep way)
              (le_trans (min-le_left _ _) ha);
          velocity =
              rw (mul_assoc size t.b t.c) at
              (le_trans (velocity_kept W size t.b t.c t.e J₀ _ _ o.one_b one_c one_e wide fast steep way)
              (le_trans (min-le_left _ _) hv));
        }

module _ {t : ThirdIntervals} (o : ThirdOrdered t) where
  pub third_positive : 1 ≤ P₃ t
  third_positive = mul-pos (mul-pos o.one_b (omega (arith, o.one_b, o.b_c))) (omega (arith, o.one_b, o.bc_e))

  -- with u = b+c, 4bc ≤ u² and 4ue ≤ N², so 16P ≤ u·4ue ≤ 2^11·2^24
  pub third_product : N₃ t ≤ 4096 → P₃ t ≤ 2 ^ 31
  third_product h =
      let u : ℕ = t.b + t.c in
      let half : u ≤ 2048 = omega (arith, o.bc_e) in
      let squares : 4 * (t.b * t.c) * t.e ≤ u * u * t.e = mul-le-mul_right t.e (four_products o.b_c) in
      let last : 4 * (u * t.e) ≤ (u + t.e) * (u + t.e) = four_products o.bc_e in
      let all : (u + t.e) * (u + t.e) ≤ 4096 * 4096 = mul-le-mul h h in
      let ends : u * t.e ≤ 2 ^ 22 = omega arith in
      let product : u * (u * t.e) ≤ 2048 * 2 ^ 22 = mul-le-mul half ends in
      omega (arith, squares, product, mul_assoc 4 (t.b * t.c) t.e, mul_assoc u u t.e)

-- what `plan_third` answers: refusal 14
pub third_ends_refused : (W V₀ A₀ J₀ : ℕ) (outside : Bool) → outside ≡ true → Err 14 ≡ third_within W V₀ A₀ J₀ outside
unfolding third_within
third_ends_refused W V₀ A₀ J₀ outside h = (stop h).is

-- or by the numbers that the searches found, for the jerk as the code reads it
module _ (W V₀ A₀ J₀ : ℕ) (outside : Bool) (inside : outside ≡ false) (t : Intervals)
    {J₁ : ℕ} (found : LaterAgree 4097 W V₀ A₀ J₁ 0 t) (same_jerk : J₁ ≡ J₀)
  where
    g : LaterAgree 4097 W V₀ A₀ J₀ 0 t
    g = subst (λ (j : ℕ). LaterAgree 4097 W V₀ A₀ j 0 t) same_jerk found

    abbrev three : Intervals → ThirdIntervals
    three t = record { b = t.b; c = t.c; e = t.e }

    three_are : three (later_by W V₀ A₀ J₀ 0) ≡ third_intervals_by W V₀ A₀ J₀
    three_are = ap (λ (b : ℕ). record { b = b; c = c W V₀ A₀ J₀ 0 b; e = e W V₀ A₀ J₀ 0 b }) (sym (base_b W V₀ A₀ J₀))

    same_samples : min 4097 (N₃ (three t)) ≡ min 4097 (N₃ (third_intervals_by W V₀ A₀ J₀))
    same_samples = omega (arith, g.samples, g.first, ap N₃ three_are)

    pub third_too_many : most_samples < N₃ (three t) → Err 7 ≡ third_within W V₀ A₀ J₀ outside
    unfolding third_within
    third_too_many h = (skip inside (stop (lt-ltb most_samples (N₃ (third_intervals_by W V₀ A₀ J₀)) (omega (arith, same_samples))))).is

    pub third_found : N₃ (three t) ≤ most_samples → Ok (third_plan_of W (three t)) ≡ third_within W V₀ A₀ J₀ outside
    unfolding third_within
    third_found h =
        ap (λ (t : ThirdIntervals). Ok (third_plan_of W t)) (ap three (g.same (omega (arith, g.first))) ∙ three_are)
        ∙ (skip inside (skip (le-ltb most_samples (N₃ (third_intervals_by W V₀ A₀ J₀)) (omega (arith, same_samples))) none_left)).is
