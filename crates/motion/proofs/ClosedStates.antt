-- The sums by the closed form, as the code has them, over any list of widths, each at least the sum of those inside it: none leaves its
-- range, and each is that from rest. The n-th sum has n - 1 of the widths inside; that D·P fits is all that is asked of their size.
use mathlib.Core.List.{List, [], ◌∷◌, ◌++◌}
use mathlib.Core.Path.{◌≡◌, sym, ap, subst, ◌∙◌}
use Prim.Native.Nat.{ℕ, suc, ◌-◌, ◌*◌, ◌/◌, ◌^◌, ◌≤◌}
use native.Mathlib.Nat.{le_trans, div-le_self}
use native.Mathlib.Omega.{arith}
use mir.Syntax.{w64}
use mir.Val.{to_z, of_z, SFits}
use mir.Facts.{to_z-of_z}
use lib.IntN.{ℤ, pos, negsuc, neg_ℤ, nat_abs, ◌*ℤ◌}
use lib.ListN.{length, take, drop}
use lib.Signed.{quot_z}
use Rattle.std.proofs.lemmas.List.{length-drop, take-append-drop}
use Rattle.planner.specs.Outcome.{most_samples}
use Rattle.planner.proofs.Sign.{size_negated}
use Rattle.profile.specs.Profile.{switched_in}
use Rattle.profile.specs.Inner.Repeated.{sums}
use Rattle.profile.specs.Inner.Widths.{product, Spread, switched, switched_by}
use Rattle.profile.specs.Inner.ClosedForm.{falling, factorial, differences}
use Rattle.profile.proofs.WidthLaws.{sum_size}
use Rattle.profile.proofs.SumSizes.{inner_most}
use Rattle.profile.proofs.ClosedForm.{factorial_positive}
use Rattle.profile.proofs.SignedForm.{forward, backward, signed_form}
use Rattle.motion.specs.Inner.ClosedForm.{products_over, ScaledFits}
use Rattle.motion.specs.declared.closed_form.Products.{Products}
use Rattle.motion.proofs.IntegerLaws.{small_fits, pos_below}
use Rattle.motion.proofs.FallingFactorials.{bound, differences_bound}

quotient_size : (m : ℕ) (x : ℤ) → nat_abs (quot_z x (pos m)) ≤ nat_abs x
quotient_size m (pos n) = div-le_self n m
quotient_size m (negsuc n) = rw (size_negated (pos (suc n / m))) (div-le_self (suc n) m)

sums_size :
    (a : ℕ) (ws : List ℕ)
    → Spread a ws
    → (n k : ℕ) (level : ℤ)
    → nat_abs (sums n (switched_by a ws level (neg_ℤ level)) k) ≡ nat_abs (sums n (switched_in (switched a ws) (nat_abs level)) k)
sums_size a ws s n k (pos D) = ap nat_abs (forward a ws s n k D)
sums_size a ws s n k (negsuc d) = ap nat_abs (backward a ws s n k d) ∙ size_negated (sums n (switched_in (switched a ws) (suc d)) k)

-- What is known of the intervals, the signed D and the sample.
pub record Sampled (a : ℕ) (ws : List ℕ) (level : ℤ) (k : ℕ) : Type 0 where
  pub one : 1 ≤ a
  pub spread : Spread a ws
  pub reach : nat_abs level * product a ws ≤ 2 ^ 60
  pub room : bound (ws ++ (a ∷ [])) ≤ 2 ^ 60
  pub sample : k ≤ most_samples
  pub level_fits : SFits w64 level

abbrev pub read : ℤ → ℤ
read x = to_z w64 (of_z w64 x)

-- `scaled` may be asked for the product x and the factorial m, and gives the value.
pub record Scales (level x : ℤ) (m : ℕ) (value : ℤ) : Type 0 where
  pub fits : ScaledFits (read level) (read x) (pos m)
  pub is : (r : ℤ) → r ≡ read level *ℤ quot_z (read x) (pos m) → read r ≡ value

module _ (a : ℕ) (outer inner : List ℕ) (level : ℤ) (k : ℕ) (h : Sampled a (outer ++ inner) level k) where
  abbrev order : ℕ
  order = suc (length inner)

  abbrev value : ℤ
  value = sums order (switched_by a (outer ++ inner) level (neg_ℤ level)) k

  abbrev product_over : ℤ
  product_over = differences ((outer ++ inner) ++ (a ∷ [])) (falling order) k

  abbrev unit : ℤ
  unit = quot_z product_over (pos (factorial order))

  value_fits : SFits w64 value
  value_fits =
      small_fits value
      (rw (sums_size a (outer ++ inner) h.spread order k level)
      (inner_most a (nat_abs level) h.one (2 ^ 60) _ outer inner h.spread h.reach
      (sum_size a outer inner h.spread (nat_abs level) k)))

  value_is : value ≡ level *ℤ unit
  value_is = signed_form a (outer ++ inner) h.spread (length inner) k level

  module _ (degree : order ≤ 4) (x : ℤ) (is : x ≡ product_over) where
    product_small : nat_abs product_over ≤ 2 ^ 60
    product_small = le_trans (differences_bound ((outer ++ inner) ++ (a ∷ [])) order degree k h.sample) h.room

    passed_product : read x ≡ product_over
    passed_product = rw is (to_z-of_z (small_fits product_over product_small))

    scaled_fits : ScaledFits level product_over (pos (factorial order))
    scaled_fits =
        record {
          divides = pos_below 0 (factorial order) (factorial_positive order);
          unit = small_fits unit (le_trans (quotient_size (factorial order) product_over) product_small);
          result = subst (SFits w64) value_is value_fits;
        }

    scaled_is : (r : ℤ) → r ≡ read level *ℤ quot_z (read x) (pos (factorial order)) → read r ≡ value
    scaled_is r e =
        let is_value : r ≡ value = (rw (to_z-of_z h.level_fits, passed_product) at e) ∙ sym value_is in
        rw is_value (to_z-of_z value_fits)

    pub scales : Scales level x (factorial order) value
    scales = record { fits = rw (to_z-of_z h.level_fits, passed_product) scaled_fits; is = scaled_is }

-- The same for the sum with n of the widths ws inside, by how many they are.
module _ (a : ℕ) (level : ℤ) (k : ℕ) where
  abbrev ScalesAt : List ℕ → ℕ → Type 0
  ScalesAt ws n =
      Sampled a ws level k → suc n ≤ 4 → (x : ℤ) → x ≡ differences (ws ++ (a ∷ [])) (falling (suc n)) k
      → Scales level x (factorial (suc n)) (sums (suc n) (switched_by a ws level (neg_ℤ level)) k)

  scales_at : (ws : List ℕ) (n : ℕ) → n ≤ length ws → ScalesAt ws n
  scales_at ws n l =
      let i = length ws - n in
      let inside : length (drop i ws) ≡ n = omega (arith, length-drop i ws) in
      subst (λ ws. ScalesAt ws n) (take-append-drop i ws)
      (subst (ScalesAt (take i ws ++ drop i ws)) inside (λ h. scales a (take i ws) (drop i ws) level k h))

-- The sums that the products found are for.
module _
    {a : ℕ} {ws : List ℕ} {level : ℤ} {k : ℕ} (h : Sampled a ws level k)
    {found : Products} (is : found ≡ products_over (ws ++ (a ∷ [])) k) where
  abbrev state_sum : ℕ → ℤ
  state_sum n = sums n (switched_by a ws level (neg_ℤ level)) k

  pub three_sums_scale :
      2 ≤ length ws
      → Scales level found.first 1 (state_sum 1) × Scales level found.second 2 (state_sum 2) × Scales level found.third 6 (state_sum 3)
  unfolding factorial
  three_sums_scale l = (
    scales_at a level k ws 0 (omega arith) h (omega arith) _ (ap (λ (p : Products). p.first) is),
    scales_at a level k ws 1 (omega arith) h (omega arith) _ (ap (λ (p : Products). p.second) is),
    scales_at a level k ws 2 l h (omega arith) _ (ap (λ (p : Products). p.third) is),
  )

  pub fourth_sum_scales : 3 ≤ length ws → Scales level found.fourth 24 (state_sum 4)
  unfolding factorial
  fourth_sum_scales l = scales_at a level k ws 3 l h (omega arith) _ (ap (λ (p : Products). p.fourth) is)
