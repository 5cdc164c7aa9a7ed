-- An axis at rest: to stay at the start keeps every line of demand 3, with the exact profile as it stands.
use mathlib.Core.Path.{◌≡◌, refl, sym, ap, subst, ◌∙◌}
use Prim.Native.Nat.{ℕ, zero, suc}
use native.Mathlib.Nat.{not-suc-le-zero}
use native.Mathlib.Omega.{arith}
use lib.Dec.{ltb→lt}
use lib.IntN.{ℤ, pos, negsuc, nat_abs, ◌+ℤ◌, +ℤ_idr}
use lib.Signed.{◌<ℤ◌}
use Rattle.planner.specs.AxesClaims.{Resting}
use Rattle.planner.specs.declared.Move.{Move}
use Rattle.motion.specs.Sampling.{units_of}
use Rattle.motion.specs.Demand3.{KeptSnap, Kept}
use Rattle.motion.specs.Axes.{rest_sample}
use Rattle.motion.proofs.IntegerLaws.{not_below_zero}

zero_displacement : (X : ℤ) → nat_abs X ≡ 0 → pos 0 ≡ X
zero_displacement (pos zero) h = refl
zero_displacement (pos (suc n)) h = absurd (omega arith)
zero_displacement (negsuc n) h = absurd (omega arith)

not_below_itself : pos 0 <ℤ pos 0 → ⊥
not_below_itself l = not-suc-le-zero (ltb→lt 0 0 l.lt)

module _ (m : Move) (h : Resting m) (n : ℕ) where
  pub rest_kept_snap : KeptSnap m n (λ k. rest_sample m.start)
  rest_kept_snap = record { jerk_rest = refl; jerk_sum = λ k l. refl; snap_bound = λ k l. omega arith }

  pub rest_kept : (P : ℕ) → Kept m n P (λ k. pos 0) (λ k. rest_sample m.start)
  rest_kept P =
      let zero = zero_displacement m.displacement h in
      let ahead : pos 0 <ℤ m.displacement → ⊥ = λ s. not_below_itself (subst (λ (x : ℤ). pos 0 <ℤ x) (sym zero) s) in
      let back : m.displacement <ℤ pos 0 → ⊥ = λ s. not_below_itself (subst (λ (x : ℤ). x <ℤ pos 0) (sym zero) s) in
      record {
        acceleration_rest = refl;
        velocity_rest = refl;
        position_rest = refl;
        acceleration_sum = λ k l. refl;
        velocity_sum = λ k l. refl;
        position_sum = λ k l. sym (+ℤ_idr (units_of m.start));
        jerk_bound = λ k l. omega arith;
        acceleration_bound = λ k l. omega arith;
        velocity_bound = λ k l. omega arith;
        forward = λ s k l. not_below_zero 0;
        backward = λ s k l. not_below_zero 0;
        half_count =
            record {
              never_past = λ s k l. absurd (ahead s);
              below_half = λ s k l. absurd (ahead s);
              never_past_back = λ s k l. absurd (back s);
              below_half_back = λ s k l. absurd (back s);
            };
        jerk_end = refl;
        acceleration_end = refl;
        velocity_end = refl;
        count_end = sym (+ℤ_idr m.start) ∙ ap (λ (x : ℤ). m.start +ℤ x) zero;
      }
