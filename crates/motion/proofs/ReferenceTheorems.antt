-- What the reference rows come to: `reference_rows` proves the claim of specs/ReferenceClaims.antt, from the lines of demand 3.
use mathlib.Core.Path.{◌≡◌, refl, sym, ap, ap₂, subst, ◌∙◌}
use Prim.Native.Nat.{ℕ, zero, suc, ◌+◌, ◌-◌, ◌≤◌, ◌<◌, min}
use native.Mathlib.Decide.{dec_le}
use native.Mathlib.Nat.{le_refl, not-suc-le-zero}
use native.Mathlib.Numerals.{add-one}
use native.Mathlib.Omega.{arith}
use lib.IntN.{ℤ, pos, neg_ℤ, ◌+ℤ◌, ◌-ℤ◌, ◌*ℤ◌, +ℤ_assoc, +ℤ_idr, +ℤ-neg_ℤ_cancel}
use lib.ListN.{get_or}
use lib.Signed.{◌≤ℤ◌, ◌<ℤ◌, ≤ℤ_refl}
use Rattle.planner.specs.Refusals.{Each}
use Rattle.planner.specs.declared.Move.{Move}
use Rattle.planner.proofs.RefusalLaws.{Passes}
use Rattle.planner.proofs.ResultLaws.{same_given}
use Rattle.planner.proofs.Acceptance.{passed_accepted, third_passed}
use Rattle.motion.specs.Sampling.{units_of, Motion}
use Rattle.motion.specs.Tables.{held_position, reference_row, FillsReference}
use Rattle.motion.specs.ForceRows.Doubled.{earlier}
use Rattle.motion.specs.Demand3.{Kept}
use Rattle.motion.specs.ReferenceClaims.{ReferenceOf, ReferenceClaim}
use Rattle.motion.specs.declared.Sample.{Sample}
use Rattle.motion.proofs.IntegerLaws.{exchanged, doubled_sum}
use Rattle.motion.proofs.FillLaws.{filled_passes, filled_places, filled_room, filled_rows, filled_at}
use Rattle.motion.proofs.GrowthLaws.{grows, shrinks}
use Rattle.motion.proofs.RoundedValues.{with_rounding}
use Rattle.motion.proofs.Demand3.{sampled, fourth_kept, third_kept}

-- values that keep the lines of demand 3, and their positions held
module _ {m : Move} {N P : ℕ} {E : ℕ → ℤ} {at : ℕ → Sample} (kept : Kept m N P E at) where
  abbrev velocity : ℕ → ℤ
  velocity k = (at k).velocity

  abbrev held : ℕ → ℤ
  held k = (at (min k N)).position

  -- "Position before sample 0 is then the start's"
  before : ℕ → ℤ
  before zero = units_of m.start
  before (suc k) = held k

  row : ℕ → ℤ
  row k = held k +ℤ before k

  next : (k : ℕ) → Dec (k < N) → k ≤ N → held (suc k) ≡ held k +ℤ velocity k
  next k (yes h) l =
      let here : min k N ≡ k = omega arith in
      let there : min (suc k) N ≡ k + 1 = omega arith in
      ap (λ (i : ℕ). (at i).position) there ∙ kept.position_sum k h
      ∙ ap (λ (i : ℕ). (at i).position +ℤ velocity k) (sym here)
  next k (no h) l =
      let last : k ≡ N = omega arith in
      let same : min (suc k) N ≡ min k N = omega arith in
      ap (λ (i : ℕ). (at i).position) same ∙ sym (+ℤ_idr (held k))
      ∙ ap (λ (v : ℤ). held k +ℤ v) (sym (ap velocity last ∙ kept.velocity_end))

  held_next : (k : ℕ) → k ≤ N → held (suc k) ≡ held k +ℤ velocity k
  held_next k l = next k (dec_le (suc k) N) l

  -- it is what it was, and the velocity there
  held_earlier : (k : ℕ) → k ≤ N → held k ≡ before k +ℤ earlier velocity 1 k
  unfolding earlier before
  held_earlier zero l = ap (λ (i : ℕ). (at i).position) (omega arith) ∙ kept.position_rest ∙ sym (+ℤ_idr (units_of m.start))
  held_earlier (suc k) l = held_next k (omega arith)

  -- a row is the row before it, and two velocities
  row_next : (k : ℕ) → k ≤ N → row (k + 1) ≡ row k +ℤ (velocity k +ℤ earlier velocity 1 k)
  unfolding row before
  row_next k l =
      ap row (add-one k) ∙ ap₂ (λ (x y : ℤ). x +ℤ y) (held_next k l) (held_earlier k l)
      ∙ exchanged (held k) (velocity k) (before k) (earlier velocity 1 k)

  first : row 0 ≡ pos 2 *ℤ units_of m.start
  unfolding row before
  first =
      ap (λ (i : ℕ). (at i).position +ℤ units_of m.start) (omega arith)
      ∙ ap (λ (x : ℤ). x +ℤ units_of m.start) kept.position_rest ∙ sym (doubled_sum (units_of m.start))

  between : (k : ℕ) → 1 ≤ k → k ≤ N → row k ≡ pos 2 *ℤ (at k).position -ℤ velocity (k - 1)
  unfolding row before
  between zero s l = absurd (not-suc-le-zero s)
  between (suc k) s l =
      let here : min (suc k) N ≡ suc k = omega arith in
      let one : k ≡ suc k - 1 = omega arith in
      let earlier_held : held k ≡ held (suc k) -ℤ velocity k =
      sym (ap (λ (x : ℤ). x -ℤ velocity k) (held_next k (omega arith)) ∙ +ℤ-neg_ℤ_cancel (held k) (velocity k)) in
      ap (λ (x : ℤ). held (suc k) +ℤ x) earlier_held
      ∙ sym (+ℤ_assoc (held (suc k)) (held (suc k)) (neg_ℤ (velocity k)))
      ∙ ap (λ (x : ℤ). x -ℤ velocity k) (sym (doubled_sum (held (suc k))))
      ∙ ap₂ (λ (i j : ℕ). pos 2 *ℤ (at i).position -ℤ velocity j) here one

  last : row (N + 1) ≡ pos 2 *ℤ (at N).position
  unfolding row before
  last =
      let here : min N N ≡ N = omega arith in
      let after : min (suc N) N ≡ N = omega arith in
      ap row (add-one N) ∙ ap₂ (λ (i j : ℕ). (at i).position +ℤ (at j).position) after here ∙ sym (doubled_sum (at N).position)

  -- what holds of 0 and of all velocities holds of the one before
  velocity_before : (Q : ℤ → Type 0) → Q (pos 0) → ((k : ℕ) → k ≤ N → Q (velocity k)) → (k : ℕ) → k ≤ N → Q (earlier velocity 1 k)
  unfolding earlier
  velocity_before Q z h zero l = z
  velocity_before Q z h (suc k) l = h k (omega arith)

  rises : pos 0 <ℤ m.displacement → (k : ℕ) → k ≤ N → row k ≤ℤ row (k + 1)
  rises s k l =
      subst (λ (x : ℤ). row k ≤ℤ x) (sym (row_next k l))
      (grows (row k) (velocity k) (earlier velocity 1 k) (kept.forward s k l)
      (velocity_before (λ (v : ℤ). pos 0 ≤ℤ v) (≤ℤ_refl (pos 0)) (kept.forward s) k l))

  falls : m.displacement <ℤ pos 0 → (k : ℕ) → k ≤ N → row (k + 1) ≤ℤ row k
  falls s k l =
      subst (λ (x : ℤ). x ≤ℤ row k) (sym (row_next k l))
      (shrinks (row k) (velocity k) (earlier velocity 1 k) (kept.backward s k l)
      (velocity_before (λ (v : ℤ). v ≤ℤ pos 0) (≤ℤ_refl (pos 0)) (kept.backward s) k l))

-- the row of the rule is that of its own values
rule_row :
    {m : Move} (x : Motion) (kept : Kept m x.samples x.product x.exact (λ k. with_rounding x.start (x.values k)))
    → x.start ≡ m.start
    → (k : ℕ) → reference_row x.start x.samples x.values k ≡ row kept k
unfolding reference_row held_position earlier row before
rule_row x kept same zero =
    ap (λ (y : ℤ). held kept 0 +ℤ y) (+ℤ_idr (units_of x.start) ∙ ap units_of same)
rule_row x kept same (suc k) = refl

-- what the entries give, where the rule's own values keep the lines
reference_of :
    {m : Move} {x : Motion}
    → x.start ≡ m.start
    → (Each Passes x.plan_checks → Kept m x.samples x.product x.exact (λ k. with_rounding x.start (x.values k)))
    → ReferenceOf m x
unfolding FillsReference
reference_of {m} {x} start_is lines at promised old new rows filled =
    let N = x.samples in
    let p = filled_passes filled in
    let kept = lines p in
    let row : (k : ℕ) → k ≤ N + 1 → get_or new k (pos 0) ≡ row kept k =
    λ k l. filled_at filled (pos 0) k (omega (arith, filled_rows filled)) ∙ rule_row x kept start_is k in
    let same : (k : ℕ) → k ≤ N → at k ≡ with_rounding x.start (x.values k) = λ k l. same_given (sampled x p l (promised k l)) in
    record {
      places = omega (arith, filled_places p (filled_room filled) tt filled);
      row_is = λ k some l.
          row k (omega arith) ∙ between kept k some l
          ∙ ap₂ (λ (s t : Sample). pos 2 *ℤ s.position -ℤ t.velocity) (sym (same k l)) (sym (same (k - 1) (omega arith)));
      row_first = row 0 (omega arith) ∙ first kept;
      row_last = row (N + 1) (omega arith) ∙ last kept ∙ ap (λ (s : Sample). pos 2 *ℤ s.position) (sym (same N (le_refl N)));
      never_falls = λ s k l. rw (row k (omega arith), row (k + 1) (omega arith)) (rises kept s k l);
      never_rises = λ s k l. rw (row k (omega arith), row (k + 1) (omega arith)) (falls kept s k l);
    }

pub reference_rows : (m : Move) → ReferenceClaim m
reference_rows m =
    record {
      fourth = reference_of refl (λ p. fourth_kept m (passed_accepted m p));
      third = reference_of refl (λ p. third_kept m (third_passed m p));
    }
