-- What a refusal of the entries means: claims of specs/Claims.antt. They rest on the promises and on the rules alone.
use mathlib.Core.Bool.{Bool, true, false, not}
use mathlib.Core.List.{List, [], ◌∷◌, ◌++◌}
use mathlib.Core.Logic.Iff
use mathlib.Core.Logic.{inl, inr, ◌↔◌}
use mathlib.Core.Path.{◌≡◌, refl, sym, ap, subst, ◌∙◌}
use Prim.Native.Nat.{ℕ, ◌≤◌, ◌<◌}
use native.Mathlib.Omega.{arith}
use borrow.Author.Tests.{lt-ltb, le-ltb, ltb-true, ltb-false, not-true}
use lib.Dec.{ltb}
use lib.Ieee.{Float}
use lib.IntN.{ℤ}
use lib.ListN.{length}
use Rattle.planner.specs.Refusals.{Each, Check, check, first_refusal}
use Rattle.std.specs.Prelude.{Result, Ok, Err}
use Rattle.planner.specs.Order.{rank, FirstToApply}
use Rattle.planner.specs.Third.{third_intervals_of, third_samples_of, third_checks}
use Rattle.planner.specs.declared.Move.{Move}
use Rattle.planner.proofs.Acceptance.{accepted_passes, third_passes}
use Rattle.planner.proofs.EachLaws.{each_joined}
use Rattle.planner.proofs.OrderLaws.{first_given}
use Rattle.planner.proofs.RefusalLaws.{Passes}
use Rattle.planner.proofs.RuleRefusals.{Has, refusal_has, OtherThanSix, third_checks_other}
use Rattle.motion.specs.Sampling.{third_values_of, third_exact_position_times_p, Motion, fourth_order, third_order, sample_with, Samples}
use Rattle.motion.specs.ForceRows.Machine.{Machine, machine_as_read, machine_in_range}
use Rattle.motion.specs.Tables.{machine_check, rows_from, table_of, table_result, Fills, FillsPositions, FillsReference, FillsForce}
use Rattle.motion.specs.Claims.{Only, only, RefusedBy, ForceReason, AcceptedRefusals, AcceptedRefusalsClaim, UntouchedClaim, OrderClaim, SnapUnreadMotionClaim}
use Rattle.motion.specs.declared.Sample.{Sample}
use Rattle.motion.proofs.EntryLaws.{own_checks}

-- With an accepted move the entry's own checks decide.
by_own :
    {A : Type 0} (xs : List (Check ℕ)) → Each Passes xs
    → (own : List (Check ℕ)) (x : A) {o : Result A ℕ} {Reason : ℕ → Type 0}
    → o ≡ first_refusal (xs ++ own) (Ok x)
    → ((n : ℕ) → FirstToApply n own ↔ Reason n)
    → RefusedBy o Reason
by_own {A} xs h own x is reason n =
    let left = is ∙ own_checks xs h own (Ok x) in
    Iff.trans (λ q. sym left ∙ q, λ q. left ∙ q) (Iff.trans (first_given ℕ A own x n) (reason n))

-- One check, and what its test says.
pub only_reason :
    {R : Type 0} (number : R) (t : Bool) (Where : Type 0) → (t ≡ true → Where) → (Where → t ≡ true)
    → (n : R) → FirstToApply n (check number t ∷ []) ↔ Only number Where n
only_reason {R} number t Where to from n = (
  λ h. elim h [ inl p ↦ subst (Only number Where) p.1 (only (to p.0)) | inr p ↦ absurd p.1 ],
  tested,
)
  where
    tested : {n : R} → Only number Where n → FirstToApply n (check number t ∷ [])
    tested (only w) = inl (from w, refl)

below_reason : (number x y n : ℕ) → FirstToApply n (check number (ltb x y) ∷ []) ↔ Only number (x < y) n
below_reason number x y = only_reason number (ltb x y) (x < y) (ltb-true x y) (lt-ltb x y)

-- 8, and then 10.
module _ (machine : Machine Float) (rows places : ℕ) where
  abbrev range : Bool
  range = machine_in_range (machine_as_read machine)

  abbrev Out : Type 0
  Out = (rows ≤ places) × (range ≡ false)

  ten : rows ≤ places → (n : ℕ) → FirstToApply n (machine_check machine ∷ []) ↔ Only 10 Out n
  ten room = only_reason 10 (not range) Out (λ t. (room, not-true range t)) (λ out. ap not out.1)

  room_of : {n : ℕ} → Only 10 Out n → rows ≤ places
  room_of (only out) = out.0

  force_reason : (n : ℕ) → FirstToApply n (check 8 (ltb places rows) ∷ machine_check machine ∷ []) ↔ ForceReason machine rows places n
  force_reason n = (
    λ h. elim h [
      | inl p ↦ inl ((below_reason 8 places rows n).0 (inl p))
      | inr p ↦ inr ((ten (ltb-false places rows p.0) n).0 p.1)
    ],
    λ h. elim h [
      | inl p ↦ elim ((below_reason 8 places rows n).1 p) [ inl q ↦ inl q | inr q ↦ absurd q.1 ]
      | inr p ↦ inr (le-ltb places rows (room_of p), (ten (room_of p) n).1 p)
    ],
  )

-- A refusal writes nothing, whatever the rows are.
refused_leaves :
    {A : Type 0} {x : Motion} {own : List (Check ℕ)} {rows : ℕ} {row : ℕ → A} {old new : List A} {n : ℕ}
    → Fills x own rows row old (Err n) new
    → new ≡ old
unfolding table_of
refused_leaves {rows} {row} {old} {n} f =
    f.table_is ∙ ap (λ (r : Result ℕ ℕ). table_of r (rows_from row 0 rows) old) (sym f.outcome_is)

module _ (x : Motion) (h : Each Passes x.plan_checks) where
  sample_refusals : (k : ℕ) (o : Result Sample ℕ) → Samples x k o → RefusedBy o (Only 9 (x.samples < k))
  unfolding sample_with
  sample_refusals k o p = by_own x.plan_checks h (check 9 (ltb x.samples k) ∷ []) _ p.outcome_is (below_reason 9 x.samples k)

  -- for positions and for reference rows
  table_refusals :
      {A : Type 0} {rows : ℕ} {row : ℕ → A} {old new : List A} {o : Result ℕ ℕ}
      → Fills x [] rows row old o new
      → RefusedBy o (Only 8 (length old < rows))
  unfolding table_result
  table_refusals {rows} {old} p =
      by_own x.plan_checks h (check 8 (ltb (length old) rows) ∷ []) rows p.outcome_is (below_reason 8 (length old) rows)

  force_refusals :
      (machine : Machine Float) {rows : ℕ} {row : ℕ → Float} {old new : List Float} {o : Result ℕ ℕ}
      → Fills x (machine_check machine ∷ []) rows row old o new
      → RefusedBy o (ForceReason machine rows (length old))
  unfolding table_result
  force_refusals machine {rows} {old} p =
      by_own x.plan_checks h (check 8 (ltb (length old) rows) ∷ machine_check machine ∷ []) rows p.outcome_is
      (force_reason machine rows (length old))

  refusals : AcceptedRefusals x
  unfolding FillsPositions FillsReference
  refusals =
      record {
        sample = sample_refusals;
        positions = λ old new o p. table_refusals p;
        reference = λ old new o p. table_refusals p;
      }

pub accepted_refusals : AcceptedRefusalsClaim
unfolding FillsForce
accepted_refusals =
    record {
      fourth = λ m h. refusals (fourth_order m) (accepted_passes m h);
      force = λ m h machine old new o p. force_refusals (fourth_order m) (accepted_passes m h) machine p;
      third = λ m h. refusals (third_order m) (third_passes m h);
    }

pub untouched : UntouchedClaim
unfolding FillsPositions FillsReference FillsForce
untouched =
    record {
      positions = λ x n old new p. refused_leaves p;
      reference = λ x n old new p. refused_leaves p;
      force = λ m machine n old new p. refused_leaves p;
    }

pub motion_order : (m : Move) → OrderClaim m
unfolding rank
motion_order m =
    record {
      sample = λ k. (refl, omega arith);
      table = λ rows places. (refl, omega arith);
      force = λ machine rows places. (refl, omega arith);
      third_sample = λ k. (refl, omega arith);
      third_table = λ rows places. (refl, omega arith);
    }

-- no check of a third-order entry has the number 6
third_never_six :
    {A : Type 0} (m : Move) (n : ℕ) (t : Bool) (x : A) → OtherThanSix n → Err 6 ≡ first_refusal (third_checks m ++ (check n t ∷ [])) (Ok x) → ⊥
third_never_six m n t x h q =
    let own : List (Check ℕ) = check n t ∷ [] in
    omega (
      arith,
      (refusal_has OtherThanSix (third_checks m ++ own) x (each_joined (Has OtherThanSix) (third_checks m) own (third_checks_other m) (h, tt)) 6 (sym q)).1,
    )

table_never_six : (m : Move) {rows : ℕ} {row : ℕ → ℤ} {old new : List ℤ} → Fills (third_order m) [] rows row old (Err 6) new → ⊥
unfolding table_result
table_never_six m p = third_never_six m 8 _ _ (omega arith) p.outcome_is

pub snap_unread_motion : (m : Move) → SnapUnreadMotionClaim m
unfolding third_samples_of third_intervals_of third_values_of third_exact_position_times_p sample_with FillsPositions FillsReference
snap_unread_motion m =
    record {
      sample = λ S₀ k o p. record { rounding = p.rounding; outcome_is = p.outcome_is };
      positions = λ S₀ old new o p. record { outcome_is = p.outcome_is; table_is = p.table_is };
      reference = λ S₀ old new o p. record { outcome_is = p.outcome_is; table_is = p.table_is };
      sample_never_six = λ k p. third_never_six m 9 _ _ (omega arith) p.outcome_is;
      positions_never_six = λ old new p. table_never_six m p;
      reference_never_six = λ old new p. table_never_six m p;
    }
