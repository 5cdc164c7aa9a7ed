-- What the promises of the entries come to, over any answers that meet them: one answer (`one_motion_answer`); when a call with an accepted
-- move is refused (`accepted_refusals`); that a refusal writes nothing (`untouched`); the order of each entry's checks (`motion_order`);
-- and that the third order does not read S (`snap_unread_motion`).
use Rattle.std.specs.Prelude.{false, List, [], ◌∷◌, ◌⊎◌, ◌↔◌, ◌≡◌, ℕ, ◌+◌, ◌≤◌, ◌<◌, Float, ℤ, length, Result, Err}
use Rattle.planner.specs.Order.{InOrder}
use Rattle.planner.specs.Outcome.{samples_of}
use Rattle.planner.specs.Claims.{Accepted}
use Rattle.planner.specs.ThirdClaims.{ThirdAccepted, with_snap}
use Rattle.planner.specs.declared.Move.{Move}
use Rattle.motion.specs.Sampling.{Motion, fourth_order, third_order, sample_checks, Samples}
use Rattle.motion.specs.ForceRows.Machine.{Machine, machine_as_read, machine_in_range}
use Rattle.motion.specs.Tables.{machine_check, table_checks, FillsPositions, FillsReference, FillsForce}
use Rattle.motion.specs.Answer.{outcome}
use Rattle.motion.specs.declared.Sample.{Sample}
use Rattle.motion.specs.declared.MotionRefusal.{MotionRefusal}

-- What a table's entry promises of the table at entry, the outcome, and the table at exit: one of the three promises below.
abbrev pub TablePromise : Type 0 → Type 1
TablePromise A = (old : List A) (o : Result ℕ ℕ) (new : List A) → Type 0

-- Demand 1: each promise leaves one answer, and one table at exit.
abbrev pub OneFilling : {A : Type 0} → TablePromise A → Type 0
OneFilling {A} Promise =
    (old new new' : List A) (x y : Result ℕ MotionRefusal)
    → Promise old (outcome x) new
    → Promise old (outcome y) new'
    → (x ≡ y) × (new ≡ new')

pub record OneAnswer (x : Motion) : Type 0 where
  pub sample : (k : ℕ) (y z : Result Sample MotionRefusal) → Samples x k (outcome y) → Samples x k (outcome z) → y ≡ z
  pub positions : OneFilling (FillsPositions x)
  pub reference : OneFilling (FillsReference x)

pub record OneAnswerClaim : Type 0 where
  pub either_order : (x : Motion) → OneAnswer x
  pub force : (m : Move) (machine : Machine Float) → OneFilling (FillsForce m machine)

-- This number, where that holds; or of a set this number and place.
pub data Only {R : Type 0} (refusal : R) (Where : Type 0) : R → Type 0 where
  only : Where → Only refusal Where refusal

-- Refused with a number exactly where there is this reason for it, and with no other.
abbrev pub RefusedBy : {R A : Type 0} → Result A R → (Reason : R → Type 0) → Type 0
RefusedBy {R} o Reason = (n : R) → (o ≡ Err n) ↔ Reason n

-- The reasons of a table with so many places: 8 for fewer than there are rows, and for forces else 10 for the machine.
abbrev pub TableReason : (rows places : ℕ) → ℕ → Type 0
TableReason rows places = Only 8 (places < rows)

abbrev pub ForceReason : Machine Float → (rows places : ℕ) → ℕ → Type 0
ForceReason machine rows places n =
    TableReason rows places n ⊎ Only 10 ((rows ≤ places) × (machine_in_range (machine_as_read machine) ≡ false)) n

abbrev pub TableRefusals : {A : Type 0} → TablePromise A → (Reason : (places : ℕ) → ℕ → Type 0) → Type 0
TableRefusals {A} Promise Reason = (old new : List A) (o : Result ℕ ℕ) → Promise old o new → RefusedBy o (Reason (length old))

-- Demand 2: "A call with an accepted move may still be refused, but only for the rest of what it sends."
pub record AcceptedRefusals (x : Motion) : Type 0 where
  pub sample : (k : ℕ) (o : Result Sample ℕ) → Samples x k o → RefusedBy o (Only 9 (x.samples < k))
  pub positions : TableRefusals (FillsPositions x) (TableReason (x.samples + 1))
  pub reference : TableRefusals (FillsReference x) (TableReason (x.samples + 2))

pub record AcceptedRefusalsClaim : Type 0 where
  pub fourth : (m : Move) → Accepted m → AcceptedRefusals (fourth_order m)
  pub force : (m : Move) → Accepted m → (machine : Machine Float) → TableRefusals (FillsForce m machine) (ForceReason machine (samples_of m + 2))
  pub third : (m : Move) → ThirdAccepted m → AcceptedRefusals (third_order m)

-- Demand 1: "A refusal writes no place of any lent table": the table at exit is the table at entry.
abbrev pub Untouched : {A : Type 0} → TablePromise A → Type 0
Untouched {A} Promise = (n : ℕ) (old new : List A) → Promise old (Err n) new → new ≡ old

pub record UntouchedClaim : Type 0 where
  pub positions : (x : Motion) → Untouched (FillsPositions x)
  pub reference : (x : Motion) → Untouched (FillsReference x)
  pub force : (m : Move) (machine : Machine Float) → Untouched (FillsForce m machine)

-- "Where several apply, the lowest number is given": the checks of the entries in their order, which rises (`lowest_given`).
pub record OrderClaim (m : Move) : Type 0 where
  pub sample : (k : ℕ) → InOrder (sample_checks (fourth_order m) k) (1 ∷ 2 ∷ 3 ∷ 4 ∷ 5 ∷ 6 ∷ 14 ∷ 7 ∷ 9 ∷ [])
  pub table : (rows places : ℕ) → InOrder (table_checks (fourth_order m) [] rows places) (1 ∷ 2 ∷ 3 ∷ 4 ∷ 5 ∷ 6 ∷ 14 ∷ 7 ∷ 8 ∷ [])
  pub force :
      (machine : Machine Float) (rows places : ℕ)
      → InOrder (table_checks (fourth_order m) (machine_check machine ∷ []) rows places) (1 ∷ 2 ∷ 3 ∷ 4 ∷ 5 ∷ 6 ∷ 14 ∷ 7 ∷ 8 ∷ 10 ∷ [])
  -- 6 is never given in the third order.
  pub third_sample : (k : ℕ) → InOrder (sample_checks (third_order m) k) (1 ∷ 2 ∷ 3 ∷ 4 ∷ 5 ∷ 14 ∷ 7 ∷ 9 ∷ [])
  pub third_table : (rows places : ℕ) → InOrder (table_checks (third_order m) [] rows places) (1 ∷ 2 ∷ 3 ∷ 4 ∷ 5 ∷ 14 ∷ 7 ∷ 8 ∷ [])

-- Document 02, 3, "S is not read, so refusal 6 is never given there": what the entries promise of a move in the third order they promise of
-- it with every S, whichever it is.
pub record SnapUnreadMotionClaim (m : Move) : Type 0 where
  pub sample : (S₀ k : ℕ) (o : Result Sample ℕ) → Samples (third_order m) k o → Samples (third_order (with_snap S₀ m)) k o
  pub positions :
      (S₀ : ℕ) (old new : List ℤ) (o : Result ℕ ℕ)
      → FillsPositions (third_order m) old o new → FillsPositions (third_order (with_snap S₀ m)) old o new
  pub reference :
      (S₀ : ℕ) (old new : List ℤ) (o : Result ℕ ℕ)
      → FillsReference (third_order m) old o new → FillsReference (third_order (with_snap S₀ m)) old o new
  pub sample_never_six : (k : ℕ) → Samples (third_order m) k (Err 6) → ⊥
  pub positions_never_six : (old new : List ℤ) → FillsPositions (third_order m) old (Err 6) new → ⊥
  pub reference_never_six : (old new : List ℤ) → FillsReference (third_order m) old (Err 6) new → ⊥
