-- The claims on exactness of specs/ForceRows/Claims.antt, and that minus zeros change nothing. They rest on the rules (planner), on the laws
-- of the profile (profile) and on the promise of the entry alone.
use mathlib.Core.Bool.{Bool, true, false}
use mathlib.Core.List.{List, [], ◌∷◌}
use mathlib.Core.Path.{◌≡◌, refl, sym, subst, ◌∙◌}
use Prim.Native.Nat.{ℕ, ◌*◌, ◌<◌}
use borrow.Author.Tests.{not-false}
use lib.Dec.{T, lit<}
use lib.IntN.{ℤ, pos, nat_abs}
use lib.Ieee.{Float, fin, up, down, eq}
use lib.Ieee.Positive.{positive, value_pos}
use Rattle.planner.proofs.Acceptance.{passed_accepted}
use Rattle.planner.specs.Quantities.{signed}
use Rattle.std.specs.Prelude.{Result, Ok}
use Rattle.planner.specs.Claims.{Accepted}
use Rattle.planner.specs.declared.Move.{Move}
use Rattle.planner.proofs.PlannedFacts.{rule_facts}
use Rattle.motion.specs.Sampling.{Motion}
use Rattle.motion.specs.ForceRows.Machine.{Machine, plus_zero, as_read, machine_as_read, machine_in_range}
use Rattle.motion.specs.ForceRows.Doubled.{Doubled}
use Rattle.motion.specs.ForceRows.Force.{sum_in_u, q1, q2, q3, q4, weighted_sum}
use Rattle.motion.specs.ForceRows.Claims.{IsWhole, in_wholes, Within53, HalfSumClaim, RigidClaim}
use Rattle.motion.specs.Inner.Rows.{Castable}
use Rattle.motion.specs.Tables.{machine_check, row_numbers, force, Fills, FillsForce}
use Rattle.motion.proofs.EntryLaws.{within_range, numbers_are}
use Rattle.motion.proofs.FillLaws.{filled_passes, filled_own, filled_at}
use Rattle.motion.proofs.AnswerLaws.{one_table_outcome}
use Rattle.motion.proofs.ForceRows.DoubledLaws as doubled
use Rattle.motion.proofs.ForceRows.WholeFloats.{read_whole_machine}
use Rattle.motion.proofs.ForceRows.MachineLaws.{is_in_range, stiffness_positive}
use Rattle.motion.proofs.ForceRows.RoundedLaws.{by_form}
use Rattle.motion.proofs.ForceRows.Exactness.{u_exact, rigid_exact}

pub rows_castable : {m : Move} → Accepted m → (k : ℕ) → Castable (row_numbers m k)
rows_castable {m} h k =
    let f = rule_facts m h in
    let w = within_range f in
    subst (λ (w : ℕ → Doubled ℤ). Castable (w k)) (sym (doubled.numbers_are m.displacement _ _ w) ∙ numbers_are f)
    (doubled.castable m.displacement _ _ w k)

pub u_is_half : HalfSumClaim
unfolding Within53 in_wholes sum_in_u weighted_sum q1 q2 q3 q4
u_is_half m h machine whole is k within =
    u_exact (machine_as_read machine) whole (row_numbers m) k (read_whole_machine is) (rows_castable h k) within

-- a whole number above 0
above_zero : {x : Float} {z : ℤ} → T (positive x) → IsWhole x z → (z ≡ pos (nat_abs z)) × (0 < nat_abs z)
unfolding signed
above_zero p h = by_form (λ x z. T (positive x) → (z ≡ pos (nat_abs z)) × (0 < nat_abs z)) form h p
  where
    form :
        (s : Bool) (m : ℕ) (e : ℤ) (a : ℕ)
        → m * up e * 1 ≡ a * down e
        → T (positive (fin s m e))
        → (signed s a ≡ pos (nat_abs (signed s a))) × (0 < nat_abs (signed s a))
    form false m e a v p = (refl, value_pos (fin false m e) a 1 p (lit< tt) (refl, v))
    form true m e a v p = absurd p

-- what a filled table says of the machine
pub filled_range :
    {x : Motion} (machine : Machine Float) {rows n : ℕ} {row : ℕ → Float} {old new : List Float}
    → Fills x (machine_check machine ∷ []) rows row old (Ok n) new
    → machine_in_range (machine_as_read machine) ≡ true
filled_range machine filled = not-false _ (filled_own filled).0

pub rigid_row : RigidClaim
unfolding FillsForce force Within53 in_wholes sum_in_u weighted_sum q1 q2 q3 q4
rigid_row m machine whole is rigid old new rows filled k l within absent =
    let read = read_whole_machine is in
    let range = is_in_range (machine_as_read machine) (filled_range machine filled) in
    let c = above_zero (stiffness_positive (machine_as_read machine) range) read.c in
    rw (filled_at filled absent k l)
    (rigid_exact (machine_as_read machine) whole (row_numbers m) k read (rows_castable (passed_accepted m (filled_passes filled)) k) within
    rigid c.0 c.1)

abbrev minus_zero : Float
minus_zero = fin true 0 (pos 0)

pub data SameButZero : Float → Float → Type 0 where
  same : (x : Float) → SameButZero x x
  minus : SameButZero minus_zero plus_zero

pub record SameButZeros (m m' : Machine Float) : Type 0 where
  pub m1 : SameButZero m.m1 m'.m1
  pub m2 : SameButZero m.m2 m'.m2
  pub k1 : SameButZero m.k1 m'.k1
  pub k2 : SameButZero m.k2 m'.k2
  pub k12 : SameButZero m.k12 m'.k12
  pub c : SameButZero m.c m'.c

read_alike : {x y : Float} → SameButZero x y → as_read x ≡ as_read y
unfolding as_read eq
read_alike (same x) = refl
read_alike minus = refl

machines_alike : (m m' : Machine Float) → SameButZeros m m' → machine_as_read m ≡ machine_as_read m'
unfolding machine_as_read
machines_alike m m' h = λ i.
    record {
      m1 = read_alike h.m1 i;
      m2 = read_alike h.m2 i;
      k1 = read_alike h.k1 i;
      k2 = read_alike h.k2 i;
      k12 = read_alike h.k12 i;
      c = read_alike h.c i;
    }

-- "Minus zero is read as plus zero": for every move, a machine with minus zeros gives the outcome and the table of the same machine with
-- plus zeros.
pub minus_zeros :
    (m : Move) (machine machine' : Machine Float)
    → SameButZeros machine machine'
    → (old new new' : List Float) (rows rows' : Result ℕ ℕ)
    → FillsForce m machine old rows new
    → FillsForce m machine' old rows' new'
    → (rows ≡ rows') × (new ≡ new')
unfolding FillsForce force
minus_zeros m machine machine' alike old new new' rows rows' h l = one_table_outcome (rw (machines_alike machine machine' alike) at h) l
