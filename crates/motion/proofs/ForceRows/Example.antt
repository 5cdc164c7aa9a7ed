-- The hypotheses of `u_is_half` and `rigid_row` can be met: the first of document 01's moves, with a machine of small whole numbers, in
-- every row.
use mathlib.Core.Bool.{Bool, true, false, not, ◌&&◌}
use mathlib.Core.List.{List, [], ◌∷◌}
use mathlib.Core.Logic.{inl, inr}
use mathlib.Core.Path.{◌≡◌, refl, sym, ap, subst}
use Prim.Native.Nat.{ℕ, zero, suc, ◌+◌, ◌*◌, ◌^◌, ◌<◌}
use native.Mathlib.Nat.{not-suc-le-zero, le_of_suc-le-suc, eq-or-lt_of_le}
use native.Mathlib.Omega.{arith}
use lib.Dec.{T, leb, leb→le, lit≤}
use lib.IntN.{ℤ, pos, nat_abs, ◌+ℤ◌, ◌*ℤ◌}
use lib.Ieee.{Float, fin, up, down, lt, eq, le}
use lib.ListN.{get_or, replicate}
use lib.Ieee.Fits.{and_l, and_r}
use Rattle.planner.specs.Quantities.{units_per_count as G, distance, along, signed}
use Rattle.planner.specs.Intervals.{Intervals, interval_a, interval_b, interval_c, interval_e, a, J₁, b, A₁, c, V₁, e}
use Rattle.planner.specs.Least.{first_from, least}
use Rattle.planner.specs.Refusals.{first_refusal}
use Rattle.std.specs.Prelude.{Result}
use Rattle.planner.specs.Outcome.{intervals_of, samples_of, outcome_of}
use Rattle.planner.specs.Inner.Facts.{PlanFacts}
use Rattle.planner.proofs.Acceptance.{accepted_passes}
use Rattle.planner.proofs.PlannedFacts.{planned_facts}
use Rattle.planner.proofs.StarredMoves.{first_starred}
use Rattle.profile.specs.Profile.{segments, level, switched_in, sum}
use Rattle.profile.specs.Profile as profile
use Rattle.motion.specs.Sampling.{values_at, fourth_order}
use Rattle.motion.specs.ForceRows.Machine.{Machine, plus_zero, as_read, machine_as_read, in_range, machine_in_range}
use Rattle.motion.specs.ForceRows.Doubled.{Doubled, earlier, up_to, doubled}
use Rattle.motion.specs.ForceRows.Force.{wholes, sum_in_u, q1, q2, q3, q4, weighted_sum}
use Rattle.motion.specs.ForceRows.Claims.{IsWhole, IsRounded, IsWholeMachine, Expression, constant, sum_of, product_of, in_wholes, Within53, expression_of_u}
use Rattle.motion.specs.Tables.{machine_check, row_numbers, force, FillsForce}
use Rattle.motion.specs.Inner.Planned.{planned_numbers}
use Rattle.motion.proofs.EntryLaws.{fourth_planned, numbers_are}
use Rattle.motion.proofs.FillLaws.{filled_outcome}
use Rattle.motion.proofs.RuleAnswers.{rule_table, rule_fills}
use Rattle.motion.proofs.ForceRows.Theorems.{rigid_row}

abbrev intervals : Intervals
intervals = record { a = 1; b = 1; c = 2; e = 4 }

plan : PlanFacts first_starred (intervals_of first_starred) (record { a = 1; b = 1; c = 2; e = 4; snap = G; shortfall = 0 })
unfolding outcome_of first_refusal samples_of intervals_of distance a J₁ b A₁ c V₁ e interval_a interval_b interval_c interval_e least first_from
plan = planned_facts (record { outcome_is = refl })

-- m1 = 3, m2 = 2, k1 = 1, k2 = 5, k12 = 0, c = 7, as floats m·2^e and as whole numbers
pub machine : Machine Float
machine =
    record {
      m1 = fin false 3 (pos 0);
      m2 = fin false 1 (pos 1);
      k1 = fin false 1 (pos 0);
      k2 = fin false 5 (pos 0);
      k12 = fin false 0 (pos 0);
      c = fin false 7 (pos 0);
    }

pub whole : Machine ℤ
whole = record { m1 = pos 3; m2 = pos 2; k1 = pos 1; k2 = pos 5; k12 = pos 0; c = pos 7 }

is_whole : IsWholeMachine machine whole
unfolding machine whole signed
is_whole = record { m1 = exactly refl; m2 = exactly refl; k1 = exactly refl; k2 = exactly refl; k12 = exactly refl; c = exactly refl }
  where
    exactly : {m n : ℕ} {e : ℤ} → m * up e * 1 ≡ n * down e → IsWhole (fin false m e) (pos n)
    exactly {n = n} h = record { negative = false; size = n; whole_is = refl; value = (refl, h) }

is_in_range : machine_in_range (machine_as_read machine) ≡ true
unfolding machine machine_as_read machine_in_range as_read in_range le lt eq
is_in_range = refl

-- whether every product and partial sum is at most 2^53 in size, by computation
within : Expression → Bool
within (constant z) = true
within (sum_of s t) = within s && within t && leb (nat_abs (in_wholes s +ℤ in_wholes t)) (2 ^ 53)
within (product_of s t) = within s && within t && leb (nat_abs (in_wholes s *ℤ in_wholes t)) (2 ^ 53)

three : (p q r : Bool) → T (p && q && r) → T p × T q × T r
three true true r h = (tt, tt, h)
three true false r h = absurd h
three false q r h = absurd h

all_within : (t : Expression) → T (within t) → Within53 t
unfolding within Within53
all_within (constant z) h = tt
all_within (sum_of s t) h =
    let parts = three (within s) (within t) (leb (nat_abs (in_wholes s +ℤ in_wholes t)) (2 ^ 53)) h in
    (all_within s parts.0, all_within t parts.1, leb→le _ _ parts.2)
all_within (product_of s t) h =
    let parts = three (within s) (within t) (leb (nat_abs (in_wholes s *ℤ in_wholes t)) (2 ^ 53)) h in
    (all_within s parts.0, all_within t parts.1, leb→le _ _ parts.2)

all_below : (ℕ → Bool) → ℕ → Bool
all_below f zero = true
all_below f (suc n) = all_below f n && f n

-- rows 0 to 9
computed : ℕ → Bool
computed k = within (expression_of_u whole (planned_numbers (pos 8) intervals G k))

rows : T (all_below computed 10)
unfolding all_below computed within machine whole in_wholes sum_in_u weighted_sum q1 q2 q3 q4 doubled earlier up_to
    values_at along profile.snap profile.jerk profile.acceleration profile.velocity sum segments switched_in level
rows = tt

all_below_lem : (f : ℕ → Bool) (n : ℕ) → T (all_below f n) → (k : ℕ) → k < n → T (f k)
unfolding all_below
all_below_lem f zero h k l = absurd (not-suc-le-zero l)
all_below_lem f (suc n) h k l =
    elim (eq-or-lt_of_le l) [
      | inl q ↦ let same : n ≡ k = omega (arith, q) in subst (λ (i : ℕ). T (f i)) same (and_r (all_below f n) (f n) h)
      | inr q ↦ all_below_lem f n (and_l (all_below f n) (f n) h) k (le_of_suc-le-suc q)
    ]

rows_within : (k : ℕ) → k < 10 → Within53 (expression_of_u whole (row_numbers first_starred k))
unfolding computed
rows_within k l =
    subst (λ (w : ℕ → Doubled ℤ). Within53 (expression_of_u whole (w k))) (numbers_are plan)
    (all_within (expression_of_u whole (planned_numbers (pos 8) intervals G k)) (all_below_lem computed 10 rows k l))

-- so every row of their table is the exact half-sum over c, rounded once: here the rule's own table, in ten places
abbrev pub ten : List Float
ten = replicate 10 plus_zero

abbrev pub filled_ten : List Float
filled_ten = rule_table (fourth_order first_starred) (machine_check machine ∷ []) (samples_of first_starred + 2) (force first_starred machine) ten

pub exact_example : (k : ℕ) → k < 10 → IsRounded (get_or filled_ten k plus_zero) (sum_in_u wholes whole (row_numbers first_starred k)) (2 * 7)
unfolding whole FillsForce
exact_example k l =
    let rows : samples_of first_starred + 2 ≡ 10 = sym (ap (λ (n : ℕ). n + 2) (fourth_planned plan).samples_are) in
    let filled = rule_fills (fourth_order first_starred) (machine_check machine ∷ []) (samples_of first_starred + 2) (force first_starred machine) ten in
    let ten-rows = filled_outcome (accepted_passes first_starred plan.accepted) (rw rows (lit≤ tt)) (ap not is_in_range, tt) filled in
    rigid_row first_starred machine whole is_whole refl ten filled_ten (samples_of first_starred + 2)
    (subst (λ (o : Result ℕ ℕ). FillsForce first_starred machine ten o filled_ten) ten-rows filled) k (rw rows l) (rows_within k l) plus_zero
