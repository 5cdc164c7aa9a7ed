-- What demand 3 and the claim on reference rows assume can be met: the rules' own answers meet the promises of the entries, for every move
-- and every table.
use mathlib.Core.List.{List, []}
use mathlib.Core.Path.{◌≡◌, refl, sym, subst, ◌∙◌}
use Prim.Native.Nat.{ℕ, ◌+◌, ◌≤◌, zero-le}
use native.Mathlib.Nat.{le_of_eq, le_refl}
use native.Mathlib.Omega.{arith}
use lib.IntN.{ℤ, pos, ◌+ℤ◌}
use lib.ListN.{length, replicate, length-replicate}
use Rattle.planner.specs.Refusals.{Each, Check}
use Rattle.std.specs.Prelude.{Result, Ok}
use Rattle.planner.specs.Outcome.{distance_of, intervals_of, samples_of, plan_of}
use Rattle.planner.specs.Claims.{EndsInSpan, Accepted, mirrored}
use Rattle.planner.specs.ThirdClaims.{ThirdAccepted}
use Rattle.planner.specs.declared.Move.{Move}
use Rattle.planner.proofs.RefusalLaws.{Passes}
use Rattle.planner.proofs.Acceptance.{accepted_passes, accepted_outcome, third_passes}
use Rattle.planner.proofs.Mirror.{mirror, third_mirror}
use Rattle.planner.proofs.StarredMoves.{first_starred, first_accepted, first_third_accepted}
use Rattle.planner.proofs.StartAdds.{start_adds}
use Rattle.motion.specs.Sampling.{values_of, position_from, Motion, fourth_order, third_order, Samples}
use Rattle.motion.specs.Tables.{rows_from, table_of, table_result, reference_row, Fills, FillsPositions, FillsReference}
use Rattle.motion.specs.Demand3.{Demand3, ThirdDemand3}
use Rattle.motion.specs.ReferenceClaims.{ReferenceRows, ReferenceOf}
use Rattle.motion.specs.StartClaims.{in_fourth}
use Rattle.motion.specs.EndClaims.{fourth_ends, HandOver}
use Rattle.motion.proofs.RoundedValues.{with_rounding}
use Rattle.motion.proofs.FillLaws.{filled_outcome}
use Rattle.motion.proofs.SamplingLaws.{rule_sample, rule_samples_lem}
use Rattle.motion.proofs.Demand3.{rule_at, sampled, demand_3, third_demand_3}
use Rattle.motion.proofs.ReferenceTheorems.{reference_rows}
use Rattle.motion.proofs.HandOver.{end_count, hand_over}

-- the outcome and the table of the rule itself, for any rule of rows
module _ {A : Type 0} (x : Motion) (own : List (Check ℕ)) (rows : ℕ) (row : ℕ → A) (old : List A) where
  abbrev pub rule_result : Result ℕ ℕ
  rule_result = table_result x own rows (length old)

  abbrev pub rule_table : List A
  rule_table = table_of rule_result (rows_from row 0 rows) old

  pub rule_fills : Fills x own rows row old rule_result rule_table
  rule_fills = record { outcome_is = refl; table_is = refl }

-- a table of so many zeros
abbrev zero_table : ℕ → List ℤ
zero_table rows = replicate rows (pos 0)

room_for : (rows : ℕ) → rows ≤ length (zero_table rows)
room_for rows = le_of_eq (sym (length-replicate rows (pos 0)))

module _ (x : Motion) where
  abbrev pub rows : ℕ
  rows = x.samples + 1

  abbrev pub zeros : List ℤ
  zeros = zero_table rows

  abbrev pub rule_positions : Result ℕ ℕ
  rule_positions = rule_result x [] rows (λ k. position_from x.start (x.values k).position) zeros

  abbrev pub positions : List ℤ
  positions = rule_table x [] rows (λ k. position_from x.start (x.values k).position) zeros

  pub positions_fill : FillsPositions x zeros rule_positions positions
  unfolding FillsPositions
  positions_fill = rule_fills x [] rows (λ k. position_from x.start (x.values k).position) zeros

  pub room : rows ≤ length zeros
  room = room_for rows

pub rule_demand_3 : (m : Move) → Accepted m → Demand3 m (rule_sample (fourth_order m)) (positions (fourth_order m))
rule_demand_3 m h =
    let x = fourth_order m in
    demand_3 m h (rule_sample x) (λ k l. rule_samples_lem x k refl) (zeros x) (positions x) _ (room x) (positions_fill x)

pub rule_third_demand_3 : (m : Move) → ThirdAccepted m → ThirdDemand3 m (rule_sample (third_order m)) (positions (third_order m))
rule_third_demand_3 m h =
    let x = third_order m in
    third_demand_3 m h (rule_sample x) (λ k l. rule_samples_lem x k refl) (zeros x) (positions x) _ (room x) (positions_fill x)

-- the rule's own sample is given, for a move that the planner does not refuse
rule_given :
    (x : Motion) (p : Each Passes x.plan_checks) {k : ℕ} → k ≤ x.samples → Samples x k (Ok (rule_at x p k))
rule_given x p {k} l = rule_samples_lem x k (sym (sampled x p l (rule_samples_lem x k refl)))

-- the reference rows of the rule itself, for a move that the planner does not refuse
module _ (x : Motion) where
  abbrev reference_count : ℕ
  reference_count = x.samples + 2

  abbrev own_row : ℕ → ℤ
  own_row = reference_row x.start x.samples x.values

  abbrev pub references : List ℤ
  references = rule_table x [] reference_count own_row (zero_table reference_count)

  abbrev pub RuleReference : Move → Type 0
  RuleReference m = ReferenceRows m.displacement m.start x.samples (λ k. with_rounding x.start (x.values k)) references

  rule_reference : (m : Move) → ReferenceOf m x → Each Passes x.plan_checks → RuleReference m
  unfolding FillsReference
  rule_reference m claim p =
      let fill = rule_fills x [] reference_count own_row (zero_table reference_count) in
      let whole = filled_outcome p (room_for reference_count) tt fill in
      claim _ (λ k l. rule_given x p l) (zero_table reference_count) references reference_count
      (subst (λ o. Fills x [] reference_count own_row (zero_table reference_count) o references) whole fill)

pub rule_reference_rows : (m : Move) → Accepted m → RuleReference (fourth_order m) m
rule_reference_rows m h = rule_reference (fourth_order m) m (reference_rows m).fourth (accepted_passes m h)

pub rule_third_reference_rows : (m : Move) → ThirdAccepted m → RuleReference (third_order m) m
rule_third_reference_rows m h = rule_reference (third_order m) m (reference_rows m).third (third_passes m h)

-- closed instances, forward and backward: the first of document 01's moves, and its mirror
-- the first starred move again, from where it ended
abbrev pub again : Move
again =
    record {
      displacement = first_starred.displacement;
      velocity = first_starred.velocity;
      acceleration = first_starred.acceleration;
      jerk = first_starred.jerk;
      snap = first_starred.snap;
      start = pos 8;
    }

again_in_span : EndsInSpan again
again_in_span = record { start = omega arith; end = omega arith }

pub again_accepted : Accepted again
again_accepted = (start_adds again).fourth.1 (first_accepted, again_in_span)

pub again_third_accepted : ThirdAccepted again
again_third_accepted = (start_adds again).third.1 (first_third_accepted, again_in_span)

-- and that the other way
abbrev back : Move
back = mirrored again

pub demand_3_forward : Demand3 first_starred (rule_sample (fourth_order first_starred)) (positions (fourth_order first_starred))
demand_3_forward = rule_demand_3 first_starred first_accepted

pub demand_3_backward : Demand3 back (rule_sample (fourth_order back)) (positions (fourth_order back))
demand_3_backward = rule_demand_3 back ((mirror again).0 again_accepted)

-- and of the third order
pub third_demand_3_forward : ThirdDemand3 first_starred (rule_sample (third_order first_starred)) (positions (third_order first_starred))
third_demand_3_forward = rule_third_demand_3 first_starred first_third_accepted

pub third_demand_3_backward : ThirdDemand3 back (rule_sample (third_order back)) (positions (third_order back))
third_demand_3_backward = rule_third_demand_3 back ((third_mirror again).0 again_third_accepted)

pub reference_rows_forward : RuleReference (fourth_order first_starred) first_starred
reference_rows_forward = rule_reference_rows first_starred first_accepted

pub reference_rows_backward : RuleReference (fourth_order back) back
reference_rows_backward = rule_reference_rows back ((mirror again).0 again_accepted)

pub third_reference_rows_forward : RuleReference (third_order first_starred) first_starred
third_reference_rows_forward = rule_third_reference_rows first_starred first_third_accepted

pub third_reference_rows_backward : RuleReference (third_order back) back
third_reference_rows_backward = rule_third_reference_rows back ((third_mirror again).0 again_third_accepted)

-- two accepted moves, the next from the count where the first one ended: the rule's own samples meet what `hand_over` assumes
pub rule_hand_over :
    (m next : Move) → Accepted m → Accepted next → next.start ≡ m.start +ℤ m.displacement
    → HandOver m.displacement (plan_of (distance_of m) (intervals_of m)).shortfall
    (with_rounding m.start (values_of m (samples_of m))) (with_rounding next.start (values_of next 0))
rule_hand_over m next h l same =
    let e =
    fourth_ends m _ (record { outcome_is = sym (accepted_outcome m h) }) _
    (rule_given (fourth_order m) (accepted_passes m h) (le_refl (samples_of m))) in
    hand_over m next _ _ _ e (in_fourth next _ (rule_given (fourth_order next) (accepted_passes next l) zero-le))
    (same ∙ sym (end_count m _ _ e).count_is)

-- a closed instance: the first starred move, and again
pub hand_over_again :
    HandOver (pos 8) (plan_of (distance_of first_starred) (intervals_of first_starred)).shortfall
    (with_rounding (pos 0) (values_of first_starred (samples_of first_starred))) (with_rounding (pos 8) (values_of again 0))
hand_over_again = rule_hand_over first_starred again first_accepted again_accepted refl
