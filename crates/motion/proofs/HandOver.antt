-- The last sample has the count asked for, and the samples of two moves join where the next one starts at that count.
use mathlib.Core.Path.{◌≡◌, sym, ap, subst, ◌∙◌}
use Prim.Native.Nat.{ℕ}
use lib.IntN.{ℤ, pos, neg_ℤ, ◌+ℤ◌, ◌-ℤ◌, +ℤ_idl, +ℤ_invr, neg_ℤ-neg_ℤ, -ℤ-+ℤ_cancel}
use Rattle.planner.specs.Quantities.{along}
use Rattle.planner.specs.Refusals.{Each}
use Rattle.std.specs.Prelude.{Ok}
use Rattle.planner.specs.Claims.{InSpan}
use Rattle.planner.specs.AxesClaims.{axis_at}
use Rattle.planner.specs.declared.Move.{Move}
use Rattle.planner.proofs.Acceptance.{passed_accepted, third_passed}
use Rattle.planner.proofs.AxisLaws.{axis_ends_in_span}
use Rattle.planner.proofs.AxesAcceptance.{planned_common}
use Rattle.planner.proofs.RefusalLaws.{Passes}
use Rattle.motion.specs.Sampling.{units_of, RoundsTo, Rounding, Motion, fourth_order, third_order, Samples}
use Rattle.motion.specs.Demand3.{Kept}
use Rattle.motion.specs.StartClaims.{SampledAt, in_fourth, in_third, in_set, RoundedFrom}
use Rattle.motion.specs.EndClaims.{EndsAt, fourth_ends, third_ends, axis_ends, EndCountClaim, HandOverClaim}
use Rattle.motion.specs.declared.Sample.{Sample}
use Rattle.motion.proofs.IntegerLaws.{distance_from}
use Rattle.motion.proofs.CountLaws.{no_distance, one_rounding}
use Rattle.motion.proofs.RoundedValues.{with_rounding}
use Rattle.motion.proofs.AxisSampling.{axis_row}
use Rattle.motion.proofs.Demand3.{fourth_kept, third_kept}
use Rattle.motion.proofs.EndRemainder.{end_remainder}
use Rattle.motion.proofs.GivenSamples.{move_passed, rule_sample_lem, common, rule_row, row_accepted, row_kept}
use Rattle.motion.proofs.RoundedFromStart.{rounded_from_start}

-- the lines of demand 3 that a motion of the move keeps once it passed
abbrev Lines : Move → Motion → Type 0
Lines m x = Each Passes x.plan_checks → Kept m x.samples x.product x.exact (λ k. with_rounding x.start (x.values k))

fourth_lines : (m : Move) → Lines m (fourth_order m)
fourth_lines m p = fourth_kept m (passed_accepted m p)

third_lines : (m : Move) → Lines m (third_order m)
third_lines m p = third_kept m (third_passed m p)

-- the first sample stands at the start
first_in : {m : Move} (x : Motion) → Lines m x → {s : Sample} → Samples x 0 (Ok s) → s.position ≡ units_of m.start
first_in x lines h = ap (λ (s : Sample). s.position) (rule_sample_lem x h) ∙ (lines (move_passed x h)).position_rest

first_position : {m : Move} {s : Sample} → SampledAt 0 m s → s.position ≡ units_of m.start
first_position (in_fourth m s h) = first_in (fourth_order m) (fourth_lines m) h
first_position (in_third m s h) = first_in (third_order m) (third_lines m) h
first_position (in_set count moves sent samples h i c) =
    ap (λ (s : Sample). s.position) (rule_row sent h c) ∙ (row_kept sent h c).kept.position_rest

-- so it has the start's count
at_start : {start : ℤ} {s : Sample} → RoundedFrom start s → s.position ≡ units_of start → s.count ≡ start
unfolding no_distance
at_start {start} {s} r place =
    let none : s.position -ℤ units_of start ≡ pos 0 = ap (λ (y : ℤ). y -ℤ units_of start) place ∙ +ℤ_invr (units_of start) in
    let way : Rounding (pos 0) =
    record {
      count = s.count -ℤ start;
      remainder = s.remainder;
      rounded = subst (λ (y : ℤ). RoundsTo y (s.count -ℤ start) s.remainder) none r.rounded;
    } in
    sym (-ℤ-+ℤ_cancel s.count start) ∙ ap (λ (c : ℤ). c +ℤ start) (one_rounding way no_distance).0 ∙ +ℤ_idl start

-- the last sample: a sample, with its count and its remainder
ends_sampled : {m : Move} {shortfall : ℕ} {last : Sample} → EndsAt m shortfall last → RoundedFrom m.start last
ends_sampled (fourth_ends m plan p last h) = rounded_from_start _ m last (in_fourth m last h)
ends_sampled (third_ends m plan p last h) = rounded_from_start _ m last (in_third m last h)
ends_sampled (axis_ends count moves sent N plans p samples h i c) = rounded_from_start _ _ _ (in_set count moves sent samples h i c)

last_in :
    {m : Move} (x : Motion) → Lines m x → {s : Sample} → Samples x x.samples (Ok s) → s.count ≡ m.start +ℤ m.displacement
last_in x lines h = ap (λ (s : Sample). s.count) (rule_sample_lem x h) ∙ (lines (move_passed x h)).count_end

end_counted : {m : Move} {shortfall : ℕ} {last : Sample} → EndsAt m shortfall last → last.count ≡ m.start +ℤ m.displacement
end_counted (fourth_ends m plan p last h) = last_in (fourth_order m) (fourth_lines m) h
end_counted (third_ends m plan p last h) = last_in (third_order m) (third_lines m) h
end_counted (axis_ends count moves sent N plans p samples h i c) =
    ap (λ (s : Sample). s.count)
    (rule_row sent h c ∙ ap (λ (k : ℕ). axis_row (common sent h c) (axis_at moves i) k) (planned_common count moves p))
    ∙ (row_kept sent h c).kept.count_end

-- its count is in the span
last_in_span : {m : Move} {shortfall : ℕ} {last : Sample} → EndsAt m shortfall last → InSpan (m.start +ℤ m.displacement)
last_in_span (fourth_ends m plan p last h) = (passed_accepted m (move_passed (fourth_order m) h)).is_in_range.ends.end
last_in_span (third_ends m plan p last h) = (third_passed m (move_passed (third_order m) h)).is_in_range.ends.end
last_in_span (axis_ends count moves sent N plans p samples h i c) = (axis_ends_in_span _ (row_accepted sent h c)).end

-- a position p that lacks a of u
filled_up : (u p a : ℤ) → neg_ℤ a ≡ p -ℤ u → u ≡ p +ℤ a
filled_up u p a h =
    sym (distance_from (neg_ℤ a) u)
    ∙ ap (λ (y : ℤ). y -ℤ neg_ℤ a) (ap (λ (y : ℤ). y +ℤ u) h ∙ -ℤ-+ℤ_cancel p u)
    ∙ ap (λ (y : ℤ). p +ℤ y) (neg_ℤ-neg_ℤ a)

pub end_count : EndCountClaim
end_count m shortfall last e =
    record { count_is = end_counted e; in_span = subst InSpan (sym (end_counted e)) (last_in_span e) }

pub hand_over : HandOverClaim
hand_over m next shortfall last first e b same =
    let place = first_position b in
    let left = sym (end_remainder m shortfall last e).remainder_is ∙ (ends_sampled e).remainder_is in
    record {
      counts_join = at_start (rounded_from_start 0 next first b) place ∙ same;
      positions_join =
          place ∙ ap units_of same ∙ filled_up (units_of last.count) last.position (along m.displacement (pos shortfall)) left;
    }
