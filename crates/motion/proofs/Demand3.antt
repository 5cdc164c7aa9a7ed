-- Demand 3: the theorems `demand_3` and `third_demand_3` prove the claims of specs/Demand3.antt. They rest on the rules (planner), on the
-- laws of the profile (profile) and on the promises of the entries alone.
use mathlib.Core.List.{List}
use mathlib.Core.Path.{◌≡◌, refl, ◌∙◌}
use Prim.Native.Nat.{ℕ, ◌+◌, ◌≤◌}
use native.Mathlib.Omega.{arith}
use borrow.Author.Tests.{le-ltb}
use lib.IntN.{ℤ, pos}
use lib.ListN.{length}
use Rattle.planner.specs.Refusals.{Each}
use Rattle.std.specs.Prelude.{Result, Ok}
use Rattle.planner.specs.Intervals.{P}
use Rattle.planner.specs.Outcome.{distance_of, intervals_of, samples_of}
use Rattle.planner.specs.Claims.{Accepted}
use Rattle.planner.specs.Third.{P₃, third_intervals_of, third_samples_of}
use Rattle.planner.specs.ThirdClaims.{ThirdAccepted}
use Rattle.planner.specs.declared.Move.{Move}
use Rattle.planner.proofs.RefusalLaws.{Passes}
use Rattle.planner.proofs.Acceptance.{accepted_passes, third_passes}
use Rattle.planner.proofs.PlannedFacts.{rule_facts}
use Rattle.planner.proofs.ThirdTheorems.{third_rule_facts}
use Rattle.profile.specs.Inner.Widths.{span, product}
use Rattle.motion.specs.Sampling.{values_of, exact_position_times_p, third_values_at, third_values_of, third_exact_position_times_p, Motion, fourth_order, third_order, sample_with, Samples}
use Rattle.motion.specs.Tables.{FillsPositions}
use Rattle.motion.specs.Demand3.{Kept, Demand3Of, Demand3Claim, ThirdDemand3Claim}
use Rattle.motion.specs.declared.Sample.{Sample}
use Rattle.motion.proofs.RoundedValues.{with_rounding}
use Rattle.motion.proofs.EntryLaws.{passes}
use Rattle.motion.proofs.SamplingLaws.{only_sample}
use Rattle.motion.proofs.FillLaws.{filled_places, filled_row}
use Rattle.motion.proofs.KeptRules.{keeps, third_keeps, third_follows}
use Rattle.motion.proofs.KeptLaws.{kept_snap, kept, kept_any}

-- a motion whose move the planner does not refuse
module _ (x : Motion) (p : Each Passes x.plan_checks) where
  -- the rule's own values, rounded
  abbrev pub rule_at : ℕ → Sample
  rule_at k = with_rounding x.start (x.values k)

  -- what the one-sample entry gives
  pub sampled : {k : ℕ} {o : Result Sample ℕ} → k ≤ x.samples → Samples x k o → o ≡ Ok (rule_at k)
  unfolding sample_with
  sampled {k} l h = only_sample x k h ∙ passes x.plan_checks p 9 _ _ (le-ltb x.samples k l)

  -- what both orders share, where the rule's own values keep the lines
  shared :
      {m : Move} → Kept m x.samples x.product x.exact rule_at
      → (sample : ℕ → Result Sample ℕ)
      → ((k : ℕ) → k ≤ x.samples → Samples x k (sample k))
      → (old new : List ℤ) (rows : Result ℕ ℕ)
      → x.samples + 1 ≤ length old
      → FillsPositions x old rows new
      → Demand3Of m x sample new
  unfolding FillsPositions
  shared lines sample promised old new rows room filled =
      record {
        at = rule_at;
        answered = λ k l. sampled l (promised k l);
        table_places = omega (arith, filled_places p room tt filled);
        table_position = λ k l. filled_row p room tt filled (pos 0) k (omega arith);
        kept = lines;
      }

-- the rule's own values keep the lines
pub fourth_kept :
    (m : Move) → Accepted m
    → Kept m (samples_of m) (P (intervals_of m)) (exact_position_times_p m) (λ k. with_rounding m.start (values_of m k))
unfolding samples_of values_of exact_position_times_p
fourth_kept m h = kept (keeps (rule_facts m h))

pub demand_3 : Demand3Claim
unfolding samples_of values_of shared
demand_3 m h sample promised old new rows room filled =
    record {
      shared = shared (fourth_order m) (accepted_passes m h) (fourth_kept m h) sample promised old new rows room filled;
      kept_snap = kept_snap m.start m.displacement _ _ (rule_facts m h).bounds.snap;
    }

pub third_kept :
    (m : Move) → ThirdAccepted m
    → Kept m (third_samples_of m) (P₃ (third_intervals_of m)) (third_exact_position_times_p m) (λ k. with_rounding m.start (third_values_of m k))
unfolding third_samples_of third_values_of third_exact_position_times_p span product
third_kept m h =
    kept_any (third_keeps (third_rule_facts m h)) (third_follows m.displacement (third_intervals_of m) _)
    (third_follows m.displacement (third_intervals_of m) (distance_of m)).position_is

pub third_demand_3 : ThirdDemand3Claim
unfolding third_values_of third_values_at shared
third_demand_3 m h sample promised old new rows room filled =
    record {
      shared = shared (third_order m) (third_passes m h) (third_kept m h) sample promised old new rows room filled;
      jerk_switched = λ k l. refl;
      snap_none = λ k l. refl;
    }
