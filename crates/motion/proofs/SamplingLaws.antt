-- What the one-sample entry promises, case by case, in either order.
use mathlib.Core.Path.{◌≡◌, sym, ap, subst, ◌∙◌}
use Prim.Native.Nat.{ℕ, ◌≤◌, ◌<◌}
use borrow.Author.Tests.{lt-ltb, le-ltb}
use Rattle.planner.specs.Refusals.{first_refusal}
use Rattle.std.specs.Prelude.{Result, Ok, Err}
use Rattle.planner.proofs.RefusalLaws.{refused_on}
use Rattle.motion.specs.Sampling.{Values, Motion, sample_checks, sample_with, Samples}
use Rattle.motion.specs.declared.Sample.{Sample}
use Rattle.motion.specs.Inner.Planned.{IsSampleOf}
use Rattle.motion.proofs.RoundingLaws.{rounding_of}
use Rattle.motion.proofs.RoundedValues.{with_rounding, one_rounded_sample}
use Rattle.motion.specs.Answer.{number, outcome}
use Rattle.motion.specs.declared.MotionRefusal.{MotionRefusal}
use Rattle.motion.specs.Inner.Orders.{PlannedAs, RefusedAs}
use Rattle.motion.proofs.EntryLaws.{applies, passes}

-- the rule's own outcome meets the promise, and no other
module _ (x : Motion) (k : ℕ) where
  abbrev pub rule_sample : Result Sample ℕ
  rule_sample = sample_with x k (rounding_of (x.values k).position)

  pub rule_samples_lem : {o : Result Sample ℕ} → o ≡ rule_sample → Samples x k o
  rule_samples_lem q = record { rounding = rounding_of (x.values k).position; outcome_is = q }

  pub only_sample : {o : Result Sample ℕ} → Samples x k o → o ≡ rule_sample
  unfolding sample_with
  only_sample h =
      h.outcome_is
      ∙ ap (λ (s : Sample). first_refusal (sample_checks x k) (Ok s)) (one_rounded_sample x.start (x.values k) h.rounding)

  -- the planner's refusal is the entry's
  pub sample_refused :
      {P : Type 0} {e : MotionRefusal} {r : Result Sample MotionRefusal} → RefusedAs P x (number e) → r ≡ Err e → Samples x k (outcome r)
  unfolding sample_with
  sample_refused {e = e} h is = rw is (rule_samples_lem (refused_on x.plan_checks _ h.plan _ (number e) h.is))

module _ {x : Motion} {n : ℕ} {v : ℕ → Values} {k : ℕ} (f : PlannedAs x n v) where
  pub sample_past : n < k → Samples x k (Err 9)
  unfolding sample_with
  sample_past l =
      rule_samples_lem x k (sym (applies x.plan_checks f.pass 9 _ _ (lt-ltb _ k (subst (λ (n : ℕ). n < k) f.samples_are l))))

  pub sample_given : {r : Sample} → k ≤ n → IsSampleOf x.start (v k) r → Samples x k (Ok r)
  unfolding sample_with
  sample_given l s =
      rule_samples_lem x k
      (ap Ok (s.sample_is ∙ one_rounded_sample x.start _ s.rounding ∙ ap (with_rounding x.start) (f.values_are k))
      ∙ sym (passes x.plan_checks f.pass 9 _ _ (le-ltb _ k (subst (λ (n : ℕ). k ≤ n) f.samples_are l))))
