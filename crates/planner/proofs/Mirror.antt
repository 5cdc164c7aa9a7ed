-- A move and the same move the other way: the rules look at the sizes of X, of the start and of the end alone.
use mathlib.Core.Logic.{◌↔◌}
use mathlib.Core.Path.{◌≡◌, refl, sym, ap, subst, ◌∙◌}
use Prim.Native.Nat.{ℕ}
use lib.IntN.{nat_abs, neg_ℤ, ◌+ℤ◌, neg_ℤ-+ℤ}
use Rattle.planner.specs.Quantities.{distance}
use Rattle.planner.specs.Outcome.{intervals_of, samples_of, outcome_of}
use Rattle.std.specs.Prelude.{Result}
use Rattle.planner.specs.Claims.{Accepted, IsPlanned, mirrored, MirrorClaim}
use Rattle.planner.specs.Third.{third_intervals_of, third_samples_of, third_outcome_of}
use Rattle.planner.specs.ThirdClaims.{ThirdAccepted, ThirdMirrorClaim}
use Rattle.planner.specs.declared.Move.{Move}
use Rattle.planner.proofs.Sign.{size_negated}
use Rattle.planner.proofs.Acceptance.{rule_accepted, third_rule_accepted}

mirrored_end : (m : Move) → nat_abs (neg_ℤ m.start +ℤ neg_ℤ m.displacement) ≡ nat_abs (m.start +ℤ m.displacement)
mirrored_end m = ap nat_abs (sym (neg_ℤ-+ℤ m.start m.displacement)) ∙ size_negated (m.start +ℤ m.displacement)

-- the plan or the refusal is the same
pub same_outcome : (m : Move) → outcome_of (mirrored m) ≡ outcome_of m
unfolding outcome_of samples_of intervals_of distance
same_outcome m = rw (size_negated m.displacement, size_negated m.start, mirrored_end m) refl

third_same_outcome : (m : Move) → third_outcome_of (mirrored m) ≡ third_outcome_of m
unfolding third_outcome_of third_samples_of third_intervals_of distance
third_same_outcome m = rw (size_negated m.displacement, size_negated m.start, mirrored_end m) refl

-- what is accepted by the outcome is accepted either way
either_way :
    {A : Type 0} (Accepts : Move → Type 0) (outcome : Move → Result A ℕ) → ((m : Move) → IsPlanned (outcome m) ↔ Accepts m)
    → (m : Move) → outcome (mirrored m) ≡ outcome m
    → Accepts m ↔ Accepts (mirrored m)
either_way Accepts outcome by m same = (
  λ h. (by (mirrored m)).0 (subst IsPlanned (sym same) ((by m).1 h)),
  λ h. (by m).0 (subst IsPlanned same ((by (mirrored m)).1 h)),
)

pub mirror : MirrorClaim
mirror m = either_way Accepted outcome_of rule_accepted m (same_outcome m)

pub third_mirror : ThirdMirrorClaim
third_mirror m = either_way ThirdAccepted third_outcome_of third_rule_accepted m (third_same_outcome m)
