-- Demand 3 of a move that starts at 0 is what it was before there was a start.
use mathlib.Core.Path.{◌≡◌, ap, subst, ◌∙◌}
use Prim.Native.Nat.{ℕ}
use lib.IntN.{ℤ, pos, ◌+ℤ◌, ◌-ℤ◌, +ℤ_idl, +ℤ_idr}
use Rattle.planner.specs.declared.Move.{Move}
use Rattle.motion.specs.Sampling.{units_of}
use Rattle.motion.specs.Axes.{rest_sample}
use Rattle.motion.specs.Demand3.{HalfCount, Kept}
use Rattle.motion.specs.StartClaims.{KeptFromZero, FromZeroClaim}
use Rattle.motion.specs.declared.Sample.{Sample}

module _ (m : Move) (zero : m.start ≡ pos 0) where
  units : units_of m.start ≡ pos 0
  units = ap units_of zero

  -- the way from there is the position
  way : (x : ℤ) → x -ℤ units_of m.start ≡ x
  way x = ap (λ (u : ℤ). x -ℤ u) units ∙ +ℤ_idr x

  kept_from_zero : (N P : ℕ) (E : ℕ → ℤ) (at : ℕ → Sample) → Kept m N P E at → KeptFromZero m N P E at
  kept_from_zero N P E at kept =
      record {
        position_rest = kept.position_rest ∙ units;
        half_count = subst (HalfCount m.displacement N P E) (λ i k. way (at k).position i) kept.half_count;
        count_end = kept.count_end ∙ ap (λ (s : ℤ). s +ℤ m.displacement) zero ∙ +ℤ_idl m.displacement;
      }

pub from_zero : (m : Move) → FromZeroClaim m
from_zero m =
    record {
      kept = λ N P E at zero. kept_from_zero m zero N P E at;
      at_rest = λ n at zero kept rests k.
          let rest = kept.at_rest rests k in
          (rest.0 ∙ ap rest_sample zero, rest.1 ∙ way m zero (at k).position);
    }
