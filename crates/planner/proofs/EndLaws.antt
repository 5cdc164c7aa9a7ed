-- The start and the end of a move: refusal 14.
use mathlib.Core.Bool.{false}
use mathlib.Core.Path.{◌≡◌, refl}
use borrow.Author.Tests.{le-ltb, ltb-false}
use lib.IntN.{nat_abs, ◌+ℤ◌}
use Rattle.planner.specs.Outcome.{most_counts, out_of_span, ends_outside}
use Rattle.planner.specs.Claims.{EndsInSpan}
use Rattle.planner.specs.declared.Move.{Move}
use Rattle.planner.proofs.RefusalLaws.{or_false}

-- it does not apply exactly where both are in the span
pub ends_in_span : (m : Move) → ends_outside m.displacement m.start ≡ false → EndsInSpan m
ends_in_span m h =
    let parts = or_false (out_of_span m.start) (out_of_span (m.start +ℤ m.displacement)) h in
    record { start = ltb-false most_counts _ parts.0; end = ltb-false most_counts _ parts.1 }

pub ends_pass : (m : Move) → EndsInSpan m → ends_outside m.displacement m.start ≡ false
ends_pass m h =
    rw (le-ltb most_counts (nat_abs m.start) h.start, le-ltb most_counts (nat_abs (m.start +ℤ m.displacement)) h.end) refl
