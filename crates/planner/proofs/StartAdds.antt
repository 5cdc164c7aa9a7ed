-- A start asks that it and its end are in the span, and no more.
use Prim.Native.Nat.{◌≤◌}
use native.Mathlib.Omega.{arith}
use lib.IntN.{ℤ, nat_abs, +ℤ_idl}
use Rattle.planner.specs.Outcome.{most_counts, intervals_of, samples_of}
use Rattle.planner.specs.Claims.{EndsInSpan, Accepted}
use Rattle.planner.specs.Third.{third_intervals_of, third_samples_of}
use Rattle.planner.specs.ThirdClaims.{ThirdAccepted}
use Rattle.planner.specs.AxesClaims.{AcceptedAxis}
use Rattle.planner.specs.StartClaims.{from_zero, StartAddsClaim}
use Rattle.planner.specs.declared.Move.{Move}
use Rattle.planner.proofs.AxisLaws.{axis_ends_in_span}

-- the same move from another start
abbrev from : (start : ℤ) → Move → Move
from start m =
    record {
      displacement = m.displacement;
      velocity = m.velocity;
      acceleration = m.acceleration;
      jerk = m.jerk;
      snap = m.snap;
      start = start;
    }

-- it is accepted too, where its own ends are in the span
moved : (m : Move) (start : ℤ) → EndsInSpan (from start m) → Accepted m → Accepted (from start m)
unfolding samples_of intervals_of
moved m start ends h =
    let i = h.is_in_range in
    record { is_in_range = record { moves = i.moves; near = i.near; bounds = i.bounds; ends = ends }; short_enough = h.short_enough }

third_moved : (m : Move) (start : ℤ) → EndsInSpan (from start m) → ThirdAccepted m → ThirdAccepted (from start m)
unfolding third_samples_of third_intervals_of
third_moved m start ends h =
    let i = h.is_in_range in
    record {
      is_in_range =
          record {
            moves = i.moves;
            near = i.near;
            velocity = i.velocity;
            acceleration = i.acceleration;
            jerk = i.jerk;
            ends = ends;
          };
      short_enough = h.short_enough;
    }

-- a start of 0 is in the span, and so is its end where the displacement is
zero_in_span : (m : Move) → nat_abs m.displacement ≤ most_counts → EndsInSpan (from_zero m)
zero_in_span m near = record { start = omega arith; end = rw (+ℤ_idl m.displacement) near }

-- an axis, at rest too
axis_zero : (m : Move) → AcceptedAxis m → AcceptedAxis (from_zero m)
axis_zero m h =
    record {
      moving = λ q. let k = h.moving q in moved m _ (zero_in_span m k.is_in_range.near) k;
      resting = λ q. ((h.resting q).0, zero_in_span m (omega (arith, q)));
    }

axis_moved : (m : Move) → EndsInSpan m → AcceptedAxis (from_zero m) → AcceptedAxis m
axis_moved m ends h =
    record { moving = λ q. moved (from_zero m) m.start ends (h.moving q); resting = λ q. ((h.resting q).0, ends) }

pub start_adds : (m : Move) → StartAddsClaim m
start_adds m =
    record {
      fourth = (
        λ h. (moved m _ (zero_in_span m h.is_in_range.near) h, h.is_in_range.ends),
        λ h. moved (from_zero m) m.start h.1 h.0,
      );
      third = (
        λ h. (third_moved m _ (zero_in_span m h.is_in_range.near) h, h.is_in_range.ends),
        λ h. third_moved (from_zero m) m.start h.1 h.0,
      );
      axis = (λ h. (axis_zero m h, axis_ends_in_span m h), λ h. axis_moved m h.1 h.0);
    }
