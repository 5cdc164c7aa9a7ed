-- A row of a force table from what is carried along, and what is carried on.
use Rattle.std.specs.Prelude.{◌≡◌, ◌≤◌, ◌^◌, ℤ, pos, nat_abs, ◌+ℤ◌, ◌*ℤ◌, Float}
use Rattle.std.specs.Float.{binary64}
use Rattle.std.specs.Float.Ieee.{mul, div}
use Rattle.motion.specs.ForceRows.Machine.{Machine, plus_zero}
use Rattle.motion.specs.ForceRows.Doubled.{Doubled, cast}
use Rattle.motion.specs.ForceRows.Force.{floats, q1, q2, q3, q4, weighted_sum, DriveKind, rigid, filtered, half, drive_of, filtered_force}
use Rattle.motion.specs.declared.force.coefficients.Coefficients.{Coefficients}
use Rattle.motion.specs.declared.force.drive.Drive.{Drive}
use Rattle.motion.specs.declared.force.drive.Drive.TheVariants.{Rigid, Filtered}
use Rattle.motion.specs.declared.force.feedforward.Feedforward.{Feedforward}
use Rattle.motion.specs.declared.force.rows.Row.{Row}
use Rattle.motion.specs.declared.force.rows.RowState.{RowState}
use Rattle.motion.specs.declared.force.rows.Forces.{Forces}
use Rattle.motion.specs.declared.force.doubled.Doubled as code
use Rattle.motion.specs.declared.force.doubled.Earlier.{Earlier}
use Rattle.motion.specs.declared.state.State.{State}
use Rattle.motion.specs.Inner.Steps.{stepped, rest_at, StepFits}

-- The doubled numbers of a row are within 2^53, so their casts lose nothing.
pub record Castable (w : Doubled ℤ) : Type 0 where
  pub d2 : nat_abs w.d2 ≤ 2 ^ 53
  pub j2 : nat_abs w.j2 ≤ 2 ^ 53
  pub a2 : nat_abs w.a2 ≤ 2 ^ 53
  pub v2 : nat_abs w.v2 ≤ 2 ^ 53

pub record AreCoefficients (m : Machine Float) (q : Coefficients) : Type 0 where
  pub q1_is : q.q1 ≡ q1 floats m
  pub q2_is : q.q2 ≡ q2 floats m
  pub q3_is : q.q3 ≡ q3 floats m
  pub q4_is : q.q4 ≡ q4 floats m

abbrev pub doubled_numbers : code.Doubled → Doubled ℤ
doubled_numbers w = record { d2 = w.d2; j2 = w.j2; a2 = w.a2; v2 = w.v2 }

abbrev pub doubled_by : (velocity : ℤ) → Earlier → Doubled ℤ
doubled_by velocity x =
    record {
      d2 = pos 2 *ℤ x.snap2;
      j2 = x.jerk1 +ℤ x.jerk2;
      a2 = pos 2 *ℤ x.acceleration1;
      v2 = velocity +ℤ x.velocity1;
    }

abbrev pub earlier_next : Earlier → State → (snap : ℤ) → Earlier
earlier_next x s snap =
    record {
      snap1 = snap;
      snap2 = x.snap1;
      jerk1 = s.jerk;
      jerk2 = x.jerk1;
      acceleration1 = s.acceleration;
      velocity1 = s.velocity;
    }

unfoldable pub u_by : Coefficients → Doubled ℤ → Float
u_by q w = mul binary64 (weighted_sum floats q.q1 q.q2 q.q3 q.q4 (cast w)) half

unfoldable pub force_by : DriveKind → (u : Float) → (previous : Row) → Float
force_by (rigid stiffness) u previous = div binary64 u stiffness
force_by (filtered alpha beta) u previous = filtered_force alpha beta previous.force u previous.u

-- The checked drive.
abbrev pub drive_kind : Drive → DriveKind
drive_kind (Rigid stiffness) = rigid stiffness
drive_kind (Filtered alpha beta) = filtered alpha beta

pub record IsFeedforward (m : Machine Float) (x : Feedforward) : Type 0 where
  pub coefficients : AreCoefficients m x.q
  pub drive_is : drive_kind x.drive ≡ drive_of m.k12 m.c

abbrev pub row_in : Feedforward → RowState → Row
row_in x s =
    let u = u_by x.q (doubled_by s.state.velocity s.earlier) in
    record { u = u; force = force_by (drive_kind x.drive) u s.previous }

abbrev pub none_earlier : Earlier
none_earlier = record { snap1 = pos 0; snap2 = pos 0; jerk1 = pos 0; jerk2 = pos 0; acceleration1 = pos 0; velocity1 = pos 0 }

abbrev pub first_row : RowState
first_row = record { state = rest_at (pos 0); earlier = none_earlier; previous = record { u = plus_zero; force = plus_zero } }

abbrev pub advanced : RowState → (snap : ℤ) → Row → RowState
advanced s snap row = record { state = stepped s.state snap; earlier = earlier_next s.earlier s.state snap; previous = row }

-- A row can be made and stepped over.
pub record RowFits (s : RowState) (x : ℤ) : Type 0 where
  pub step : StepFits s.state x
  pub casts : Castable (doubled_by s.state.velocity s.earlier)

abbrev pub force_of_row : Forces → Float
force_of_row s = (row_in s.feedforward s.current).force

abbrev pub force_step : (snap : ℤ) → Forces → Forces
force_step x s = record { feedforward = s.feedforward; current = advanced s.current x (row_in s.feedforward s.current) }

abbrev pub ForceFits : (snap : ℤ) → Forces → Type 0
ForceFits x s = RowFits s.current x
