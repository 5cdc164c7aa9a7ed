-- The force rows of a plan, written along it: what is carried along gives the rule's row at each sample.
use mathlib.Core.List.{List}
use mathlib.Core.Path.{◌≡◌, refl, sym, ap, ap₂, ◌∙◌, fun_ext}
use Prim.Native.Nat.{ℕ, zero, suc, ◌≤◌, ◌^◌}
use native.Mathlib.Numerals.{add-one}
use native.Mathlib.Omega.{arith}
use lib.IntN.{ℤ, pos}
use lib.Ieee.{Float}
use Rattle.planner.specs.Outcome.{intervals_in}
use Rattle.planner.specs.declared.Move.{Move}
use Rattle.planner.specs.declared.Plan.{Plan}
use Rattle.profile.specs.Profile.{sum}
use Rattle.profile.specs.Profile as profile
use Rattle.profile.specs.Inner.Repeated.{sums}
use Rattle.motion.specs.ForceRows.Machine.{Machine, plus_zero}
use Rattle.motion.specs.ForceRows.Doubled.{Doubled, earlier, doubled}
use Rattle.motion.specs.ForceRows.Force.{sum_in_u, DriveKind, rigid, filtered, drive_of, u, force_of, force_row}
use Rattle.motion.specs.declared.force.feedforward.Feedforward.{Feedforward}
use Rattle.motion.specs.declared.force.doubled.Earlier.{Earlier}
use Rattle.motion.specs.declared.force.rows.Row.{Row}
use Rattle.motion.specs.declared.force.rows.RowState.{RowState}
use Rattle.motion.specs.Inner.Steps.{sum_from, state_from}
use Rattle.motion.specs.Tables.{rows_from}
use Rattle.motion.specs.declared.force.rows.Forces.{Forces}
use Rattle.motion.specs.Inner.Stretches.{CanRun, Follows, row_count, rows_of}
use Rattle.motion.specs.declared.sums.Stretch.{Stretch}
use Rattle.motion.specs.Inner.Rows.{IsFeedforward, u_by, force_by, row_in, first_row, force_of_row, force_step, ForceFits}
use Rattle.motion.specs.Inner.Planned.{WithinRange, directed_snap, planned_numbers}
use Rattle.motion.specs.Sampling.{values_at}
use Rattle.motion.proofs.StepLaws.{next}
use Rattle.motion.proofs.StateLaws.{step_fits}
use Rattle.motion.proofs.StretchLaws.{can_along, rows_along}
use Rattle.motion.proofs.ForceRows.DoubledLaws.{numbers_are, castable}

-- u and the force of the row before row k
previous_row : DriveKind → (ℕ → Float) → ℕ → Row
previous_row d us zero = record { u = plus_zero; force = plus_zero }
previous_row d us (suc k) = record { u = us k; force = force_of d us k }

force_is : (d : DriveKind) (us : ℕ → Float) (k : ℕ) → force_by d (us k) (previous_row d us k) ≡ force_of d us k
unfolding previous_row force_by force_of
force_is (rigid stiffness) us k = refl
force_is (filtered alpha beta) us zero = refl
force_is (filtered alpha beta) us (suc k) = refl

module _ {m : Machine Float} {x : Feedforward} (is : IsFeedforward m x) (f : ℕ → ℤ) where
  abbrev numbers : ℕ → Doubled ℤ
  numbers = doubled f (sums 1 f) (sums 2 f) (sums 3 f)

  abbrev drive : DriveKind
  drive = drive_of m.k12 m.c

  earlier_at : ℕ → Earlier
  earlier_at k =
      record {
        snap1 = earlier f 1 k;
        snap2 = earlier f 2 k;
        jerk1 = earlier (sums 1 f) 1 k;
        jerk2 = earlier (sums 1 f) 2 k;
        acceleration1 = earlier (sums 2 f) 1 k;
        velocity1 = earlier (sums 3 f) 1 k;
      }

  row_state_at : ℕ → RowState
  row_state_at k = record { state = state_from (pos 0) f k; earlier = earlier_at k; previous = previous_row drive (u m numbers) k }

  u_is : (k : ℕ) → u_by x.q (numbers k) ≡ u m numbers k
  unfolding u_by u sum_in_u
  u_is k = let q = is.coefficients in rw (q.q1_is, q.q2_is, q.q3_is, q.q4_is) refl

  row_is : (k : ℕ) → row_in x (row_state_at k) ≡ record { u = u m numbers k; force = force_row m numbers k }
  unfolding row_state_at earlier_at doubled earlier force_row
  row_is k =
      let force =
      ap₂ (λ (d : DriveKind) (y : Float). force_by d y (previous_row drive (u m numbers) k)) is.drive_is (u_is k)
      ∙ force_is drive (u m numbers) k in
      λ i. record { u = u_is k i; force = force i }

  pub forces_at : ℕ → Forces
  forces_at k = record { feedforward = x; current = row_state_at k }

  pub forces_next : (k : ℕ) → force_step (f k) (forces_at k) ≡ forces_at (suc k)
  unfolding forces_at row_state_at earlier_at previous_row earlier sum sums force_row
  forces_next k =
      λ i.
      record {
        feedforward = x;
        current = record {
          state = (next (pos 0) f k ∙ ap (state_from (pos 0) f) (add-one k)) i;
          earlier = earlier_at (suc k);
          previous = row_is k i;
        };
      }

-- the rows of a plan
module _ (m : Move) (p : Plan) (h : WithinRange (intervals_in p) p.snap) {a : Machine Float} {x : Feedforward} (is : IsFeedforward a x) where
  abbrev snap : ℕ → ℤ
  snap = directed_snap m.displacement (intervals_in p) p.snap

  abbrev first : Forces
  first = record { feedforward = x; current = first_row }

  module _ (xs : List Stretch) (along_snap : Follows xs snap 0) where
    pub forces_can : row_count xs ≤ 2 ^ 60 → CanRun ForceFits force_step xs first
    unfolding forces_at row_state_at earlier_at previous_row doubled earlier sum sums sum_from values_at profile.snap
    forces_can few =
        can_along force_step snap (forces_at is snap) (forces_next is snap) ForceFits xs 0 along_snap
        (λ i k. record {
          step = step_fits m.displacement (intervals_in p) p.snap h (pos 0) (omega arith) i (omega (arith, k, few));
          casts = castable m.displacement (intervals_in p) p.snap h i;
        })

    pub force_rows :
        rows_of force_of_row force_step xs first ≡ rows_from (force_row a (planned_numbers m.displacement (intervals_in p) p.snap)) 0 (row_count xs)
    unfolding forces_at row_state_at earlier_at previous_row earlier sum sums sum_from values_at profile.snap
    force_rows =
        let same : (λ k. (row_in x (row_state_at is snap k)).force) ≡ force_row a (planned_numbers m.displacement (intervals_in p) p.snap) =
        fun_ext (λ k. ap (λ (r : Row). r.force) (row_is is snap k)) ∙ ap (force_row a) (sym (numbers_are m.displacement (intervals_in p) p.snap h)) in
        rows_along force_step snap (forces_at is snap) (forces_next is snap) force_of_row xs 0 along_snap
        ∙ ap (λ (row : ℕ → Float). rows_from row 0 (row_count xs)) same
