-- `fill_force` meets its contract: the refusals in their order, or the rows of the plan.
use Rattle.std.proofs.Common.{rules, ◌≡◌, ℕ, ◌+◌, List, [], ◌∷◌, ◌++◌, drop, not, arith, sym, ap, ◌∙◌}
use lib.Ieee.{Float}
use Rattle.planner.specs.Intervals.{N}
use Rattle.std.specs.Prelude.{Result}
use Rattle.planner.specs.Outcome.{intervals_in}
use Rattle.planner.specs.declared.Move.{Move}
use Rattle.planner.specs.declared.Plan.{Plan}
use Rattle.motion.specs.Answer.{machine_of}
use Rattle.motion.specs.ForceRows.Machine.{Machine, machine_as_read, machine_in_range}
use Rattle.motion.specs.Tables.{FillsForce, machine_check, rows_from}
use Rattle.motion.specs.Inner.Planned.{WritesRows, planned_force, samples_in, fourth_values_in}
use Rattle.motion.proofs.EntryLaws.{force_is}
use Rattle.motion.proofs.FillLaws.{short, own_refused, written, fills_refused, fills}
use Rattle.motion.specs.Sampling.{fourth_order}
use Rattle.motion.specs.Inner.Orders.{PlannedAs}
use Rattle.motion.proofs.ForceRows.ForceLaws.{forces_can, force_rows}
use Rattle.motion.proofs.force.table.fill_force.Goals as goal

module _ (m : Move) (x : Plan) (f : PlannedAs (fourth_order m) (samples_in x) (fourth_values_in m.displacement x)) where
  force_filled :
      (machine : Machine Float) {old new : List Float} {o : Result ℕ ℕ}
      → WritesRows (machine_check machine ∷ []) (N (intervals_in x) + 2) (planned_force m.displacement (intervals_in x) x.snap machine) old o new
      → FillsForce m machine old o new
  unfolding FillsForce
  force_filled machine w = fills f.pass (ap (λ (n : ℕ). n + 2) f.samples_are) (force_is m x f machine) w

pub returns-in_err-plan : goal.returns-in_err-plan
unfolding FillsForce
returns-in_err-plan c = fills_refused {e = c.in_err-plan.field-0.0} c.in_err-plan.ensures.ruled (search rules)

pub returns-then-table-rows : goal.returns-then-table-rows
returns-then-table-rows c =
    force_filled c.args.m.now c.in_ok-plan.plan c.in_ok-plan.ensures.ruled (machine_of c.args.machine) (short _ (omega (arith, c.if-table-rows.true, c.samples.ensures.is)))

pub returns-then-not-in_range : goal.returns-then-not-in_range
returns-then-not-in_range c =
    let range : c.in_range.result ≡ machine_in_range (machine_as_read (machine_of c.args.machine)) = c.in_range.ensures ∙ ap machine_in_range c.as_read-read.ensures in
    force_filled c.args.m.now c.in_ok-plan.plan c.in_ok-plan.ensures.ruled (machine_of c.args.machine) (own_refused 10 _ (omega (arith, c.if-table-rows.false, c.samples.ensures.is)) (ap not (sym range ∙ c.if-not-in_range.true)))

pub fill_stretches-requires-clause-fits : goal.fill_stretches-requires-clause-fits
fill_stretches-requires-clause-fits c =
    let stretches = c.stretches-stretches.ensures in
    rw c.first.ensures
    (forces_can c.args.m.now c.in_ok-plan.plan c.in_ok-plan.ensures.in_range c.from.ensures _ stretches.follow
    (omega (arith, c.in_ok-plan.ensures.in_range.samples, stretches.count)))

pub returns : goal.returns
returns c =
    let m = c.args.m.now in
    let x = c.in_ok-plan.plan in
    let machine = machine_of c.args.machine in
    let range : c.in_range.result ≡ machine_in_range (machine_as_read machine) = c.in_range.ensures ∙ ap machine_in_range c.as_read-read.ensures in
    let stretches = c.stretches-stretches.ensures in
    let rows = force_rows m x c.in_ok-plan.ensures.in_range c.from.ensures _ stretches.follow in
    let filled : c.fill_stretches.new.table ≡ rows_from (planned_force m.displacement (intervals_in x) x.snap machine) 0 (N (intervals_in x) + 2) ++ drop (N (intervals_in x) + 2) c.args.table.now =
    rw (c.first.ensures, rows, c.as_read-read.ensures, stretches.count) at c.fill_stretches.ensures in
    force_filled c.args.m.now c.in_ok-plan.plan c.in_ok-plan.ensures.ruled machine
    (written (machine_check machine ∷ []) (ap (λ (n : ℕ). n + 2) c.samples.ensures.is) (omega (arith, c.if-table-rows.false, c.samples.ensures.is))
    (ap not (sym range ∙ c.if-not-in_range.false), tt) (record { table_is = filled }))
