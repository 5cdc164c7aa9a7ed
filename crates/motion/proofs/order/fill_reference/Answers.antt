-- `fill_reference` meets its contract: the planner's refusal, refusal 8, or the rows of the plan.
use Rattle.std.proofs.Common.{rules, ap, arith, ℕ, ◌+◌, []}
use Rattle.motion.specs.Tables.{FillsReference}
use Rattle.motion.proofs.FillLaws.{short, fills_refused, fills_reference}
use Rattle.motion.proofs.AlongLaws.{along_pairs_can, along_pairs, references_written}
use Rattle.motion.proofs.order.fill_reference.Goals as goal

pub returns-in_err-plan : goal.returns-in_err-plan
unfolding FillsReference
returns-in_err-plan g c = fills_refused {e = c.in_err-plan.field-0.0} c.in_err-plan.ensures.ruled (search rules)

pub returns-then-table-rows : goal.returns-then-table-rows
returns-then-table-rows g c =
    fills_reference c.in_ok-plan.ensures.ruled (short [] (omega (arith, c.if-table-rows.true, c.samples.ensures.is)))

pub fill_stretches-requires-clause-fits : goal.fill_stretches-requires-clause-fits
fill_stretches-requires-clause-fits g c =
    rw (c.as_slice.ensures, c.first.ensures)
    (along_pairs_can c.start.ensures.runs _ c.stretches-stretches.ensures.follow (omega (arith, c.stretches-stretches.ensures.count)))

pub returns : goal.returns
returns g c =
    let rows = along_pairs c.start.ensures.runs _ c.stretches-stretches.ensures.follow in
    references_written c.in_ok-plan.ensures.ruled (g.O.Order.starts c.args.m.now) c.args.table.now c.start.ensures.rests (ap (λ (n : ℕ). n + 2) c.samples.ensures.is) c.stretches-stretches.ensures.count
    (omega (arith, c.if-table-rows.false, c.samples.ensures.is)) (rw (c.as_slice.ensures, c.first.ensures, rows) at c.fill_stretches.ensures)
