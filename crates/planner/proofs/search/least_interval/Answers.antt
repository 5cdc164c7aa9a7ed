-- `least_interval` meets its contract: a search for the quotient finds the least number for the bound.
use Rattle.std.proofs.Common.{◌∙◌, ap, arith, ℕ}
use Rattle.std.specs.Int.{div_ceil}
use Rattle.planner.proofs.ReachLaws.{least_between}
use Rattle.planner.proofs.search.least_interval.Goals as goal

pub returns : goal.returns
returns c =
    let a = c.args in
    let p = c.requires in
    let quotient = c.div_ceil.ensures ∙ ap (λ (t : ℕ). div_ceil t a.k) (omega arith) in
    least_between a.k a.u a.d p.bound a.t p.from_one p.span.ordered (rw quotient at c.search.ensures)
