use Rattle.std.proofs.Common.{drop}
use Rattle.motion.proofs.StretchRows.{Progress}
use Rattle.motion.proofs.sums.fill_stretches.Given as goal

abbrev pub invariant-loop-stretch : goal.invariant-loop-stretch
invariant-loop-stretch g l = let s = g.S.Sums in Progress s.row_of s.can_step s.stepped l.stretches l.fn.state l.fn.table (drop l.stretch-index l.stretches) l.current l.at l.table
