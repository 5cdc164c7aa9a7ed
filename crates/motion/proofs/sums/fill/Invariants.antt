use Rattle.std.proofs.Common.{◌≡◌}
use Rattle.motion.specs.Inner.Stretches.{after, rows}
use Rattle.motion.proofs.sums.fill.Given as goal

abbrev pub invariant-loop-place : goal.invariant-loop-place
invariant-loop-place g l = let s = g.S.Sums in record {
  state : l.current ≡ after (s.stepped l.level) l.fn.state l.place-index;
  written : l.part ≡ rows (λ k. s.row_of (after (s.stepped l.level) l.fn.state k)) l.place-index l.fn.part;
}
