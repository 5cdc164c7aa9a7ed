use Rattle.std.proofs.Common.{◌≡◌, drop}
use Rattle.profile.specs.Inner.Widths.{switched_by}
use Rattle.motion.proofs.switched.Levels.at.Given as goal

-- The value is that of the sample inside the widths that are left.
abbrev pub invariant-loop-width : goal.invariant-loop-width
invariant-loop-width l =
    switched_by l.fn.a l.fn.widths l.fn.self.positive l.fn.self.negative l.fn.k
    ≡ switched_by l.fn.a (drop l.width-index l.widths) l.inner.positive l.inner.negative l.inner.sample
