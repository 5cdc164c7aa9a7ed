-- `innermost` meets its contract.
use mir.Facts.{to_z-of_z}
use native.Mathlib.Omega.{arith}
use mathlib.Core.Path.{sym, ◌∙◌}
use Rattle.motion.proofs.InnerSampleLaws.{inside, outside}
use Rattle.motion.proofs.switched.IntervalSample.innermost.Goals as goal

pub returns-then-self-a : goal.returns-then-self-a
returns-then-self-a c = grind (arith, to_z-of_z) ∙ sym (inside _ _ _ _ c.if-self-a.true)

pub returns : goal.returns
returns c = sym (outside _ _ _ _ c.if-self-a.false)
