-- `inside` meets its contract.
use mathlib.Core.Path.{◌≡◌, sym, subst}
use Prim.Native.Nat.{◌-◌}
use mir.Syntax.{w64}
use mir.Val.{to_z, of_z}
use mir.Facts.{to_z-of_z}
use Rattle.motion.specs.Inner.InnerSamples.{SameValue}
use Rattle.motion.proofs.InnerSampleLaws.{before, past}
use native.Mathlib.Omega.{arith}
use Rattle.motion.proofs.switched.IntervalSample.inside.Goals as goal

pub returns-then-self-width : goal.returns-then-self-width
returns-then-self-width c = before _ _ _ _ c.if-self-width.true

pub returns : goal.returns
returns c =
    let positive : (let x = c.args.self.now in
    to_z w64 (of_z w64 x.positive) ≡ x.positive) = grind (arith, to_z-of_z) in
    let negative : (let x = c.args.self.now in
    to_z w64 (of_z w64 x.negative) ≡ x.negative) = grind (arith, to_z-of_z) in
    let a = c.args in
    let k = a.self.now.sample - a.width in
    subst (λ x. SameValue a.width a.self.now.positive a.self.now.negative a.self.now.sample x (to_z w64 (of_z w64 a.self.now.positive)) k)
    (sym negative)
    (subst (λ x. SameValue a.width a.self.now.positive a.self.now.negative a.self.now.sample a.self.now.negative x k) (sym positive)
    (past _ _ _ _ c.if-self-width.false))
