-- `of` meets its contract.
use mathlib.Core.Path.{refl}
use mir.Syntax.{w64}
use mir.Facts.{to_z-of_z}
use Rattle.motion.specs.Inner.Rows.{doubled_by}
use Rattle.motion.proofs.ForceRows.CastLaws.{within_53}
use native.Mathlib.Omega.{arith}
use mir.Val.{to_z, of_z}
use mathlib.Core.Path.{◌≡◌}
use Rattle.motion.proofs.force.doubled.Doubled.of.Goals as goal

pub returns : goal.returns
returns c =
    let x = c.args.earlier in
    let p = c.requires in
    let w = doubled_by c.args.velocity x in
    rw (
      (let h : to_z w64 (of_z w64 x.snap2) ≡ x.snap2 = grind (arith, to_z-of_z) in h),
      (let h : to_z w64 (of_z w64 x.jerk1) ≡ x.jerk1 = grind (arith, to_z-of_z) in h),
      (let h : to_z w64 (of_z w64 x.jerk2) ≡ x.jerk2 = grind (arith, to_z-of_z) in h),
      (let h : to_z w64 (of_z w64 x.acceleration1) ≡ x.acceleration1 = grind (arith, to_z-of_z) in h),
      (let h : to_z w64 (of_z w64 x.velocity1) ≡ x.velocity1 = grind (arith, to_z-of_z) in h),
      to_z-of_z {w = w64} {z = c.args.velocity} c.ranges.velocity,
      to_z-of_z {w = w64} {z = w.d2} (within_53 _ p.d2),
      to_z-of_z {w = w64} {z = w.j2} (within_53 _ p.j2),
      to_z-of_z {w = w64} {z = w.a2} (within_53 _ p.a2),
      to_z-of_z {w = w64} {z = w.v2} (within_53 _ p.v2),
    )
    refl
