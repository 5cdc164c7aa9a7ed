-- `of` meets its contract: D is small enough to be taken either way.
use mathlib.Core.Path.{◌≡◌, sym, ap, ◌∙◌}
use Prim.Native.Nat.{ℕ, ◌≤◌, ◌^◌}
use native.Mathlib.Omega.{arith}
use mir.Syntax.{w64}
use mir.Val.{to_z, of_z, SFits}
use mir.ValLaws.{to_z_pos}
use mir.Facts.{to_z-of_z}
use lib.IntN.{pos, neg_ℤ, ◌-ℤ◌, neg_ℤ-neg_ℤ}
use Rattle.planner.proofs.Sign.{negative_fits, negated}
use Rattle.planner.proofs.DirectionLaws.{along_negative, along_positive}
use Rattle.motion.proofs.switched.Levels.of.Goals as goal

module _ (n : ℕ) (h : n ≤ 2 ^ 60) where
  -- D as a signed number, and its negative
  read : to_z w64 n ≡ pos n
  read = to_z_pos w64 n (omega arith)

  taken-fits : SFits w64 (pos 0 -ℤ to_z w64 n)
  taken-fits = rw (negated n (omega arith)) (negative_fits n (omega arith))

  read_taken : to_z w64 (of_z w64 (pos 0 -ℤ to_z w64 n)) ≡ neg_ℤ (pos n)
  read_taken = to_z-of_z taken-fits ∙ negated n (omega arith)

pub returns-then-m-lt0 : goal.returns-then-m-lt0
returns-then-m-lt0 c =
    let n = c.args.size in
    let t = along_negative c.args.m.now.displacement (pos n) (grind (arith, to_z-of_z, c.if-m-lt0.true)) in
    record { positive_is = read_taken n c.requires ∙ sym t; negative_is = read n c.requires ∙ sym (ap neg_ℤ t ∙ neg_ℤ-neg_ℤ (pos n)) }

pub returns : goal.returns
returns c =
    let n = c.args.size in
    let t = along_positive c.args.m.now.displacement (pos n) (grind (arith, to_z-of_z, c.if-m-lt0.false)) in
    record { positive_is = read n c.requires ∙ sym t; negative_is = read_taken n c.requires ∙ sym (ap neg_ℤ t) }
