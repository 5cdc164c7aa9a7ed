-- `search` meets its contract. The loop's invariant: what is least within the span that is left is least within the whole. The measure is
-- the span that is left.
use Prim.Native.Nat.{ℕ, ◌+◌, ◌*◌, ◌/◌, ◌^◌, ◌≤◌}
use native.Mathlib.Nat.{mul-le-mul}
use native.Mathlib.Omega.{arith}
use Rattle.planner.proofs.SpanLaws.{within_one, within_left, within_right, within_target}
use Rattle.planner.proofs.ReachLaws.{pow_bound, growth_rising, growth_at_least}
use Rattle.planner.proofs.search.search.Goals as goal

pub loop-from-init : goal.loop-from-init
loop-from-init c =
    let a = c.args in
    let end = rw c.max.ensures at c.min-to.ensures in
    (omega arith, omega arith, λ r w. within_target (growth_at_least a.u a.d) end w)

pub overflow_mul-reached : goal.overflow_mul-reached
overflow_mul-reached c =
    let a = c.args in
    let n = c.loop-from in
    let mid : ℕ = (n.from + n.to) / 2 in
    let small : mid ≤ 16388 = omega arith in
    let bound : (a.u + mid) ^ a.d ≤ 2 ^ 45 = pow_bound (omega arith) (omega arith) in
    let product : mid * c.power.result ≤ 16388 * 2 ^ 45 = rw c.power.ensures (mul-le-mul small bound) in
    omega (arith, product)

pub loop-from-preserved-then-reached-t : goal.loop-from-preserved-then-reached-t
loop-from-preserved-then-reached-t c =
    let a = c.args in
    let n = c.loop-from in
    let mid : ℕ = (n.from + n.to) / 2 in
    let short = rw c.power.ensures at c.if-reached-t.true in
    (omega arith, omega arith, λ r w. n.invariant.2 r (within_right mid (growth_rising a.u a.d) (omega arith) (omega arith) short w))

pub loop-from-preserved : goal.loop-from-preserved
loop-from-preserved c =
    let n = c.loop-from in
    let reached = rw c.power.ensures at c.if-reached-t.false in
    (omega arith, omega arith, λ r w. n.invariant.2 r (within_left (omega arith) reached w))

pub returns : goal.returns
returns c = c.loop-from.invariant.2 _ (within_one c.if-from-to.true)
