-- `search` meets its contract. The loop's invariant: what is least within the span that is left is least within the whole. The measure is
-- the span that is left.
use Prim.Native.Nat.{ℕ, ◌-◌, ◌≤◌}
use Rattle.planner.specs.Inner.Search.{growth, LeastWithin}
use Rattle.planner.proofs.search.search.Given as goal

abbrev pub invariant-loop-from : goal.invariant-loop-from
invariant-loop-from l = (l.from ≤ l.to) × (l.to ≤ l.hi) × ((r : ℕ) → LeastWithin l.t (growth l.u l.d) l.from l.to r → LeastWithin l.t (growth l.u l.d) l.lo l.hi r)

abbrev pub decreases-loop-from : goal.decreases-loop-from
decreases-loop-from l = l.to - l.from
