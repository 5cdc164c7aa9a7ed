-- `divided` meets its contract: the product of the intervals of a move of at most 4,096 samples fits 64 bits.
use native.Mathlib.Omega.{arith}
use Rattle.planner.proofs.BoundLaws.{product_positive}
use Rattle.planner.proofs.ProductBound.{product_bound}
use Rattle.planner.proofs.Plan.divided.Goals as goal

pub overflow_mul-self-3 : goal.overflow_mul-self-3
overflow_mul-self-3 c = omega (arith, product_bound c.requires.ordered c.requires.samples)

pub divide-d-requires : goal.divide-d-requires
divide-d-requires c = product_positive c.requires.ordered
