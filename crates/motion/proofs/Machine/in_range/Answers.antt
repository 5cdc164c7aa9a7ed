-- `in_range` meets its contract.
use mathlib.Core.Path.{refl}
use lib.Ieee.{of_bits}
use Rattle.motion.specs.ForceRows.Machine.{machine_in_range}
use Rattle.motion.proofs.Machine.in_range.Goals as goal

pub returns : goal.returns
unfolding machine_in_range of_bits
returns c =
    rw (
      c.in_range.ensures,
      c.in_range-2.ensures,
      c.in_range-3.ensures,
      c.in_range-4.ensures,
      c.in_range-5.ensures,
      c.in_range-6.ensures,
    ) refl
