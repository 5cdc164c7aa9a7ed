-- `as_read` meets its contract.
use Rattle.motion.specs.ForceRows.Machine.{machine_as_read}
use Rattle.motion.proofs.Machine.as_read.Goals as goal

pub returns : goal.returns
unfolding machine_as_read
returns c =
    λ i.
    record {
      m1 = c.as_read.ensures i;
      m2 = c.as_read-2.ensures i;
      k1 = c.as_read-3.ensures i;
      k2 = c.as_read-4.ensures i;
      k12 = c.as_read-5.ensures i;
      c = c.as_read-6.ensures i;
    }
