-- The answers as the paper has them: the number of each refusal, and the machine that is sent. Every field of every case is read.
use Rattle.std.specs.Prelude.{ℕ, Float, Ok, Err, Result}
use Rattle.planner.specs.Outcome as planner
use Rattle.motion.specs.ForceRows.Machine as machine
use Rattle.motion.specs.declared.Machine.{Machine}
use Rattle.motion.specs.declared.MotionRefusal.{MotionRefusal}
use Rattle.motion.specs.declared.MotionRefusal.TheVariants.{Unplanned, ShortTable, PastEnd, MachineRange}

-- Document 01's table, column "No."; 13 is among the planner's.
abbrev pub number : MotionRefusal → ℕ
number (Unplanned x) = planner.number x
number ShortTable = 8
number PastEnd = 9
number MachineRange = 10

-- The machine's numbers as they were sent.
abbrev pub machine_of : Machine → machine.Machine Float
machine_of m = record { m1 = m.m1; m2 = m.m2; k1 = m.k1; k2 = m.k2; k12 = m.k12; c = m.c }

-- Of any entry: what it gives, or the number of its refusal.
abbrev pub outcome : {A : Type 0} → Result A MotionRefusal → Result A ℕ
outcome (Ok x) = Ok x
outcome (Err x) = Err (number x)
