-- The files before i were tried, and their answers are gathered.
use Rattle.std.proofs.Common.{◌-◌, length}
use Rattle.quarters.specs.Days.{AreRead}
use Rattle.quarters.proofs.read_days.Given as goal

abbrev pub invariant-loop-i : goal.invariant-loop-i
invariant-loop-i g l = AreRead (l.i - 2) (length l.bytes) l.initial.answers l.answers l.count
