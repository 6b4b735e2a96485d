-- `unbounded_finds::collects::mark` meets its contract: the processes that were passed are marked as the search marks them.
use mathlib.Core.Path.{◌≡◌}
use Rattle.snapshot.specs.Marks.{mark_from}
use Rattle.unbounded.specs.Registers.{ascending, differs}
use Rattle.unbounded_finds.proofs.collects.mark.Given as goal

abbrev pub invariant-loop-j : goal.invariant-loop-j
invariant-loop-j l = l.ms ≡ mark_from (differs ascending l.a l.b) l.j 0 l.initial.ms
