-- The first records are 0, and the others as they were.
use mathlib.Core.Path.{◌≡◌}
use mathlib.Core.List.{map}
use Rattle.snapshot.specs.Lists.{over}
use Rattle.unbounded.specs.Processes.{zero_process}
use Rattle.memory.proofs.elements.clear_all.Given as goal

abbrev pub invariant-loop-r : goal.invariant-loop-r
invariant-loop-r g l = l.t ≡ over l.r-index (map (λ r. g.R.Record.form.fresh zero_process) l.initial.t) l.initial.t
