-- `unbounded_finds::collects::values` meets its contract: the values that were passed are laid over zeros.
use mathlib.Core.Path.{◌≡◌}
use lib.ListN.{replicate}
use Rattle.snapshot.specs.Lists.{over}
use Rattle.snapshot.specs.Values.{zero_value}
use Rattle.unbounded.specs.Registers.{ascending, page_of}
use Rattle.unbounded_finds.proofs.collects.values.Given as goal

abbrev pub invariant-loop-j : goal.invariant-loop-j
invariant-loop-j l = l.shown ≡ over l.j (page_of ascending l.n l.rs) (replicate 8 zero_value)
