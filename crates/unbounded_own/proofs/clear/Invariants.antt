-- The first registers are clear, and the others as they were.
use mathlib.Core.Path.{◌≡◌}
use mathlib.Core.List.{map}
use Rattle.snapshot.specs.Lists.{over}
use Rattle.unbounded.specs.Registers.{laid, zero_register}
use Rattle.unbounded_own.proofs.clear.Given as goal

abbrev pub invariant-loop-r : goal.invariant-loop-r
invariant-loop-r l = l.rs ≡ over l.r-index (map (laid l.n zero_register) l.initial.rs) l.initial.rs
