-- `values::lay_values` meets its contract: the values that were passed are laid into the list.
use Rattle.snapshot.proofs.Values.{LaidTo}
use Rattle.values.proofs.lay_values.Given as goal

abbrev pub invariant-loop-j : goal.invariant-loop-j
invariant-loop-j l = LaidTo l.n l.j l.fn.values l.initial.page l.page
