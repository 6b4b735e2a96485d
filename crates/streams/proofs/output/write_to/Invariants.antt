-- Each write takes the first of what is left, or nothing.
use Rattle.streams.proofs.Transfers.{Leaves}
use Rattle.streams.proofs.output.write_to.Given as goal

abbrev pub invariant-loop : goal.invariant-loop
invariant-loop g l = Leaves l.out l.rest
