-- The reads so far.
use Rattle.streams.proofs.Whole.{Coming}
use Rattle.streams.proofs.input.whole.Given as goal

abbrev pub invariant-loop : goal.invariant-loop
invariant-loop g l = Coming l.input l.bytes l.counter
