-- The passes so far.
use Rattle.laps.specs.Progress.{Rests, stand_of}
use Rattle.day_runner.proofs.Passing.{Made}
use Rattle.day_runner.proofs.passes.Given as goal

abbrev pub invariant-loop : goal.invariant-loop
invariant-loop l = record {
  rests : Rests l.ran.progress 6138 278528 16;
  made : Made l.counter (stand_of l.ran l.b.page l.b.bytes l.b.out);
}
