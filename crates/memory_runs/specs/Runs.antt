-- A run of turns of Figure 3 (document 02, K4), how it gives a turn, and what it is told of it.
use Rattle.std.specs.Prelude.{ℕ, List}
use Rattle.snapshot.specs.declared.Day.{Day}
use Rattle.snapshot.specs.declared.Answer.{Answer}
use Rattle.snapshot.specs.Demand.{Result}
use Rattle.snapshot.specs.Days.{State}
use Rattle.snapshot.specs.Runs.{RunResult, give_turn, ran}
use Rattle.unbounded.specs.declared.Process.{Process}
use Rattle.unbounded.specs.Registers.{ascending}
use Rattle.unbounded.specs.Days.{figure3}
use Rattle.memory.specs.Tables.{state_of}

abbrev pub give : State Process → ℕ → List ℕ → Result (State Process)
give = give_turn (figure3 ascending)

abbrev pub told : Result (State Process) → Answer
told r = r.answer

-- a run on a day and a lent table: its answers are those of the core
abbrev pub run_on : Day → List Process → List ℕ → List Answer → List ℕ → RunResult (State Process) Answer
run_on d ps ds answers pages = ran (figure3 ascending) (λ r. r.answer) (state_of d ps) ds answers pages
