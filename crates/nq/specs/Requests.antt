-- The library's version, the reply to a run, and what mending comes to, by numbers.
use Rattle.std.specs.Prelude.{ℕ, Result, Ok, Err, List}
use Rattle.snapshot.specs.Days.{State}
use Rattle.snapshot.specs.Runs.{RunResult}
use Rattle.snapshot.specs.Refusals.{number_of}
use Rattle.snapshot.specs.declared.Refusal.{Refusal}
use Rattle.mender.specs.declared.Mended.{Mended}
use Rattle.numbers.specs.declared.ReplyNumbers.{ReplyNumbers}
use Rattle.numbers.specs.Replies.{run_numbers}
use Rattle.nq.specs.declared.MendingNumbers.{MendingNumbers}

-- the version of the functions, their parameters, and the layout of records and replies
abbrev pub version : ℕ
version = 4

-- the reply to a run with result r
abbrev pub run_reply : RunResult (State (List ℕ)) (List ℕ) → ReplyNumbers
run_reply r = run_numbers r.state.day r.refusal

-- what mending a day file comes to: "the counts written", or a refusal's number
abbrev pub mending_numbers : Result Mended Refusal → MendingNumbers
mending_numbers (Ok m) = record { kept = m.kept; drops = m.drops; refusal = 0 }
mending_numbers (Err k) = record { kept = 0; drops = 0; refusal = number_of k }
