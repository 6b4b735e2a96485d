-- A run of turns (document 02, K4) on a table of packed records: the run of the definitions, each turn's table packed by the step
-- that gave it, and each answer as the numbers of its reply.
use Rattle.std.specs.Prelude.{ℕ, List, length}
use Rattle.snapshot.specs.declared.Day.{Day}
use Rattle.snapshot.specs.declared.Request.TheVariants.{Turn}
use Rattle.snapshot.specs.Values.{page_places}
use Rattle.snapshot.specs.Refusals.{first_cause}
use Rattle.snapshot.specs.Demand.{Result}
use Rattle.snapshot.specs.Days.{State}
use Rattle.snapshot.specs.Runs.{RunResult, run_causes, run_unless}
use Rattle.packed_table.specs.Tables.{table_after, stepped_in}
use Rattle.numbers.specs.Replies.{reply_words}
use Rattle.packed_requests.specs.Requests.{reply_to}

-- a turn of process d on words: its outcome and its page are those of the step on the records that they are
abbrev pub give_in : State (List ℕ) → ℕ → List ℕ → Result (State (List ℕ))
give_in s d page =
    let r = stepped_in s.day s.table (Turn d) page in
    record {
      state = record { day = r.state.day; table = table_after s.table (Turn d) r };
      answer = r.answer;
      page = r.page;
    }

-- what a table of replies holds of a turn: the numbers of its reply, in their order
abbrev pub told_in : {P : Type 0} → Result (State P) → List ℕ
told_in r = reply_words (reply_to r)

-- a run on a day and a table of packed records
unfoldable pub run_in : Day → (table : List (List ℕ)) → List ℕ → (replies : List (List ℕ)) → (pages : List ℕ) →
    RunResult (State (List ℕ)) (List ℕ)
run_in d t ds replies pages =
    let places = page_places d.count in
    run_unless give_in told_in places
    (first_cause (run_causes d.count (length t) places (length ds) (length replies) (length pages)))
    (record { day = d; table = t }) ds replies pages
