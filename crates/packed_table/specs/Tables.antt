-- What a request leaves of a table of packed records.
use Rattle.std.specs.Prelude.{ℕ, cond, List}
use Rattle.snapshot.specs.Demand.{Result}
use Rattle.snapshot.specs.Days.{State}
use Rattle.snapshot.specs.declared.Day.{Day}
use Rattle.snapshot.specs.declared.Request.{Request}
use Rattle.unbounded.specs.declared.Process.{Process}
use Rattle.unbounded.specs.Days.{stepped}
use Rattle.requests.specs.Requests.{item_of}
use Rattle.memory.specs.Tables.{state_of}
use Rattle.memory.specs.Left.{is_refused}
use Rattle.packed_rows.specs.Rows.{unpacked_all, packed_by}

-- the words after a request with result r; a refusal leaves them
abbrev pub table_after : List (List ℕ) → Request → Result (State Process) → List (List ℕ)
table_after t x r = cond (is_refused r.answer) t (packed_by t x r.state.table)

-- the step of the definitions on the records that the words are
abbrev pub stepped_in : Day → List (List ℕ) → Request → (page : List ℕ) → Result (State Process)
stepped_in d t x page = stepped (state_of d (unpacked_all t)) (item_of page x)
