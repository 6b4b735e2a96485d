-- What a request leaves of a table of records, however they are kept.
use Rattle.std.specs.Prelude.{ℕ, Bool, true, false, cond, List}
use Rattle.snapshot.specs.Demand.{Result}
use Rattle.snapshot.specs.Days.{State}
use Rattle.snapshot.specs.declared.Day.{Day}
use Rattle.snapshot.specs.declared.Answer.{Answer}
use Rattle.snapshot.specs.declared.Answer.TheVariants.{Refused, Opened, Called, Read, Page, Written}
use Rattle.snapshot.specs.declared.Request.{Request}
use Rattle.unbounded.specs.declared.Process.{Process}
use Rattle.unbounded.specs.Days.{stepped}
use Rattle.requests.specs.Requests.{item_of}
use Rattle.process_records.specs.Forms.{Form, kept, left_by}
use Rattle.memory.specs.Tables.{state_of}

abbrev pub is_refused : Answer → Bool
is_refused (Refused k) = true
is_refused Opened = false
is_refused Called = false
is_refused Read = false
is_refused (Page lender at turns) = false
is_refused (Written turns) = false

module _ {R : Type 0} (form : Form R) where
  -- the table after a request with result r; a refusal leaves it
  abbrev pub table_left : List R → Request → Result (State Process) → List R
  table_left t x r = cond (is_refused r.answer) t (left_by form t x r.state.table)

  -- the step of the definitions on the records that a table keeps
  abbrev pub stepped_on : Day → List R → Request → (page : List ℕ) → Result (State Process)
  stepped_on d t x page = stepped (state_of d (kept form t)) (item_of page x)
