-- What asking a record of the table comes to: its outcome, the table and the page list afterwards, by the step of the definitions.
use Rattle.std.specs.Prelude.{ℕ, Bool, true, false, cond, Option, Some, None, List, ltb}
use Rattle.snapshot.specs.Demand.{Result}
use Rattle.snapshot.specs.Days.{State}
use Rattle.snapshot.specs.declared.Day.{Day}
use Rattle.snapshot.specs.declared.Outcome.{Outcome}
use Rattle.snapshot.specs.declared.Request.{Request}
use Rattle.snapshot.specs.declared.Request.TheVariants.{Open, Update, Scan, Turn}
use Rattle.snapshot.specs.declared.Answer.TheVariants.{Read}
use Rattle.dayfile.specs.declared.Reading.{Reading}
use Rattle.dayfile.specs.declared.Reading.TheVariants.{Found, End, Refused}
use Rattle.unbounded.specs.declared.Process.{Process}
use Rattle.unbounded.specs.Days.{stepped}
use Rattle.requests.specs.Requests.{item_of, page_after}
use Rattle.memory.specs.Tables.{state_of, outcome_of}

-- whether no record was found
abbrev pub is_none : Reading → Bool
is_none (Found x next) = false
is_none End = true
is_none (Refused k) = true

-- the request that was found, if one was
abbrev pub request_in : Reading → Option Request
request_in (Found x next) = Some x
request_in End = None
request_in (Refused k) = None

-- the request that was found; where none was, one that is not asked
abbrev pub request_of : Reading → Request
request_of (Found x next) = x
request_of End = Turn 0
request_of (Refused k) = Turn 0

-- how many records a request wants: as many as an opening asks for, else as the day has processes ("The table of desk records, one
-- record for each desk, is lent to every call")
abbrev pub wanted : Day → Request → ℕ
wanted d (Open k) = k
wanted d (Update p w) = d.count
wanted d (Scan p) = d.count
wanted d (Turn p) = d.count

-- how many of eight records are lent to it
unfoldable pub lent_to : Day → Request → ℕ
lent_to d x = let n = wanted d x in cond (ltb n 8) n 8

-- nothing is asked: the day stays
abbrev pub unasked_of : Day → Outcome
unasked_of d = record { day = d; answer = Read }

-- what asking request x of a day, its table ps and a page list comes to
abbrev pub stepped_by : Day → List Process → List ℕ → Request → Result (State Process)
stepped_by d ps page x = stepped (state_of d ps) (item_of page x)

abbrev pub asked_outcome : Day → List Process → List ℕ → Reading → Outcome
asked_outcome d ps page (Found x next) = outcome_of (stepped_by d ps page x)
asked_outcome d ps page End = unasked_of d
asked_outcome d ps page (Refused k) = unasked_of d

abbrev pub asked_table : Day → List Process → List ℕ → Reading → List Process
asked_table d ps page (Found x next) = (stepped_by d ps page x).state.table
asked_table d ps page End = ps
asked_table d ps page (Refused k) = ps

abbrev pub asked_page : Day → List Process → List ℕ → Reading → List ℕ
asked_page d ps page (Found x next) = page_after page (stepped_by d ps page x) x
asked_page d ps page End = page
asked_page d ps page (Refused k) = page
