-- What the functions over a lent table of records answer: the day and the answer of a result. What a result leaves in the table and
-- in the page list is left in the lent ones.
use Rattle.std.specs.Prelude.{ℕ, ◌≡◌, List, length}
use Rattle.std.proofs.Math.Option.{Option}
use Rattle.snapshot.specs.Demand.{Result}
use Rattle.snapshot.specs.Days.{State, Item, refusal, accept}
use Rattle.snapshot.specs.declared.Day.{Day}
use Rattle.snapshot.specs.declared.Outcome.{Outcome}
use Rattle.snapshot.specs.declared.Refusal.{Refusal}
use Rattle.snapshot.specs.declared.Request.{Request}
use Rattle.requests.specs.Requests.{item_of}
use Rattle.unbounded.specs.declared.Process.{Process}
use Rattle.unbounded.specs.Registers.{ascending}
use Rattle.unbounded.specs.Days.{figure3}

-- the state that a day and a lent table are
abbrev pub state_of : Day → List Process → State Process
state_of d ps = record { day = d; table = ps }

-- the day and the answer of a result
abbrev pub outcome_of : Result (State Process) → Outcome
outcome_of r = record { day = r.state.day; answer = r.answer }

-- the refusal of an item, and what one does that is not refused
abbrev pub refusal_in : State Process → Item → Option Refusal
refusal_in s x = refusal (figure3 ascending) s x

abbrev pub accepted_in : State Process → Item → Result (State Process)
accepted_in s x = accept (figure3 ascending) s x

-- c is the refusal, if any, of a request with a page list of so many words, whatever they are
abbrev pub RefusedBy : Day → List Process → Request → (words : ℕ) → Option Refusal → Type 0
RefusedBy d ps x words c = (page : List ℕ) → length page ≡ words → c ≡ refusal_in (state_of d ps) (item_of page x)
