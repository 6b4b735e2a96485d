-- The day over a machine of process records: what is asked of it, its refusals in the order of document 01, and what an accepted
-- item does. A method states its record, its turn and its counts; all else is the same for every method.
use Rattle.std.specs.Prelude.{ℕ, ◌+◌, ◌-◌, Bool, false, not, ◌||◌, List, [], ◌∷◌, map, length, get_or, set, take, replicate, eqb, ltb}
use Rattle.std.proofs.Math.Option.{Option, none, some}
use Rattle.snapshot.specs.declared.Day.{Day}
use Rattle.snapshot.specs.declared.Refusal.{Refusal}
use Rattle.snapshot.specs.declared.Refusal.TheVariants.{CountRange, ProcessRange, Busy, Idle, DayFull, LentSize}
use Rattle.snapshot.specs.declared.Refusal.TheVariants.{OpenState, CannotArise}
use Rattle.snapshot.specs.declared.Answer.TheVariants.{Opened, Called}
use Rattle.snapshot.specs.Lists.{some_of, sum_of}
use Rattle.snapshot.specs.Refusals.{Cause, first_cause, outside, is_past, is_full}
use Rattle.snapshot.specs.Tally.{Job, scan, update, Seen, opening, call, turn}
use Rattle.snapshot.specs.Demand.{Method, Result, step}

-- a method as a machine: a call or a turn changes the record of its own process, and a turn reads at most one record more
pub record Machine : Type 1 where
  -- a process record; what a place that a table does not have is taken for; "every number in the records to 0, all desks idle"
  pub Process : Type 0
  pub no_process : Process
  pub zero_process : Process
  -- it has no task; the greatest number of turns of its task on a day of n processes, 0 for none, and the accepted turns that the
  -- task has had; it cannot have arisen on such a day at event e
  pub is_idle : Process → Bool
  pub greatest : (n : ℕ) → Process → ℕ
  pub turns_had : Process → ℕ
  pub unsound : (n e : ℕ) → Process → Bool
  -- what a page shows of its register, and what that is once event e has written a word
  pub Value : Type 0
  pub value : Process → Value
  pub stored : (e word : ℕ) → Value
  -- how many places of a page list a page takes, and what these places show
  pub page_length : (n : ℕ) → ℕ
  pub shown : (n : ℕ) → List ℕ → List Value
  -- its record after a call
  pub called : (n : ℕ) → Job → Process → Process
  -- the process, from 0, whose record its next turn reads, if that turn reads one
  pub reads : (n : ℕ) → Process → Option ℕ
  -- that turn, numbered now, of process i, from 0: it is given the record that it reads and a page list
  pub turned : (n i now : ℕ) → (other : Process) → (page : List ℕ) → Process → Result Process
  -- the most accepted turns of a job
  pub most : (n : ℕ) → Job → ℕ

-- the day and the table of process records that is lent with it
pub record State (Process : Type 0) : Type 0 where
  pub day : Day
  pub table : List Process

-- what can be asked of a day; processes are numbered from 1, and a turn lends a page list
pub data Item : Type 0 where
  open_for : (count : ℕ) → Item
  update_call : (process word : ℕ) → Item
  scan_call : (process : ℕ) → Item
  turn_of : (process : ℕ) → (page : List ℕ) → Item

-- what the tally sees of an item: an update's register is its process's own
abbrev pub sees : Item → Seen
sees (open_for k) = opening
sees (update_call d w) = call d (update d w)
sees (scan_call d) = call d scan
sees (turn_of d page) = turn d

-- the page list that an item lends
abbrev pub page_lent : Item → List ℕ
page_lent (open_for k) = []
page_lent (update_call d w) = []
page_lent (scan_call d) = []
page_lent (turn_of d page) = page

-- ---- refusals

-- 11: "if the desk count is above 8, the event number above 65,535, or if in any of the n records .."; K2: "also when event number
-- plus all turns owed", here end, "exceeds 65,535", as it does where the event number alone is above it
abbrev pub cannot_arise : (count end : ℕ) → (bad : Bool) → Bool
cannot_arise count end bad = ltb 8 count || (is_past end || bad)

module _ (M : Machine) where
  -- process d of the table
  abbrev pub process_of : State M.Process → ℕ → M.Process
  process_of s d = get_or s.table (d - 1) M.no_process

  -- K2: "A task owes its greatest number of turns .. less the turns it has had"; and "all turns owed"
  abbrev pub process_owes : (n : ℕ) → M.Process → ℕ
  process_owes n p = M.greatest n p - M.turns_had p

  abbrev pub table_owes : State M.Process → ℕ
  table_owes s = sum_of (process_owes s.day.count) s.table

  -- "if in any of the n records .."
  abbrev pub some_unsound : State M.Process → Bool
  some_unsound s = some_of (M.unsound s.day.count s.day.event) s.table

  -- "Order for opening: 10, 1, 6 (the table must have the asked number of records)"
  abbrev pub opening_causes : State M.Process → ℕ → List Cause
  opening_causes s k =
      (not (eqb s.day.count 0), OpenState) ∷ (outside 1 8 k, CountRange) ∷ (not (eqb (length s.table) k), LentSize) ∷ []

  -- "For calls and turns: 10, 6, 11, 2, then 3 or 4, then 5": of process d, by whether a page list is short, and what comes last
  abbrev pub causes : State M.Process → (d : ℕ) → (short : Bool) → (last : List Cause) → List Cause
  causes s d short last =
      (eqb s.day.count 0, OpenState)
      ∷ (not (eqb (length s.table) s.day.count) || short, LentSize)
      ∷ (cannot_arise s.day.count (s.day.event + table_owes s) (some_unsound s), CannotArise)
      ∷ (outside 1 s.day.count d, ProcessRange)
      ∷ last

  -- 3: "a call by a desk that isn't idle"; 5 of the job that the call asks for
  abbrev pub last_of_call : State M.Process → ℕ → Job → List Cause
  last_of_call s d j =
      (not (M.is_idle (process_of s d)), Busy) ∷ (is_full s.day.event (table_owes s) (M.most s.day.count j), DayFull) ∷ []

  -- 4: "a turn for an idle desk"; of 5, "a turn never meets it now"
  abbrev pub last_of_turn : State M.Process → ℕ → List Cause
  last_of_turn s d = (M.is_idle (process_of s d), Idle) ∷ []

  abbrev pub call_causes : State M.Process → ℕ → Job → List Cause
  call_causes s d j = causes s d false (last_of_call s d j)

  -- 6: "on a turn, the page list has fewer than n words", by K6 fewer than 2n
  abbrev pub turn_causes : State M.Process → ℕ → List ℕ → List Cause
  turn_causes s d page = causes s d (ltb (length page) (M.page_length s.day.count)) (last_of_turn s d)

  -- "Only the number is returned": the first cause that holds
  unfoldable pub refusal : State M.Process → Item → Option Refusal
  refusal s (open_for k) = first_cause (opening_causes s k)
  refusal s (update_call d w) = first_cause (call_causes s d (update d w))
  refusal s (scan_call d) = first_cause (call_causes s d scan)
  refusal s (turn_of d page) = first_cause (turn_causes s d page)

  -- ---- what an accepted item does

  -- "Opening sets the desk count to the number asked, and the event number and every number in the records to 0"
  unfoldable pub opened_by : State M.Process → ℕ → State M.Process
  opened_by s k = record { day = record { count = k; event = 0 }; table = map (λ p. M.zero_process) s.table }

  -- "Every accepted call or turn adds 1 to the event number": the day one event on, with p for process d
  unfoldable pub advance : State M.Process → ℕ → M.Process → State M.Process
  advance s d p =
      record { day = record { count = s.day.count; event = s.day.event + 1 }; table = set s.table (d - 1) p }

  -- a call of process d: its record, with the task of the job
  unfoldable pub called_by : State M.Process → ℕ → Job → State M.Process
  called_by s d j = advance s d (M.called s.day.count j (process_of s d))

  -- the one record that is read
  abbrev pub read_from : List M.Process → Option ℕ → M.Process
  read_from ps none = M.no_process
  read_from ps (some j) = get_or ps j M.no_process

  -- "one desk's record is lent and changed, and the rows of the others are only read"
  unfoldable pub turn_by : State M.Process → ℕ → List ℕ → Result M.Process
  turn_by s d page =
      let n = s.day.count in
      let p = process_of s d in
      M.turned n (d - 1) (s.day.event + 1) (read_from s.table (M.reads n p)) page p

  -- the state that an accepted item leaves, its answer, and its page list: "all words on any other turn, remain"
  unfoldable pub accept : State M.Process → Item → Result (State M.Process)
  accept s (open_for k) = record { state = opened_by s k; answer = Opened; page = [] }
  accept s (update_call d w) = record { state = called_by s d (update d w); answer = Called; page = [] }
  accept s (scan_call d) = record { state = called_by s d scan; answer = Called; page = [] }
  accept s (turn_of d page) =
      let r = turn_by s d page in
      record { state = advance s d r.state; answer = r.answer; page = r.page }

  -- ---- the machine as a method

  -- for n processes; a register for each, and a page list shows what its first places do
  abbrev pub method : ℕ → Method
  method n =
      record {
        State = State M.Process;
        Item = Item;
        refusal = refusal;
        accept = accept;
        sees = sees;
        page_lent = page_lent;
        Value = M.Value;
        stored = M.stored;
        shown = λ page. M.shown n (take (M.page_length n) page);
        event = λ s. s.day.event;
        words = λ s. map M.value s.table;
        processes = n;
        page_length = M.page_length n;
        most = M.most n;
      }

  -- a day just opened for n processes
  unfoldable pub opened_for : ℕ → State M.Process
  opened_for n = record { day = record { count = n; event = 0 }; table = replicate n M.zero_process }

  -- one item on any day, table and page list
  unfoldable pub stepped : State M.Process → Item → Result (State M.Process)
  stepped s x = step (method s.day.count) s x
