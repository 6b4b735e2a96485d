-- Figure 3 as a machine: the limits of document 01, and the day over it.
use Rattle.std.specs.Prelude.{ℕ, ◌+◌, ◌*◌, Bool, false, cond, ◌||◌, leb, ltb}
use Rattle.snapshot.specs.Refusals.{outside}
use Rattle.snapshot.specs.declared.Value.{Value}
use Rattle.snapshot.specs.Values.{stored, page_places, values_in}
use Rattle.snapshot.specs.Tally.{Job, scan, update}
use Rattle.snapshot.specs.Demand.{Method, Result}
use Rattle.snapshot.specs.Days as Days
use Rattle.snapshot.specs.Days.{Machine, State, Item}
use Rattle.unbounded.specs.declared.Process.{Process}
use Rattle.unbounded.specs.declared.Task.{Task}
use Rattle.unbounded.specs.declared.Task.TheVariants.{Idle, Scan, Update, Ready}
use Rattle.unbounded.specs.Registers.{value, Order, ascending}
use Rattle.unbounded.specs.Processes.{no_process, zero_process, is_idle, turns_of, task_of, begin}
use Rattle.unbounded.specs.Turns.{reads, turned}

-- ---- limits

-- "These are 2n²": the most reads of a scan
unfoldable pub most_reads : ℕ → ℕ
most_reads n = 2 * (n * n)

-- the same for 1 to 8 processes, and 0 for any other number
abbrev pub reads_up_to8 : ℕ → ℕ
reads_up_to8 n = cond (outside 1 8 n) 0 (most_reads n)

-- "An entry takes one turn more"
abbrev pub most_turns : ℕ → Job → ℕ
most_turns n scan = most_reads n
most_turns n (update register w) = most_reads n + 1

-- the same by the task: "its greatest number of turns (2n² for a page, 2n²+1 for an entry)" (document 02, K2), most being 2n²
abbrev pub greatest : (most : ℕ) → Task → ℕ
greatest most Idle = 0
greatest most (Scan t) = most
greatest most (Update w t) = most + 1
greatest most (Ready w at t) = most + 1

-- "a task being read has had more than 2n²−1 turns, or an entry ready to write more than 2n²", most being 2n²
abbrev pub overdue : ℕ → Task → Bool
overdue most Idle = false
overdue most (Scan t) = leb most t
overdue most (Update w t) = leb most t
overdue most (Ready w at t) = ltb most t

-- "the desk's own row has a seq or at above the event number", also "a row's own such number, those in its view aside" (K6), or its
-- task is overdue (refusal 11)
unfoldable pub unsound : (most event : ℕ) → Process → Bool
unsound most e p =
    ltb e p.register.seq || (ltb e p.register.at || (ltb e p.register.value.last || overdue most p.task))

-- ---- the machine

-- Figure 3, its registers read in an order
abbrev pub figure3 : Order → Machine
figure3 o =
    record {
      Process = Process;
      no_process = no_process;
      zero_process = zero_process;
      is_idle = λ p. is_idle p.task;
      greatest = λ n p. greatest (most_reads n) p.task;
      turns_had = λ p. turns_of p.task;
      unsound = λ n e p. unsound (most_reads n) e p;
      Value = Value;
      value = λ p. value p.register;
      stored = stored;
      page_length = page_places;
      shown = values_in;
      called = λ n j p. begin n (task_of j 0) p;
      reads = λ n p. reads o n p.task;
      turned = λ n i now other page p. turned o n now other.register page p;
      most = most_turns;
    }

-- its method for n processes, the day just opened for n, and one item on any day, table and page list
abbrev pub method : Order → ℕ → Method
method o n = Days.method (figure3 o) n

abbrev pub opened_for : ℕ → State Process
opened_for n = Days.opened_for (figure3 ascending) n

abbrev pub stepped : State Process → Item → Result (State Process)
stepped s x = Days.stepped (figure3 ascending) s x
