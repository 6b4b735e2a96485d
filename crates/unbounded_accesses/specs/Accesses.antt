-- What the next turn of a task goes by: which register it reads, if it reads one, and where in its double collect.
use Rattle.std.specs.Prelude.{ℕ, ◌+◌, ◌*◌, ◌≤◌, ◌<◌, ◌≡◌, Bool, true, false, List, length, get_or}
use Rattle.snapshot.specs.declared.Day.{Day}
use Rattle.snapshot.specs.Values.{page_places}
use Rattle.unbounded.specs.declared.Register.{Register}
use Rattle.unbounded.specs.declared.Process.{Process}
use Rattle.unbounded.specs.declared.Task.{Task}
use Rattle.unbounded.specs.declared.Task.TheVariants.{Idle, Scan, Update, Ready}
use Rattle.unbounded.specs.Processes.{no_process}
use Rattle.unbounded.specs.Turns.{position, place_at}
use Rattle.unbounded.specs.Days.{most_reads, overdue}
use Rattle.unbounded_accesses.specs.declared.Access.{Access}

-- an update that is ready to write: its next turn reads no register (document 01, What one turn does, 5)
abbrev pub is_ready : Task → Bool
is_ready Idle = false
is_ready (Scan t) = false
is_ready (Update w t) = false
is_ready (Ready w at t) = true

-- a day of 1 to 8 processes that is not full, and a task that is not overdue: what the refusals leave of a day on which a process
-- with task k has a turn, or an idle one calls
pub record Admits (day : Day) (k : Task) : Type 0 where
  pub some : 0 < day.count
  pub small : day.count ≤ 8
  pub room : day.event < 65535
  pub due : overdue (most_reads day.count) k ≡ false

-- where the next read of a task stands in its double collect (document 01, What one turn does, 1); 0 for a task that reads none
abbrev pub next_position : ℕ → Task → ℕ
next_position n Idle = 0
next_position n (Scan t) = position n t
next_position n (Update w t) = position n t
next_position n (Ready w at t) = 0

-- what the next turn of a task goes by: "Every accepted call or turn adds 1 to the event number; that is its own number"
unfoldable pub access_of : Day → Task → Access
access_of day k = record { n = day.count; now = day.event + 1; pos = next_position day.count k }

-- what a call goes by, which reads no register
unfoldable pub call_access : Day → Access
call_access day = record { n = day.count; now = day.event + 1; pos = 0 }

-- an access of 1 to 8 processes, within its double collect. It stays a clause, and no ghost field of `Access`: `access_of` is the access
-- of any day and task (`turn_is_steps`, `found_at`), and with the fact in the type it would ask for `Admits`, so these would too
pub record Sound (a : Access) : Type 0 where
  pub some : 0 < a.n
  pub small : a.n ≤ 8
  pub within : a.pos < 2 * a.n

-- the record whose register an access reads
abbrev pub reads_in : Access → ℕ
reads_in a = place_at a.n a.pos

-- that register in a table
abbrev pub register_in : Access → List Process → Register
register_in a ps = (get_or ps (reads_in a) no_process).register

-- a page list has room for the page that an access may find
abbrev pub RoomFor : Access → List ℕ → Type 0
RoomFor a page = page_places a.n ≤ length page
