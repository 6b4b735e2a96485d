-- What a turn takes for granted of the table that it is lent: an accepted turn finds it so (proofs/Accepted).
use Rattle.std.specs.Prelude.{ℕ, ◌≤◌, ◌<◌, ◌≡◌, List, length, get_or}
use Rattle.snapshot.specs.declared.Day.{Day}
use Rattle.unbounded.specs.declared.Register.{Register}
use Rattle.unbounded.specs.declared.Process.{Process}
use Rattle.unbounded.specs.declared.Task.{Task}
use Rattle.unbounded.specs.Processes.{no_process, turns_of}
use Rattle.unbounded_tasks.specs.declared.Find.{Find}
use Rattle.unbounded_accesses.specs.Accesses.{Admits, access_of, register_in}
use Rattle.unbounded_finds.specs.Finds.{find_of}

-- record i of a table for the day's processes, with task k
pub record TurnAt (day : Day) (ps : List Process) (i : ℕ) (k : Task) : Type 0 where
  pub allows : Admits day k
  pub full : day.count ≤ length ps
  pub inside : i < length ps
  pub task : (get_or ps i no_process).task ≡ k
  pub seq : (get_or ps i no_process).register.seq < 4294967295
  pub turns : turns_of k < 4294967295

-- the register that task k reads, and what record i finds by it
abbrev pub read_at : Day → List Process → Task → Register
read_at day ps k = register_in (access_of day k) ps

abbrev pub found_at : Day → List Process → (i : ℕ) → Task → Find
found_at day ps i k = find_of (access_of day k) (read_at day ps k) (get_or ps i no_process)
