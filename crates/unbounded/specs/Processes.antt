-- The record of a process (document 01: a desk's record), and what a call and an answer do to it.
use Rattle.std.specs.Prelude.{ℕ, Bool, true, false, [], replicate}
use Rattle.snapshot.specs.Lists.{over}
use Rattle.snapshot.specs.Values.{zero_value}
use Rattle.snapshot.specs.Marks.{none_moved}
use Rattle.snapshot.specs.Tally.{Job, scan, update}
use Rattle.unbounded.specs.declared.Register.{Register}
use Rattle.unbounded.specs.declared.Process.{Process}
use Rattle.unbounded.specs.declared.Task.{Task}
use Rattle.unbounded.specs.declared.Task.TheVariants.{Idle, Scan, Update, Ready}
use Rattle.unbounded.specs.Registers.{no_register, zero_register, cleared}

-- no task
abbrev pub is_idle : Task → Bool
is_idle Idle = true
is_idle (Scan t) = false
is_idle (Update w t) = false
is_idle (Ready w at t) = false

-- "the accepted turns it has had"
abbrev pub turns_of : Task → ℕ
turns_of Idle = 0
turns_of (Scan t) = t
turns_of (Update w t) = t
turns_of (Ready w at t) = t

-- the task of a job that reads, after so many turns
abbrev pub task_of : Job → (turns : ℕ) → Task
task_of scan t = Scan t
task_of (update register w) t = Update w t

-- no process: what a place that a table does not have is taken for
abbrev pub no_process : Process
no_process =
    record { register = no_register; task = Idle; first = []; second = []; first_end = 0; view = []; moved = [] }

-- "every number in the records to 0, all desks idle"
abbrev pub zero_process : Process
zero_process =
    record {
      register = zero_register;
      task = Idle;
      first = replicate 8 zero_register;
      second = replicate 8 zero_register;
      first_end = 0;
      view = replicate 8 zero_value;
      moved = none_moved;
    }

-- "A call, and the answer that ends a task, set the collected part, the marks and any kept view and its at to 0": p with
-- register r and task k
abbrev pub emptied : ℕ → Register → Task → Process → Process
emptied n r k p =
    record {
      register = r;
      task = k;
      first = cleared n p.first;
      second = cleared n p.second;
      first_end = 0;
      view = over n (replicate 8 zero_value) p.view;
      moved = none_moved;
    }

-- p with task k and the register that it has
unfoldable pub begin : ℕ → Task → Process → Process
begin n k p = emptied n p.register k p
