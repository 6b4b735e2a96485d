-- What the functions on one process record compute, step by step. That together they are a turn of `Turns` is proved
-- (proofs/Steps).
use Rattle.std.specs.Prelude.{ℕ, ◌+◌, Bool, cond, List, Option, None, Some}
use Rattle.snapshot.specs.Lists.{over}
use Rattle.snapshot.specs.declared.Value.{Value}
use Rattle.snapshot.specs.Values.{stored}
use Rattle.snapshot.specs.Marks.{mark_from}
use Rattle.unbounded.specs.declared.Register.{Register}
use Rattle.unbounded.specs.declared.Process.{Process}
use Rattle.unbounded.specs.declared.Task.{Task}
use Rattle.unbounded.specs.declared.Task.TheVariants.{Idle, Scan, Update, Ready}
use Rattle.unbounded.specs.Registers.{ascending, differs, laid, cleared}
use Rattle.unbounded.specs.Processes.{emptied, begin}
use Rattle.unbounded.specs.Turns.{first_after, second_after, end_after}
use Rattle.unbounded_accesses.specs.declared.Access.{Access}
use Rattle.unbounded_tasks.specs.declared.Found.{Found}
use Rattle.unbounded_tasks.specs.declared.Find.{Find}
use Rattle.unbounded_tasks.specs.Tasks.{keeps_by, ends_by, task_by}

-- p with another task
abbrev pub with_task : Task → Process → Process
with_task k p =
    record {
      register = p.register;
      task = k;
      first = p.first;
      second = p.second;
      first_end = p.first_end;
      view = p.view;
      moved = p.moved;
    }

-- p with another collected part: the collects, the end of the first, the view and the marks
abbrev pub with_collected : (first second : List Register) → (end : ℕ) → (view : List Value) → (marks : List Bool) → Process → Process
with_collected first second end view marks p =
    record {
      register = p.register;
      task = p.task;
      first = first;
      second = second;
      first_end = end;
      view = view;
      moved = marks;
    }

-- p with the first n places of both collects set to 0
unfoldable pub cleared_both : ℕ → Process → Process
cleared_both n p = with_collected (cleared n p.first) (cleared n p.second) p.first_end p.view p.moved p

-- p once a task k is begun, or ended with none: nothing is collected
unfoldable pub begun_by : Access → Task → Process → Process
begun_by a k p = begin a.n k p

-- a view with the page that a task keeps, if it keeps one, laid over it
abbrev pub view_with : ℕ → Option Found → List Value → List Value
view_with n None v = v
view_with n (Some page) v = over n page.view v

-- the record p of task k once r is read, with the task that it had
unfoldable pub read_by : Access → Register → Process → Find → Task → Process
read_by a r p f k =
    let first = first_after a.n a.pos r p.first in
    let second = second_after a.n a.pos r p.second in
    record {
      register = p.register;
      task = p.task;
      first = first;
      second = second;
      first_end = end_after a.n a.pos a.now p.first_end;
      view = view_with a.n (keeps_by f k) p.view;
      moved = mark_from (differs ascending first second) f.passed 0 p.moved;
    }

-- ---- the same in the parts that a turn stores one by one

-- p once r is read: laid into its place of its collect
unfoldable pub collected_by : Access → Register → Process → Process
collected_by a r p =
    let first = first_after a.n a.pos r p.first in
    let second = second_after a.n a.pos r p.second in
    with_collected first second p.first_end p.view p.moved p

-- p once its task k keeps the page of f, if it does
unfoldable pub kept_by : Access → Find → Task → Process → Process
kept_by a f k p = with_collected p.first p.second p.first_end (view_with a.n (keeps_by f k) p.view) p.moved p

-- p once each process is marked that the search of f passed and that moved
unfoldable pub marked_by : Find → Process → Process
marked_by f p =
    let marks = mark_from (differs ascending p.first p.second) f.passed 0 p.moved in
    with_collected p.first p.second p.first_end p.view marks p

-- ---- the end of a turn

-- a register after the turn of its process: an update that is ready writes it, with the view that it keeps
abbrev pub written_over : Access → Register → (view : List Value) → Task → Register
written_over a old v Idle = old
written_over a old v (Scan t) = old
written_over a old v (Update w t) = old
written_over a old v (Ready w at t) = laid a.n (record { value = stored a.now w; seq = old.seq + 1; view = v; at = at }) old

abbrev pub written_by : Access → Process → Task → Register
written_by a p k = written_over a p.register p.view k

-- the record p of task k after the turn
unfoldable pub state_by : Access → Register → Process → Find → Task → Process
state_by a r p f k =
    cond (ends_by f k) (emptied a.n (written_by a p k) Idle p) (with_task (task_by f k) (read_by a r p f k))
