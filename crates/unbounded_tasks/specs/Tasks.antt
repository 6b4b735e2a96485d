-- What a task becomes by a call and by a turn, and what the turn answers: document 01, What one turn does, by what the turn found.
use Rattle.std.specs.Prelude.{◌+◌, Bool, true, false, Option, None, Some}
use Rattle.std.specs.Option.{is_some}
use Rattle.snapshot.specs.declared.Request.{Request}
use Rattle.snapshot.specs.declared.Request.TheVariants as Requests
use Rattle.snapshot.specs.declared.Answer.{Answer}
use Rattle.snapshot.specs.declared.Answer.TheVariants.{Read, Page, Written}
use Rattle.unbounded.specs.declared.Task.{Task}
use Rattle.unbounded.specs.declared.Task.TheVariants.{Idle, Scan, Update, Ready}
use Rattle.unbounded_tasks.specs.declared.Found.{Found}
use Rattle.unbounded_tasks.specs.declared.Find.{Find}

-- the task that a call sets, which has had no turn
abbrev pub task_for : Request → Task
task_for (Requests.Open k) = Idle
task_for (Requests.Update d w) = Update w 0
task_for (Requests.Scan d) = Scan 0
task_for (Requests.Turn d) = Idle

-- what a task keeps of what a turn found: an update keeps the page
abbrev pub keeps_by : Find → Task → Option Found
keeps_by f Idle = None
keeps_by f (Scan t) = None
keeps_by f (Update w t) = f.page
keeps_by f (Ready w at t) = None

-- whether the turn ends its task
abbrev pub ends_by : Find → Task → Bool
ends_by f Idle = false
ends_by f (Scan t) = is_some f.page
ends_by f (Update w t) = false
ends_by f (Ready w at t) = true

-- the task after the turn
abbrev pub task_by : Find → Task → Task
task_by f Idle = Idle
task_by f (Scan t) = elim f.page [ None ↦ Scan (t + 1) | Some page ↦ Idle ]
task_by f (Update w t) = elim f.page [ None ↦ Update w (t + 1) | Some page ↦ Ready w page.at (t + 1) ]
task_by f (Ready w at t) = Idle

-- the answer of a turn that found f
abbrev pub answer_by : Find → Task → Answer
answer_by f Idle = Read
answer_by f (Scan t) = elim f.page [ None ↦ Read | Some page ↦ Page page.lender page.at (t + 1) ]
answer_by f (Update w t) = Read
answer_by f (Ready w at t) = Written (t + 1)
