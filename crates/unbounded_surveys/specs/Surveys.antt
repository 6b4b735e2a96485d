-- What a look at the records of a table finds, one record at a time (refusals 11 and 5).
use Rattle.std.specs.Prelude.{ℕ, ◌+◌, false, ◌||◌, ltb}
use Rattle.snapshot.specs.declared.Day.{Day}
use Rattle.table_surveys.specs.declared.Survey.{Survey}
use Rattle.table_surveys.specs.Surveys.{survey_with, waits_by}
use Rattle.unbounded.specs.declared.Process.{Process}
use Rattle.unbounded.specs.declared.Task.{Task}
use Rattle.unbounded.specs.declared.Task.TheVariants.{Idle, Scan, Update, Ready}
use Rattle.unbounded.specs.Days.{reads_up_to8}

-- before any record is looked at: the limits of a day
unfoldable pub survey_of : Day → Survey
survey_of day =
    record {
      scan_most = reads_up_to8 day.count;
      update_more = 1;
      event = day.event;
      end = day.event;
      bad = false;
    }

-- once a register is looked at too: "the desk's own row has a seq or at above the event number", also the number of its last writing
unfoldable pub register_seen : Survey → (seq at last : ℕ) → Survey
register_seen s seq at last =
    survey_with s s.end (s.bad || (ltb s.event seq || (ltb s.event at || ltb s.event last)))

-- once a task is looked at too: "a task being read has had more than 2n²−1 turns, or an entry ready to write more than 2n²", or what it
-- owes, "its greatest number of turns (2n² for a page, 2n²+1 for an entry) less the turns it has had"
unfoldable pub task_seen : Survey → Task → Survey
task_seen s Idle = s
task_seen s (Scan t) = waits_by s s.scan_most 0 t
task_seen s (Update w t) = waits_by s s.scan_most s.update_more t
task_seen s (Ready w at t) = waits_by s (s.scan_most + s.update_more) 0 t

-- once a record is looked at too: "if in any of the n records .."
unfoldable pub surveyed_by : Survey → Process → Survey
surveyed_by s p = task_seen (register_seen s p.register.seq p.register.at p.register.value.last) p.task
