-- The runs on chosen days follow from the definitions.
use mathlib.Core.Path.{◌≡◌, refl}
use mathlib.Core.List.{map}
use Rattle.snapshot.specs.Demand.{step}
use Rattle.snapshot.specs.Refusals.{is_past}
use Rattle.snapshot.specs.Days as Days
use Rattle.snapshot.specs.Days.{refusal, opened_by, advance, called_by, turn_by, accept, stepped}
use Rattle.snapshot.specs.Runs.{turns_from, ran}
use Rattle.snapshot.specs.Values.{listed}
use Rattle.snapshot.specs.Verdict.{verdict}
use Rattle.unbounded.specs.Registers.{laid, read_into, cleared, page_of, differs}
use Rattle.unbounded.specs.Processes.{begin}
use Rattle.unbounded.specs.Turns.{position, place_at, first_after, second_after, end_after, decision, marks_after, after_read}
use Rattle.unbounded.specs.Turns.{found_by, written, turned}
use Rattle.unbounded.specs.Days.{most_reads, unsound}
use Rattle.unbounded.specs.RunDays.{left, run_days}

pub run_days_follow : map left run_days ≡ map (λ d. d.expected) run_days
unfolding run_days turns_from ran Days.opened_for stepped step is_past refusal opened_by advance called_by turn_by accept verdict laid
    read_into cleared page_of differs begin position place_at first_after second_after end_after decision marks_after after_read found_by
    written turned most_reads unsound listed
run_days_follow = refl
