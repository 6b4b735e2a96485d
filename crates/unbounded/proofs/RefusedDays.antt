-- The refusals on chosen days follow from the definitions.
use mathlib.Core.Path.{◌≡◌, refl}
use mathlib.Core.List.{map}
use Rattle.snapshot.specs.Demand.{step}
use Rattle.snapshot.specs.Refusals.{is_past}
use Rattle.snapshot.specs.Days.{refusal, opened_by, advance, called_by, turn_by, accept}
use Rattle.snapshot.specs.Values.{listed, values_in}
use Rattle.snapshot.specs.Verdict.{verdict}
use Rattle.unbounded.specs.Registers.{laid, read_into, cleared, page_of, differs}
use Rattle.unbounded.specs.Processes.{begin}
use Rattle.unbounded.specs.Turns.{position, place_at, first_after, second_after, end_after, decision, marks_after, after_read}
use Rattle.unbounded.specs.Turns.{found_by, written, turned}
use Rattle.unbounded.specs.Days.{most_reads, unsound}
use Rattle.unbounded.specs.RefusedDays.{replied, refused_days}

pub refused_days_follow : map replied refused_days ≡ map (λ d. d.expected) refused_days
unfolding refused_days step is_past refusal opened_by advance called_by turn_by accept verdict laid read_into cleared page_of differs begin
    position place_at first_after second_after end_after decision marks_after after_read found_by written turned most_reads unsound
    listed values_in
refused_days_follow = refl
