-- What the loop of `gathering::run` keeps.
use Prim.Native.Nat.{◌≤◌}
use mathlib.Core.Path.{◌≡◌}
use lib.ListN.{length}
use Rattle.snapshot.specs.Requests.{blank_day}
use Rattle.days.specs.Happenings.{file_on}
use Rattle.packed_rows.specs.Rows.{LongRows}
use Rattle.packed_days.specs.Boxes.{box_in}
use Rattle.gathering.specs.Answers.{answers_in, ended_by}
use Rattle.gathering.specs.Gathered.{sums_with_all}
use Rattle.gathering.specs.Laps.{gathered}
use Rattle.gathering.proofs.Passing.{gathers_from, ends_from, laps_left}
use Rattle.gathering.proofs.run.Given as goal

abbrev pub invariant-loop-s : goal.invariant-loop-s
invariant-loop-s l = (l.s.at ≤ length l.bytes) × (length l.t ≡ 8) × LongRows l.t × (length l.page ≡ length l.initial.page) × (length l.answers ≡ length l.initial.answers)
    × (gathers_from l.s l.t l.page l.answers l.bytes ≡ sums_with_all (gathered l.initial.answers l.count) (answers_in (file_on (box_in blank_day l.initial.t l.initial.page) l.bytes)))
    × (ends_from l.s l.t l.page l.bytes ≡ ended_by (file_on (box_in blank_day l.initial.t l.initial.page) l.bytes))

abbrev pub decreases-loop-s : goal.decreases-loop-s
decreases-loop-s l = laps_left l.s (length l.bytes)
