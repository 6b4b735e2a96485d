-- What is handed on so far, and that the buffers keep their lengths.
use Rattle.std.proofs.Common.{◌≡◌, ◌-◌, length}
use Rattle.snapshot.specs.Requests.{blank_day}
use Rattle.dayfile.specs.Pieces.{pieces}
use Rattle.packed_rows.specs.Rows.{LongRows}
use Rattle.packed_days.specs.Boxes.{box_in}
use Rattle.mending.specs.Mending.{judged}
use Rattle.day_mend.specs.Runs.{parts_from}
use Rattle.day_mend.proofs.Passed.{Ahead}
use Rattle.day_mend.proofs.passes.Given as goal

abbrev pub invariant-loop-s : goal.invariant-loop-s
invariant-loop-s l = record {
  eight : length l.t ≡ 8;
  long : LongRows l.t;
  ahead : Ahead (judged (box_in blank_day l.initial.t l.initial.page) (pieces l.bytes)) l.s.at (parts_from l.bytes l.s l.t l.page)
      l.s.wrote.went l.s.wrote.told;
}

abbrev pub decreases-loop-s : goal.decreases-loop-s
decreases-loop-s l = length l.bytes - l.s.at
