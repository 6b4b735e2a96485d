-- The laps that are left come to what the whole run comes to, and the output has room for their lines.
use mathlib.Core.Path.{◌≡◌}
use lib.ListN.{length}
use Rattle.laps.specs.Laps.{ran}
use Rattle.laps.specs.Progress.{lines_left, stand_of}
use Rattle.laps.proofs.Laps.{Turn, Ready, stand_in}
use Rattle.laps.proofs.records.run.Given as goal

abbrev pub invariant-loop-x : goal.invariant-loop-x
invariant-loop-x l =
    let t : Turn = record { progress = l.progress; table = l.table; page = l.page; out = l.out } in
    Ready t l.bytes
    × (ran (stand_of l.fn.r l.initial.page l.bytes l.initial.out) ≡ ran (stand_in t l.bytes))
    × (length l.table ≡ 8)
    × (length l.out ≡ length l.initial.out)
    × (length l.page ≡ length l.initial.page)

abbrev pub decreases-loop-x : goal.decreases-loop-x
decreases-loop-x l = lines_left l.progress
