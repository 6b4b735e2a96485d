-- What is left of a pass leads to the whole of it, and what is lent keeps its length.
use mathlib.Core.Path.{◌≡◌}
use lib.ListN.{length}
use Rattle.book.proofs.Passing.{Lap, Ready, outcome_from, laps_left, first_lap}
use Rattle.book.proofs.notes.run.Given as goal

abbrev pub invariant-loop-notes : goal.invariant-loop-notes
invariant-loop-notes l =
    let t : Lap = record { notes = l.notes; table = l.table; page = l.page; book = l.book } in
    Ready t l.bytes × (outcome_from (first_lap l.bytes l.initial.page l.initial.book) l.bytes ≡ outcome_from t l.bytes)
    × (length l.table ≡ 8)

abbrev pub decreases-loop-notes : goal.decreases-loop-notes
decreases-loop-notes l = laps_left l.notes
