-- What mending answers and leaves, computed: 12 for either output alone, "later places remain", and the columns of a row.
use Prim.Native.Nat.{ℕ}
use mathlib.Core.Path.{◌≡◌, refl}
use mathlib.Core.List.{List, [], ◌∷◌, ◌++◌}
use lib.ListN.{replicate}
use Rattle.snapshot.specs.declared.Refusal.TheVariants.{RoomShort}
use Rattle.snapshot.specs.declared.Request.TheVariants.{Open, Scan}
use Rattle.snapshot.specs.Values.{listed}
use Rattle.snapshot.specs.Demand.{step}
use Rattle.snapshot.specs.Verdict.{verdict}
use Rattle.snapshot.specs.Marks.{is_moved, with_moved, lends}
use Rattle.snapshot.specs.Refusals.{is_past}
use Rattle.snapshot.specs.Days as Days
use Rattle.snapshot.specs.Days.{refusal, opened_by, advance, called_by, turn_by, accept}
use Rattle.unbounded.specs.Registers.{laid, read_into, cleared, page_of, differs}
use Rattle.unbounded.specs.Processes.{begin}
use Rattle.unbounded.specs.Turns.{position, place_at, first_after, second_after, end_after, decision, marks_after, after_read, found_by}
use Rattle.unbounded.specs.Turns.{written, turned}
use Rattle.unbounded.specs.Days.{most_reads, unsound}
use Rattle.dayfile.specs.Layout.{length_of, layout}
use Rattle.dayfile.specs.Reader.{record_of, reading}
use Rattle.dayfile.specs.Pieces.{span_of, pieces_up_to, pieces}
use Rattle.days.specs.Asking.{lent_to}
use Rattle.mending.specs.Mending.{parts_of}
use Rattle.std.specs.Prelude.{Ok, Err}
use Rattle.mender.specs.Results.{lacks_room, mending_of, kept_with, rows_with}

-- an opening and a page call, between which a length of 0 is dropped
abbrev kept : List ℕ
kept = layout (Open 1) ++ layout (Scan 1)

abbrev broken : List ℕ
broken = layout (Open 1) ++ (0 ∷ 0 ∷ []) ++ layout (Scan 1)

-- two rows that are lent
abbrev lent : List (List ℕ)
lent = (1 ∷ 2 ∷ 3 ∷ []) ∷ (4 ∷ 5 ∷ 6 ∷ []) ∷ []

pub rooms :
    (mending_of broken 12 1 ≡ Ok (record { kept = 12; drops = 1 }))
    × (mending_of broken 11 1 ≡ Err RoomShort)
    × (mending_of broken 12 0 ≡ Err RoomShort)
    × (kept_with broken (replicate 13 170) 1 ≡ kept ++ (170 ∷ []))
    × (kept_with broken (replicate 11 170) 1 ≡ replicate 11 170)
    × (kept_with broken (replicate 13 170) 0 ≡ replicate 13 170)
    × (rows_with broken 12 lent ≡ (6 ∷ 2 ∷ 9 ∷ []) ∷ (4 ∷ 5 ∷ 6 ∷ []) ∷ [])
    × (rows_with broken 11 lent ≡ lent)
unfolding lacks_room parts_of pieces pieces_up_to span_of reading record_of length_of lent_to Days.stepped step verdict laid read_into cleared page_of differs is_moved with_moved lends begin position place_at first_after second_after end_after decision marks_after after_read found_by written turned most_reads is_past unsound refusal advance opened_by called_by turn_by accept listed
rooms = (refl, refl, refl, refl, refl, refl, refl, refl)
