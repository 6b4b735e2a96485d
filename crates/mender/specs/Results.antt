-- What mending a file answers and leaves in its two rooms (document 02, K7).
use Rattle.std.specs.Prelude.{ℕ, Bool, cond, ◌||◌, Result, Ok, Err, List, [], ◌∷◌, ◌++◌, map, ltb, length, drop}
use Rattle.snapshot.specs.declared.Refusal.{Refusal}
use Rattle.snapshot.specs.declared.Refusal.TheVariants.{RoomShort}
use Rattle.mender.specs.declared.Mended.{Mended}
use Rattle.mending.specs.Mending.{Drop, mended, dropped}

-- a drop as it lies in a row: "first byte (from 0), byte count, refusal number"
abbrev pub row_of : Drop → List ℕ
row_of d = d.first ∷ d.count ∷ d.number ∷ []

-- "when either lent output is too small for the result": of so many bytes, or of so many rows
unfoldable pub lacks_room : (file : List ℕ) → (room rows : ℕ) → Bool
lacks_room file room rows = ltb room (length (mended file)) || ltb rows (length (dropped file))

-- "the counts written are returned", or 12
abbrev pub mending_of : (file : List ℕ) → (room rows : ℕ) → Result Mended Refusal
mending_of file room rows =
    cond (lacks_room file room rows) (Err RoomShort) (Ok (record { kept = length (mended file); drops = length (dropped file) }))

-- an output with these from its first place on; "later places remain"
abbrev pub at_front : {A : Type 0} → (results output : List A) → List A
at_front xs output = xs ++ drop (length xs) output

-- the room of bytes and the rows afterwards; 12 is "tested before anything is written"
abbrev pub kept_with : (file room : List ℕ) → (rows : ℕ) → List ℕ
kept_with file room rows = cond (lacks_room file (length room) rows) room (at_front (mended file) room)

abbrev pub rows_with : (file : List ℕ) → (room : ℕ) → (rows : List (List ℕ)) → List (List ℕ)
rows_with file room rows = cond (lacks_room file room (length rows)) rows (at_front (map row_of (dropped file)) rows)
