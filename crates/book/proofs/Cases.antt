-- Books of days of document 01, from the bytes of their files to their places, computed.
use Prim.Native.Nat.{ℕ, zero, suc}
use mathlib.Core.Path.{◌≡◌, refl}
use mathlib.Core.List.{List, [], ◌∷◌, ◌++◌, map}
use lib.ListN.{replicate}
use Rattle.snapshot.specs.Values.{listed}
use Rattle.snapshot.specs.Demand.{step}
use Rattle.snapshot.specs.Verdict.{verdict}
use Rattle.snapshot.specs.Marks.{is_moved, with_moved, lends}
use Rattle.snapshot.specs.Refusals.{number_of}
use Rattle.snapshot.specs.Days as Days
use Rattle.snapshot.specs.Refusals.{is_past}
use Rattle.snapshot.specs.Days.{refusal, opened_by, advance, called_by, turn_by, accept}
use Rattle.snapshot.specs.declared.Refusal.TheVariants.{RoomShort}
use Rattle.snapshot.specs.declared.Request.TheVariants.{Open, Update, Scan, Turn}
use Rattle.unbounded.specs.Registers.{laid, read_into, cleared, page_of, differs}
use Rattle.unbounded.specs.Processes.{begin}
use Rattle.unbounded.specs.Turns.{position, place_at, first_after, second_after, end_after, decision, marks_after, after_read, found_by}
use Rattle.unbounded.specs.Turns.{written, turned}
use Rattle.unbounded.specs.Days.{most_reads, unsound}
use Rattle.dayfile.specs.Layout.{length_of, layout}
use Rattle.dayfile.specs.Reader.{record_of, reading}
use Rattle.dayfile.specs.Files.{readings_up_to, readings}
use Rattle.days.specs.Asking.{lent_to}
use Rattle.days.specs.Happenings.{day_of}
use Rattle.std.specs.Prelude.{Ok, Err}
use Rattle.book.specs.DayBooks.{processes_in, book_in}
use Rattle.book.specs.Places.{place_of, booking_of, book_with}

-- so many turns of process d
abbrev turns : ℕ → ℕ → List ℕ
turns zero d = []
turns (suc k) d = layout (Turn d) ++ turns k d

-- "records open 1; entry call 1, word 7; turn 1 three times; page call 1; turn 1 three times"
abbrev pub case_a : List ℕ
case_a = layout (Open 1) ++ layout (Update 1 7) ++ turns 3 1 ++ layout (Scan 1) ++ turns 3 1

-- case B, whose page is answered after the entry that stands below it
abbrev case_b : List ℕ
case_b =
    layout (Open 2)
    ++ (layout (Scan 1) ++ turns 2 1)
    ++ (layout (Update 2 7) ++ turns 5 2)
    ++ turns 4 1
    ++ (layout (Update 2 9) ++ turns 5 2)
    ++ turns 2 1

-- one entry's view lent twice: two pages at one number, of which process 2's is answered first
abbrev lent_twice : List ℕ
lent_twice =
    layout (Open 3)
    ++ (layout (Scan 1) ++ layout (Scan 2))
    ++ (turns 3 1 ++ turns 3 2)
    ++ (layout (Update 3 5) ++ turns 7 3)
    ++ (turns 3 1 ++ turns 3 2)
    ++ (turns 3 1 ++ turns 3 2)
    ++ (layout (Update 3 6) ++ turns 7 3)
    ++ (turns 3 2 ++ turns 3 1)

abbrev zeros : ℕ → List ℕ
zeros k = replicate k 0

abbrev booked : List ℕ → List (List ℕ)
booked bs = map place_of (book_in bs)

abbrev places_a : List (List ℕ)
places_a = (4 ∷ 2 ∷ 1 ∷ 7 ∷ zeros 7) ∷ (6 ∷ 3 ∷ 1 ∷ 7 ∷ zeros 7) ∷ []

-- the books; one after records that are refused before the opening, one that a refusal of the reader ends, and one of no records
pub books :
    (booked case_a ≡ places_a)
    × (booked case_b ≡ (9 ∷ 2 ∷ 2 ∷ 7 ∷ zeros 7) ∷ (16 ∷ 3 ∷ 1 ∷ 0 ∷ 7 ∷ zeros 6) ∷ (19 ∷ 2 ∷ 2 ∷ 9 ∷ zeros 7) ∷ [])
    × (booked (layout (Turn 1) ++ layout (Open 9) ++ case_a) ≡ places_a)
    × (booked (case_a ++ (4 ∷ [])) ≡ places_a)
    × (booked [] ≡ [])
    × (booked lent_twice
    ≡ (16 ∷ 2 ∷ 3 ∷ 5 ∷ zeros 7)
    ∷ (32 ∷ 3 ∷ 2 ∷ 0 ∷ 0 ∷ 5 ∷ zeros 5)
    ∷ (32 ∷ 3 ∷ 1 ∷ 0 ∷ 0 ∷ 5 ∷ zeros 5)
    ∷ (36 ∷ 2 ∷ 3 ∷ 6 ∷ zeros 7)
    ∷ [])
unfolding book_in day_of readings readings_up_to reading record_of length_of lent_to Days.stepped step verdict laid read_into cleared page_of differs is_moved with_moved lends begin position place_at first_after second_after end_after decision marks_after after_read found_by written turned listed most_reads is_past unsound refusal advance opened_by called_by turn_by accept
books = (refl, refl, refl, refl, refl, refl)

-- the numbers of the call, the place and the answer of each operation
pub numbers :
    map (λ o. o.called ∷ o.number ∷ o.answered ∷ []) (book_in case_b)
    ≡ (4 ∷ 9 ∷ 9 ∷ []) ∷ (1 ∷ 16 ∷ 21 ∷ []) ∷ (14 ∷ 19 ∷ 19 ∷ []) ∷ []
unfolding book_in day_of readings readings_up_to reading record_of length_of lent_to Days.stepped step verdict laid read_into cleared page_of differs is_moved with_moved lends begin position place_at first_after second_after end_after decision marks_after after_read found_by written turned listed most_reads is_past unsound refusal advance opened_by called_by turn_by accept
numbers = refl

-- a book of one place is too short for case A, and the place behind its two stays as it is
pub rooms :
    (booking_of (book_in case_a) (processes_in case_a) 1 ≡ Err RoomShort)
    × (number_of RoomShort ≡ 12)
    × (booking_of (book_in case_a) (processes_in case_a) 2 ≡ Ok (record { places = 2; processes = 1 }))
    × (book_with (book_in case_a) ((1 ∷ []) ∷ (2 ∷ []) ∷ (3 ∷ []) ∷ []) ≡ places_a ++ ((3 ∷ []) ∷ []))
    × (book_with (book_in case_a) ((1 ∷ []) ∷ []) ≡ (1 ∷ []) ∷ [])
unfolding book_in day_of readings readings_up_to reading record_of length_of lent_to Days.stepped step verdict laid read_into cleared page_of differs is_moved with_moved lends begin position place_at first_after second_after end_after decision marks_after after_read found_by written turned listed most_reads is_past unsound refusal advance opened_by called_by turn_by accept
rooms = (refl, refl, refl, refl, refl)
