-- The place of an operation, and what writing a book answers and leaves (document 02, K1).
use Rattle.std.specs.Prelude.{ℕ, cond, Result, Ok, Err, List, [], ◌∷◌, ◌++◌, map, ltb, length, drop}
use Rattle.snapshot.specs.Tally.{Job, scan, update}
use Rattle.snapshot.specs.Book.{Operation}
use Rattle.snapshot.specs.declared.Refusal.{Refusal}
use Rattle.snapshot.specs.declared.Refusal.TheVariants.{RoomShort}
use Rattle.places.specs.Places.{eight}
use Rattle.book.specs.declared.Booked.{Booked}

-- "kind (2 entry, 3 page)"
abbrev pub kind_of : Job → ℕ
kind_of scan = 3
kind_of (update k w) = 2

abbrev pub words_of : List ℕ → Job → List ℕ
words_of ws scan = ws
words_of ws (update k w) = w ∷ []

-- "A place holds number, kind .., desk and eight words"
abbrev pub place_of : Operation → List ℕ
place_of o = o.number ∷ kind_of o.job ∷ o.process ∷ eight (words_of o.words o.job)

-- "12 when the lent book has fewer places than finished pieces of work"; else "the counts written are returned", and the day's
-- processes
abbrev pub booking_of : List Operation → (processes room : ℕ) → Result Booked Refusal
booking_of os n room = cond (ltb room (length os)) (Err RoomShort) (Ok (record { places = length os; processes = n }))

-- "tested before anything is written"; "later places remain"
abbrev pub book_with : List Operation → List (List ℕ) → List (List ℕ)
book_with os book = cond (ltb (length book) (length os)) book (map place_of os ++ drop (length os) book)
