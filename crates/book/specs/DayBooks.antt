-- The book of a day file (document 02, K1): "Run the records of a day file as the day runner does and write the finished work as a
-- book".
use Rattle.std.specs.Prelude.{ℕ, List, map}
use Rattle.snapshot.specs.declared.Value.{Value}
use Rattle.snapshot.specs.Values.{zero_value, stored, paired}
use Rattle.snapshot.specs.Tally.{Tally, started}
use Rattle.snapshot.specs.Requests.{blank_day}
use Rattle.snapshot.specs.Days.{sees}
use Rattle.snapshot.specs.Book.{Heard, Operation, Timed, tally_after, finished, said, book}
use Rattle.requests.specs.Requests.{item_of}
use Rattle.days.specs.Asking.{request_of}
use Rattle.days.specs.Happenings.{Happening, day_of, day_after, records_in}

-- what is heard of a record: its words and numbers are the values that it shows
abbrev pub heard_of : Happening → Heard Value
heard_of h =
    record {
      seen = sees (item_of h.words (request_of h.reading));
      answer = h.outcome.answer;
      shown = paired h.words h.lasts;
    }

-- of all records of a file, those before its opening too
abbrev pub heard_in : List ℕ → List (Heard Value)
heard_in bs = map heard_of (records_in (day_of bs))

-- how many processes its day has, 0 if none opened, and the tally that it begins with
abbrev pub processes_in : List ℕ → ℕ
processes_in bs = (day_after blank_day (day_of bs)).count

abbrev pub start_of : List ℕ → Tally Value
start_of bs = let n = processes_in bs in started n n zero_value

-- what it finishes, says and leaves
abbrev pub finished_in : List ℕ → List Operation
finished_in bs = finished stored (λ v. v.word) (start_of bs) (heard_in bs)

abbrev pub said_in : List ℕ → List Timed
said_in bs = said stored (λ v. v.word) (start_of bs) (heard_in bs)

abbrev pub end_of : List ℕ → Tally Value
end_of bs = tally_after stored (start_of bs) (heard_in bs)

-- the book
unfoldable pub book_in : List ℕ → List Operation
book_in bs = book (finished_in bs)
