-- A run of the program: a whole day file is read, and the text of its book is written. What a read gives and whether a write is
-- taken is the system's.
use Rattle.std.specs.Prelude.{ℕ, ◌+◌, ◌*◌, ◌≤◌, Bool, cond, List, [], ltb, length}
use Rattle.book.specs.DayBooks.{book_in}
use Rattle.daytext.specs.Buffer.{longest}
use Rattle.booklines.specs.BookText.{book_text}
use Rattle.booklines.specs.PlaceText.{longest_place, most_places}
use Rattle.streams.specs.declared.input.Input.{Input}
use Rattle.texts.specs.Laying.{Laid}
use Rattle.streams.specs.System.{IsSent}
use Rattle.streams.specs.Input.{Incoming, incoming, IsWhole}

-- there is room for the lines of so many places
pub record LinesFit (places out : ℕ) : Type 0 where
  pub few : places ≤ most_places
  pub wide : longest_place * places + longest ≤ out

-- the text of a day file's book; nothing where it has more places than that
abbrev pub book_of : (places : ℕ) → List ℕ → List ℕ
book_of places file = cond (ltb places (length (book_in file))) [] (book_text (book_in file))

-- what is written of an input: the book of a day file that has come whole, else nothing
unfoldable pub written_of : (places : ℕ) → Incoming → List ℕ
written_of places i = cond i.failed [] (cond i.last (book_of places i.left) [])

-- a run with room for so many places: the input was read into bytes, what is written of it lies at the start of out, and was taken or not
pub record IsBookRun (places : ℕ) (bytes before out : List ℕ) (went : Bool) : Type 0 where
  pub input : Input
  pub whole : IsWhole input bytes
  pub end : ℕ
  pub laid : Laid before 0 (written_of places (incoming input bytes)) out end
  pub sent : IsSent (written_of places (incoming input bytes)) went
