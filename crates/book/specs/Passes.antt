-- How the code makes a book, by a pass over a file: what it holds, what a record makes of it, and what the whole file does
-- (proofs/Noted: it is the book).
use Rattle.std.specs.Prelude.{ℕ, ◌+◌, ◌-◌, ◌≤◌, ◌≡◌, true, false, List, [], ◌∷◌, take, drop, replicate}
use Rattle.snapshot.specs.Requests.{blank_day}
use Rattle.snapshot.specs.declared.Outcome.{Outcome}
use Rattle.snapshot.specs.declared.Request.{Request}
use Rattle.dayfile.specs.Reader.{reading}
use Rattle.dayfile.specs.declared.Reading.{Reading}
use Rattle.dayfile.specs.declared.Reading.TheVariants.{Found, End, Refused}
use Rattle.unbounded.specs.Processes.{zero_process}
use Rattle.days.specs.Asking.{request_of}
use Rattle.days.specs.Happenings.{Box, Happening, file_on, day_after}
use Rattle.places.specs.Answers.{words_after, count_after, book_after}
use Rattle.book.specs.declared.notes.Notes.{Notes}

-- ---- one record

abbrev pub blank_notes : ℕ → Notes
blank_notes end = record { day = blank_day; at = 0; end = end; ended = false; count = 0; words = replicate 8 0 }

-- what stands next in the file
unfoldable pub next_after : Notes → List ℕ → Reading
next_after s bytes = reading (take (s.end - s.at) (drop s.at bytes))

-- a record that was found takes a byte at least, and no more than are left
abbrev pub Consumes : Reading → Notes → Type 0
Consumes x s = (r : Request) (k : ℕ) → x ≡ Found r k → (1 ≤ k) × (s.at + k ≤ s.end)

-- the notes once what was read has happened, and the book
unfoldable pub notes_past : Notes → Reading → Outcome → Notes
notes_past s (Found r next) o =
    record {
      day = o.day;
      at = s.at + next;
      end = s.end;
      ended = false;
      count = count_after s.count o.answer;
      words = words_after s.words r o.answer;
    }
notes_past s End o = record { day = o.day; at = s.at; end = s.end; ended = true; count = s.count; words = s.words }
notes_past s (Refused k) o = record { day = o.day; at = s.at; end = s.end; ended = true; count = s.count; words = s.words }

unfoldable pub book_past : Notes → Reading → Outcome → (shown : List ℕ) → List (List ℕ) → List (List ℕ)
book_past s (Found r next) o shown book = book_after s.words s.count r o.day.event shown book o.answer
book_past s End o shown book = book
book_past s (Refused k) o shown book = book

-- ---- the whole file

-- what is noted of what happened: the word of each process's last update call, how many operations are finished, and the book
pub record Noted : Type 0 where
  pub words : List ℕ
  pub count : ℕ
  pub book : List (List ℕ)

abbrev pub note_of : Noted → Happening → Noted
note_of s h =
    let r = request_of h.reading in
    record {
      words = words_after s.words r h.outcome.answer;
      count = count_after s.count h.outcome.answer;
      book = book_after s.words s.count r h.outcome.day.event h.words s.book h.outcome.answer;
    }

abbrev pub notes : Noted → List Happening → Noted
notes s [] = s
notes s (h ∷ hs) = notes (note_of s h) hs

-- the box before the first record, with a page list
abbrev pub box_with : List ℕ → Box
box_with page = record { day = blank_day; table = replicate 8 zero_process; page = page }

-- before any
abbrev pub blank_noted : List (List ℕ) → Noted
blank_noted book = record { words = replicate 8 0; count = 0; book = book }

-- a pass over a file, with a page list, has noted all that happens in it
pub record Passed (s : Notes) (bytes page : List ℕ) (before after : List (List ℕ)) : Type 0 where
  pub day : s.day ≡ day_after blank_day (file_on (box_with page) bytes)
  pub count : s.count ≡ (notes (blank_noted before) (file_on (box_with page) bytes)).count
  pub book : after ≡ (notes (blank_noted before) (file_on (box_with page) bytes)).book
