-- Case A of document 01, from the bytes of its file to the text of its book; and a day with nothing in it.

use mathlib.Core.Path.{◌≡◌, refl}
use mathlib.Core.List.{[], ◌++◌}
use Rattle.snapshot.specs.Values.{listed}
use Rattle.snapshot.specs.Demand.{step}
use Rattle.snapshot.specs.Verdict.{verdict}
use Rattle.snapshot.specs.Marks.{is_moved, with_moved, lends}
use Rattle.snapshot.specs.Days as Days
use Rattle.snapshot.specs.Refusals.{is_past}
use Rattle.snapshot.specs.Days.{refusal, opened_by, advance, called_by, turn_by, accept}
use Rattle.unbounded.specs.Registers.{laid, read_into, cleared, page_of, differs}
use Rattle.unbounded.specs.Processes.{begin}
use Rattle.unbounded.specs.Turns.{position, place_at, first_after, second_after, end_after, decision, marks_after, after_read, found_by}
use Rattle.unbounded.specs.Turns.{written, turned}
use Rattle.unbounded.specs.Days.{most_reads, unsound}
use Rattle.dayfile.specs.Layout.{length_of}
use Rattle.dayfile.specs.Reader.{record_of, reading}
use Rattle.dayfile.specs.Files.{readings_up_to, readings}
use Rattle.days.specs.Asking.{lent_to}
use Rattle.days.specs.Happenings.{day_of}
use Rattle.book.specs.DayBooks.{book_in}
use Rattle.book.proofs.Cases.{case_a}
use Rattle.texts.specs.Ascii.{ascii}
use Rattle.texts.specs.Decimal.{decimal}
use Rattle.daytext.specs.Lines.{body_of, text_of}
use Rattle.booklines.specs.BookText.{book_text}

-- the entry at its writing turn, the page at its instant
pub case_a_lem :
    (book_text (book_in case_a) ≡ ascii "4 entry 1 7\n" ++ ascii "6 page 1 words 7\n" ++ ascii "end 2\n")
    × (book_text (book_in []) ≡ ascii "end 0\n")
unfolding book_text book_in day_of readings readings_up_to reading record_of length_of lent_to text_of body_of decimal Days.stepped step verdict laid read_into cleared page_of differs is_moved with_moved lends begin position place_at first_after second_after end_after decision marks_after after_read found_by written turned listed most_reads is_past unsound refusal advance opened_by called_by turn_by accept
case_a_lem = (refl, refl)
