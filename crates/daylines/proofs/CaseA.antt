-- Case A of document 01, from the bytes of its file to the text that stands there; and refusals that end a file.
use Prim.Native.Nat.{ℕ}
use mathlib.Core.Path.{◌≡◌, refl}
use mathlib.Core.List.{List, [], ◌∷◌, ◌++◌}
use Rattle.snapshot.specs.Demand.{step}
use Rattle.snapshot.specs.Values.{listed}
use Rattle.snapshot.specs.Verdict.{verdict}
use Rattle.snapshot.specs.Marks.{is_moved, with_moved, lends}
use Rattle.snapshot.specs.Days as Days
use Rattle.snapshot.specs.Refusals.{is_past}
use Rattle.snapshot.specs.Days.{refusal, opened_by, advance, called_by, turn_by, accept}
use Rattle.snapshot.specs.declared.Request.TheVariants.{Open, Update, Scan, Turn}
use Rattle.unbounded.specs.Registers.{laid, read_into, cleared, page_of, differs}
use Rattle.unbounded.specs.Processes.{begin}
use Rattle.unbounded.specs.Turns.{position, place_at, first_after, second_after, end_after, decision, marks_after, after_read, found_by}
use Rattle.unbounded.specs.Turns.{written, turned}
use Rattle.unbounded.specs.Days.{most_reads, unsound}
use Rattle.dayfile.specs.Layout.{length_of, layout}
use Rattle.dayfile.specs.Reader.{record_of, reading}
use Rattle.dayfile.specs.Files.{readings_up_to, readings}
use Rattle.days.specs.Asking.{lent_to}
use Rattle.days.specs.Happenings.{day_of}
use Rattle.texts.specs.Ascii.{ascii}
use Rattle.texts.specs.Decimal.{decimal}
use Rattle.daytext.specs.Lines.{body_of, text_of}
use Rattle.daylines.specs.Printed.{printout, printed, printed_until}

-- "records open 1; entry call 1, word 7; turn 1 three times; page call 1; turn 1 three times"
abbrev case_a : List ℕ
case_a =
    layout (Open 1)
    ++ layout (Update 1 7)
    ++ layout (Turn 1)
    ++ layout (Turn 1)
    ++ layout (Turn 1)
    ++ layout (Scan 1)
    ++ layout (Turn 1)
    ++ layout (Turn 1)
    ++ layout (Turn 1)

abbrev lines_a : List ℕ
lines_a =
    ascii "open 1\n"
    ++ ascii "1 entry 1 7\n"
    ++ ascii "2 read 1\n"
    ++ ascii "3 read 1\n"
    ++ ascii "4 written 1 turns 3\n"
    ++ ascii "5 asked 1\n"
    ++ ascii "6 read 1\n"
    ++ ascii "7 page 1 from 0 at 6 turns 2 words 7 last 4\n"
    ++ ascii "refused 4\n"

-- two desks: 1 has entered 7 when 2 asks for a page, whose line has a word and a number for each of the two
abbrev two_desks : List ℕ
two_desks =
    layout (Open 2)
    ++ layout (Update 1 7)
    ++ layout (Turn 1)
    ++ layout (Turn 1)
    ++ layout (Turn 1)
    ++ layout (Turn 1)
    ++ layout (Turn 1)
    ++ layout (Scan 2)
    ++ layout (Turn 2)
    ++ layout (Turn 2)
    ++ layout (Turn 2)
    ++ layout (Turn 2)

abbrev lines_of_two : List ℕ
lines_of_two =
    ascii "open 2\n"
    ++ ascii "1 entry 1 7\n"
    ++ ascii "2 read 1\n"
    ++ ascii "3 read 1\n"
    ++ ascii "4 read 1\n"
    ++ ascii "5 read 1\n"
    ++ ascii "6 written 1 turns 5\n"
    ++ ascii "7 asked 2\n"
    ++ ascii "8 read 2\n"
    ++ ascii "9 read 2\n"
    ++ ascii "10 read 2\n"
    ++ ascii "11 page 2 from 0 at 9 turns 4 words 7 0 last 6 0\n"
    ++ ascii "end 11\n"

-- "It prints exactly"; "An empty file prints `end 0`"; where a read fails after the file there is no end; and a file that is cut
-- short, or goes on with an unknown kind, ends with its refusal
pub case_a_lem :
    (printed case_a ≡ lines_a ++ ascii "end 7\n")
    × (printed two_desks ≡ lines_of_two)
    × (printed [] ≡ ascii "end 0\n")
    × (printed_until case_a ≡ lines_a)
    × (printed (layout (Open 1) ++ (4 ∷ [])) ≡ ascii "open 1\n" ++ ascii "refused 7\n" ++ ascii "end 0\n")
    × (printed_until (layout (Open 1) ++ (4 ∷ [])) ≡ ascii "open 1\n")
    × (printed ((4 ∷ 0 ∷ 9 ∷ 0 ∷ 1 ∷ 0 ∷ []) ++ layout (Open 1)) ≡ ascii "refused 8\n" ++ ascii "end 0\n")
unfolding printout day_of readings readings_up_to reading record_of length_of lent_to text_of body_of decimal Days.stepped step verdict laid read_into cleared page_of differs is_moved with_moved lends begin position place_at first_after second_after end_after decision marks_after after_read found_by written turned listed most_reads is_past unsound refusal advance opened_by called_by turn_by accept
case_a_lem = (refl, refl, refl, refl, refl, refl, refl)
