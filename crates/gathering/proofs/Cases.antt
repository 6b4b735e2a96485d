-- The page answers of day files, from their bytes, computed.
use Prim.Native.Nat.{ℕ, zero, suc}
use mathlib.Core.Path.{◌≡◌, refl}
use mathlib.Core.List.{List, [], ◌∷◌, ◌++◌}
use Rattle.std.specs.Prelude.{Some, None}
use Rattle.snapshot.specs.declared.Refusal.TheVariants.{CutShort}
use Rattle.snapshot.specs.Values.{listed}
use Rattle.snapshot.specs.Demand.{step}
use Rattle.snapshot.specs.Verdict.{verdict}
use Rattle.snapshot.specs.Marks.{is_moved, with_moved, lends}
use Rattle.snapshot.specs.Refusals.{is_past}
use Rattle.snapshot.specs.Days as Days
use Rattle.snapshot.specs.Days.{refusal, opened_by, advance, called_by, turn_by, accept}
use Rattle.snapshot.specs.declared.Request.TheVariants.{Open, Update, Scan, Turn}
use Rattle.unbounded.specs.Registers.{laid, read_into, cleared, page_of, differs}
use Rattle.unbounded.specs.Processes.{begin}
use Rattle.unbounded.specs.Turns.{position, place_at, first_after, second_after, end_after, decision, marks_after, after_read, found_by}
use Rattle.unbounded.specs.Turns.{written, turned}
use Rattle.unbounded.specs.Days.{most_reads, unsound}
use Rattle.dayfile.specs.Layout.{length_of, layout}
use Rattle.dayfile.specs.Reader.{record_of, reading}
use Rattle.dayfile.specs.Files.{readings_up_to, readings}
use Rattle.days.specs.Asking.{lent_to}
use Rattle.days.specs.Happenings.{day_of}
use Rattle.figures.specs.Figures.{PageAnswer}
use Rattle.gathering.specs.Answers.{quarter_of, ended_by}

-- so many turns of process d
abbrev turns : ℕ → ℕ → List ℕ
turns zero d = []
turns (suc k) d = layout (Turn d) ++ turns k d

-- one process: a page, an entry, and a page; then a turn that is refused, and a byte too many
abbrev cut_short : List ℕ
cut_short =
    layout (Open 1) ++ (layout (Scan 1) ++ turns 2 1) ++ (layout (Update 1 7) ++ turns 3 1) ++ (layout (Scan 1) ++ turns 3 1) ++ (4 ∷ [])

-- case B of document 01: process 1 borrows its page from process 2
abbrev case_b : List ℕ
case_b =
    layout (Open 2)
    ++ (layout (Scan 1) ++ turns 2 1)
    ++ (layout (Update 2 7) ++ turns 5 2)
    ++ turns 4 1
    ++ (layout (Update 2 9) ++ turns 5 2)
    ++ turns 2 1

abbrev answer : ℕ → ℕ → ℕ → PageAnswer
answer n lender turns = record { processes = n; lender = lender; turns = turns }

-- those of three files, in order, and the refusals that ended them
pub cases :
    (quarter_of (cut_short ∷ [] ∷ case_b ∷ []) ≡ answer 1 0 2 ∷ answer 1 0 2 ∷ answer 2 2 8 ∷ [])
    × (ended_by (day_of cut_short) ≡ Some CutShort)
    × (ended_by (day_of []) ≡ None)
    × (ended_by (day_of case_b) ≡ None)
unfolding day_of readings readings_up_to reading record_of length_of lent_to Days.stepped step verdict laid read_into cleared page_of differs is_moved with_moved lends begin position place_at first_after second_after end_after decision marks_after after_read found_by written turned most_reads is_past unsound refusal advance opened_by called_by turn_by accept listed
cases = (refl, refl, refl, refl)
