-- Bringing back a damaged day file (document 02, K7): the pieces of a file (dayfile/specs/Pieces), which of them are kept, and a list of
-- what was dropped.
use Rattle.std.specs.Prelude.{ℕ, ◌+◌, List, [], ◌∷◌, ◌++◌, length}
use Rattle.std.proofs.Math.Option.{Option, none, some}
use Rattle.snapshot.specs.Refusals.{number_of}
use Rattle.snapshot.specs.Demand.{refusal_of}
use Rattle.snapshot.specs.declared.Refusal.{Refusal}
use Rattle.snapshot.specs.declared.Outcome.{Outcome}
use Rattle.dayfile.specs.declared.Reading.{Reading}
use Rattle.dayfile.specs.declared.Reading.TheVariants.{Found, End, Refused}
use Rattle.dayfile.specs.Pieces.{Piece, pieces}
use Rattle.days.specs.Happenings.{Box, blank_box, outcome_in, box_after}

-- ---- what is kept

-- the refusal of what was read, if there is one: the reader's (7, 8 or 9), or that of the record, which was run
abbrev pub refusal_by : Reading → Outcome → Option Refusal
refusal_by (Found r next) o = refusal_of o.answer
refusal_by End o = none
refusal_by (Refused k) o = some k

-- a piece that was judged: its bytes, and the refusal by which they are dropped, or none where they are kept
pub record Part : Type 0 where
  pub bytes : List ℕ
  pub refusal : Option Refusal

-- "Run the records that remain, and drop each one refused"; what the reader refused is not asked
abbrev pub judged : Box → List Piece → List Part
judged b [] = []
judged b (p ∷ ps) =
    record { bytes = p.bytes; refusal = refusal_by p.reading (outcome_in b p.reading) } ∷ judged (box_after b p.reading) ps

-- those of a file, from a blank day on, "Read .. from end to end"
unfoldable pub parts_of : List ℕ → List Part
parts_of file = judged blank_box (pieces file)

-- ---- what is written

abbrev pub bytes_kept : Option Refusal → List ℕ → List ℕ
bytes_kept none bs = bs
bytes_kept (some k) bs = []

-- "Write the kept records unchanged"
abbrev pub kept_of : List Part → List ℕ
kept_of [] = []
kept_of (p ∷ ps) = bytes_kept p.refusal p.bytes ++ kept_of ps

-- "what was dropped: first byte (from 0), byte count, refusal number"
pub record Drop : Type 0 where
  pub first : ℕ
  pub count : ℕ
  pub number : ℕ

abbrev pub drop_by : (first count : ℕ) → Option Refusal → List Drop
drop_by first count none = []
drop_by first count (some k) = record { first = first; count = count; number = number_of k } ∷ []

-- "one entry a drop, by first byte", of parts the first of which begins at byte `at`
abbrev pub drops_of : (at : ℕ) → List Part → List Drop
drops_of at [] = []
drops_of at (p ∷ ps) = drop_by at (length p.bytes) p.refusal ++ drops_of (at + length p.bytes) ps

-- the mended file, and what was dropped from it
abbrev pub mended : List ℕ → List ℕ
mended file = kept_of (parts_of file)

abbrev pub dropped : List ℕ → List Drop
dropped file = drops_of 0 (parts_of file)
