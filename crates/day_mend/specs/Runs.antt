-- A run of the program: a whole day file is read, and its parts are handed to two outputs, some at a time. What a read gives and whether a
-- write is taken is the system's.
use Rattle.std.specs.Prelude.{ℕ, ◌+◌, ◌≤◌, ◌<◌, ◌≡◌, Bool, true, false, cond, List, [], ◌++◌, length, drop}
use Rattle.dayfile.specs.Pieces.{pieces}
use Rattle.packed_rows.specs.Rows.{LongRows}
use Rattle.packed_days.specs.Boxes.{box_in}
use Rattle.mending.specs.Mending.{Part, judged, kept_of, drops_of, parts_of}
use Rattle.mender.specs.Passes.{bytes_in}
use Rattle.mendlines.specs.DropText.{drops_text}
use Rattle.streams.specs.declared.input.Input.{Input}
use Rattle.streams.specs.System.{IsSent}
use Rattle.streams.specs.Input.{Incoming, incoming, IsWhole}
use Rattle.day_mend.specs.declared.Stand.{Stand}

-- lines were handed to standard error, if those before them were taken; else none are told any more
abbrev pub Tells : (telling : Bool) → (lines : List ℕ) → (told : Bool) → Type 0
Tells true lines told = IsSent lines told
Tells false lines told = told ≡ false

-- kept bytes were handed to standard output and, if they were taken, lines to standard error
abbrev pub IsWritten : (kept lines : List ℕ) → (telling went told : Bool) → Type 0
IsWritten kept lines telling true told = IsSent kept true × Tells telling lines told
IsWritten kept lines telling false told = IsSent kept false × (told ≡ telling)

-- the parts of a file, the first of which begins at byte `at`, are handed on, some at a time, until a write to standard output is not
-- taken: whether all of them went, and whether every drop was told
pub data Writes : (at : ℕ) → (telling : Bool) → List Part → (went told : Bool) → Type 0 where
  over : {at : ℕ} {telling : Bool} → Writes at telling [] true telling
  stops : {at : ℕ} {telling : Bool} (done left : List Part) → IsSent (kept_of done) false → Writes at telling (done ++ left) false telling
  goes_on : {at : ℕ} {telling : Bool} (done : List Part) {left : List Part} {next went told : Bool} → IsSent (kept_of done) true →
      Tells telling (drops_text (drops_of at done)) next → Writes (at + bytes_in done) next left went told →
      Writes at telling (done ++ left) went told

-- the parts that are left of a file
abbrev pub parts_from : (file : List ℕ) → Stand → (table : List (List ℕ)) → (page : List ℕ) → List Part
parts_from file s t page = judged (box_in s.day t page) (pieces (drop s.at file))

-- from s to p the next parts of a file were handed on
pub record IsPassed (file : List ℕ) (s : Stand) (t : List (List ℕ)) (page : List ℕ) (p : Stand) (t' : List (List ℕ)) (page' : List ℕ)
    : Type 0 where
  pub done : List Part
  pub parts : parts_from file s t page ≡ done ++ parts_from file p t' page'
  pub moved : p.at ≡ s.at + bytes_in done
  pub further : s.at < p.at
  pub within : p.at ≤ length file
  pub written : IsWritten (kept_of done) (drops_text (drops_of s.at done)) s.wrote.told p.wrote.went p.wrote.told
  pub long : LongRows t'

-- what is handed to standard output, and to standard error, one after the other
abbrev pub handed_out : {at : ℕ} {telling : Bool} {parts : List Part} {went told : Bool} → Writes at telling parts went told → List ℕ
handed_out over = []
handed_out (stops done left sent) = kept_of done
handed_out (goes_on done sent told later) = kept_of done ++ handed_out later

abbrev pub handed_err : {at : ℕ} {telling : Bool} {parts : List Part} {went told : Bool} → Writes at telling parts went told → List ℕ
handed_err over = []
handed_err (stops done left sent) = []
handed_err (goes_on {at} {telling} done sent told later) = cond telling (drops_text (drops_of at done)) [] ++ handed_err later

-- the parts that are written of an input: those of a day file that has come whole, else none
unfoldable pub parts_written : Incoming → List Part
parts_written i = cond i.failed [] (cond i.last (parts_of i.left) [])

-- a run: the input was read into bytes, and its parts were handed on
pub record IsMendRun (bytes : List ℕ) (went told : Bool) : Type 0 where
  pub input : Input
  pub whole : IsWhole input bytes
  pub wrote : Writes 0 true (parts_written (incoming input bytes)) went told
