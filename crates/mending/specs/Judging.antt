-- How the code judges a piece.
use Rattle.std.specs.Prelude.{ℕ, ◌<◌, ◌≡◌, List, length, drop}
use Rattle.std.proofs.Math.Option.{Option, none, some}
use Rattle.snapshot.specs.Refusals.{number_of}
use Rattle.snapshot.specs.declared.Refusal.{Refusal}
use Rattle.dayfile.specs.declared.Reading.{Reading}
use Rattle.dayfile.specs.declared.Reading.TheVariants.{Found, End, Refused}
use Rattle.dayfile.specs.Reader.{reading}
use Rattle.dayfile.specs.Pieces.{span_of}
use Rattle.days.specs.Happenings.{Box, outcome_in}
use Rattle.packed_rows.specs.Rows.{LongRows}
use Rattle.packed_days.specs.Boxes.{IsAfter}
use Rattle.mending.specs.declared.Judged.{Judged}
use Rattle.mending.specs.Mending.{refusal_by}

-- the number of a refusal, 0 where there is none
abbrev pub number_if : Option Refusal → ℕ
number_if none = 0
number_if (some k) = number_of k

-- the number of what was read, where a record was replied with this one
abbrev pub number_with : Reading → ℕ → ℕ
number_with (Found r next) replied = replied
number_with End replied = 0
number_with (Refused k) replied = number_of k

-- there is a byte to read, and a table of eight packed records
pub record HasNext (at : ℕ) (bytes : List ℕ) (t : List (List ℕ)) : Type 0 where
  pub more : at < length bytes
  pub eight : length t ≡ 8
  pub long : LongRows t

-- what stands at a place was read and run: its day, its size and its number
pub record IsJudged (at : ℕ) (bytes : List ℕ) (b : Box) (j : Judged) (t : List (List ℕ)) (page : List ℕ) : Type 0 where
  pub found : Reading
  pub read : found ≡ reading (drop at bytes)
  pub after : IsAfter found b j.day t page
  pub sized : j.span ≡ span_of (drop at bytes) found
  pub numbered : j.number ≡ number_if (refusal_by found (outcome_in b found))
