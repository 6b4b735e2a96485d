-- The reader of one record (document 01, Day files and the day runner): the causes to refuse in their order, and what is found
-- where none holds.
use Rattle.std.specs.Prelude.{ℕ, ◌+◌, cond, not, ◌||◌, List, [], ◌∷◌, length, eqb, ltb}
use Rattle.std.proofs.Math.Option.{Option, none, some}
use Rattle.snapshot.specs.Refusals.{Cause, first_cause, number_of}
use Rattle.snapshot.specs.declared.Refusal.{Refusal}
use Rattle.snapshot.specs.declared.Refusal.TheVariants.{CutShort, UnknownKind, WrongLength}
use Rattle.snapshot.specs.declared.Request.{Request}
use Rattle.snapshot.specs.declared.Request.TheVariants.{Open, Update, Scan, Turn}
use Rattle.dayfile.specs.declared.Reading.{Reading}
use Rattle.dayfile.specs.declared.Reading.TheVariants.{Found, End, Refused}
use Rattle.dayfile.specs.Layout.{number_at, length_of}

-- the length and the kind that a record begins with
abbrev pub length_in : List ℕ → ℕ
length_in bs = number_at 2 bs 0

abbrev pub kind_in : List ℕ → ℕ
kind_in bs = number_at 2 bs 2

-- "7 if only one byte is left; 9 for a length outside 4 to 8; 7 if the body is short; 8; 9 for the kind"
abbrev pub reading_causes : List ℕ → List Cause
reading_causes bs =
    (eqb (length bs) 1, CutShort)
    ∷ (ltb (length_in bs) 4 || ltb 8 (length_in bs), WrongLength)
    ∷ (ltb (length bs) (2 + length_in bs), CutShort)
    ∷ (eqb (length_of (kind_in bs)) 0, UnknownKind)
    ∷ (not (eqb (length_in bs) (length_of (kind_in bs))), WrongLength)
    ∷ []

-- the record of a known kind (the table, columns Kind and After the kind)
unfoldable pub record_of : List ℕ → ℕ → Request
record_of bs kind =
    let first = number_at 2 bs 4 in
    cond (eqb kind 1) (Open first)
    (cond (eqb kind 2) (Update first (number_at 4 bs 6))
    (cond (eqb kind 3) (Scan first)
    (Turn first)))

-- "either one record and the place of the next, or a refusal"
abbrev pub reading_by : List ℕ → Option Refusal → Reading
reading_by bs none = Found (record_of bs (kind_in bs)) (2 + length_in bs)
reading_by bs (some k) = Refused k

-- the reader's answer; "No bytes left is the ordinary end"
unfoldable pub reading : List ℕ → Reading
reading bs = cond (eqb (length bs) 0) End (reading_by bs (first_cause (reading_causes bs)))

-- what the reader answers as document 01 states it: a record and how many bytes it takes, the ordinary end, or a refusal's number
pub data ReaderReply : Type 0 where
  found : Request → (bytes : ℕ) → ReaderReply
  ended : ReaderReply
  refused : (number : ℕ) → ReaderReply

-- the paper's number and values of each case of what the reader answers
abbrev pub reader_reply : Reading → ReaderReply
reader_reply (Found x next) = found x next
reader_reply End = ended
reader_reply (Refused k) = refused (number_of k)
