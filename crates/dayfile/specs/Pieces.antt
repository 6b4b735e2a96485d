-- A file read from end to end, whatever the reader refuses in it (document 02, K7).
use Rattle.std.specs.Prelude.{ℕ, zero, suc, ◌+◌, min, cond, List, [], ◌∷◌, length, take, drop, eqb}
use Rattle.snapshot.specs.Refusals.{number_of}
use Rattle.dayfile.specs.declared.Reading.{Reading}
use Rattle.dayfile.specs.declared.Reading.TheVariants.{Found, End, Refused}
use Rattle.dayfile.specs.Reader.{length_in, reading}

-- how many of these bytes belong to what was read: a record's own; "on 8 or 9 .. the two length bytes and as many bytes as they say, or
-- all that is left if fewer; on 7 .. the rest"
unfoldable pub span_of : List ℕ → Reading → ℕ
span_of bs (Found r next) = next
span_of bs End = 0
span_of bs (Refused k) = cond (eqb (number_of k) 7) (length bs) (min (2 + length_in bs) (length bs))

-- a piece of a file: its bytes, and what the reader answered there
pub record Piece : Type 0 where
  pub bytes : List ℕ
  pub reading : Reading

abbrev pub first_piece_of : List ℕ → Reading → Piece
first_piece_of bs x = record { bytes = take (span_of bs x) bs; reading = x }

-- the pieces of a file that begins with x, where `rest` says those of what is behind: nothing but the end of the bytes ends it
abbrev pub cut_on : (rest : List ℕ → List Piece) → List ℕ → Reading → List Piece
cut_on rest bs (Found r next) = first_piece_of bs (Found r next) ∷ rest (drop next bs)
cut_on rest bs End = []
cut_on rest bs (Refused k) = first_piece_of bs (Refused k) ∷ rest (drop (span_of bs (Refused k)) bs)

-- the first pieces of a file, at most that many
unfoldable pub pieces_up_to : ℕ → List ℕ → List Piece
pieces_up_to zero bs = []
pieces_up_to (suc most) bs = cut_on (pieces_up_to most) bs (reading bs)

-- "Read the file from end to end"; the count is no limit (proofs/Pieces, `pieces_unfold`)
unfoldable pub pieces : List ℕ → List Piece
pieces bs = pieces_up_to (length bs) bs
