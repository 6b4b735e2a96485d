-- A whole file: what stands in it, in order (document 01, Day files and the day runner).
use Rattle.std.specs.Prelude.{ℕ, zero, suc, List, [], ◌∷◌, length, drop}
use Rattle.dayfile.specs.declared.Reading.{Reading}
use Rattle.dayfile.specs.declared.Reading.TheVariants.{Found, End, Refused}
use Rattle.dayfile.specs.Reader.{reading}

-- what stands in a file that begins with x, where `rest` says what stands behind a record: "Refusals 7, 8 and 9 end the file"
abbrev pub read_on : (rest : List ℕ → List Reading) → List ℕ → Reading → List Reading
read_on rest bs (Found r next) = Found r next ∷ rest (drop next bs)
read_on rest bs End = []
read_on rest bs (Refused k) = Refused k ∷ []

-- the first that stand in a file, at most that many
unfoldable pub readings_up_to : ℕ → List ℕ → List Reading
readings_up_to zero bs = []
readings_up_to (suc most) bs = read_on (readings_up_to most) bs (reading bs)

-- the records of a file, and the refusal that ends it if one does; the count is no limit (proofs/Files, `readings_unfold`)
unfoldable pub readings : List ℕ → List Reading
readings bs = readings_up_to (length bs) bs
