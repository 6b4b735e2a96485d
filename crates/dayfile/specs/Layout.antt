-- The house layout (document 01, Day files and the day runner): numbers as bytes, and the bytes of a record.
use Rattle.std.specs.Prelude.{ℕ, zero, suc, ◌+◌, ◌*◌, ◌/◌, ◌%◌, ◌^◌, ◌<◌, List, [], ◌∷◌, ◌++◌, length, get_or}
use Rattle.snapshot.specs.declared.Request.{Request}
use Rattle.snapshot.specs.declared.Request.TheVariants.{Open, Update, Scan, Turn}

-- ---- numbers

-- the k bytes of x, "little-endian"
abbrev pub bytes_of : ℕ → ℕ → List ℕ
bytes_of zero x = []
bytes_of (suc k) x = x % 256 ∷ bytes_of k (x / 256)

-- the number in the k bytes from a place on
abbrev pub number_at : ℕ → List ℕ → ℕ → ℕ
number_at zero bs at = 0
number_at (suc k) bs at = get_or bs at 0 + 256 * number_at k bs (at + 1)

-- ---- records

-- the numbers fit their fields: "Every field is 16 bits but the word, 32"
abbrev pub FieldsFit : Request → Type 0
FieldsFit (Open count) = count < 2 ^ 16
FieldsFit (Update process word) = (process < 2 ^ 16) × (word < 2 ^ 32)
FieldsFit (Scan process) = process < 2 ^ 16
FieldsFit (Turn process) = process < 2 ^ 16

-- "a two-byte kind", and the fields (the table, columns Kind and After the kind)
abbrev pub body : Request → List ℕ
body (Open count) = bytes_of 2 1 ++ bytes_of 2 count
body (Update process word) = bytes_of 2 2 ++ bytes_of 2 process ++ bytes_of 4 word
body (Scan process) = bytes_of 2 3 ++ bytes_of 2 process
body (Turn process) = bytes_of 2 4 ++ bytes_of 2 process

-- "length first"; "Length (16 bits) counts the bytes after itself"
abbrev pub layout : Request → List ℕ
layout r = bytes_of 2 (length (body r)) ++ body r

-- the lengths of the kinds from 0 on (the table, column Length); there is no kind 0
abbrev pub lengths : List ℕ
lengths = 0 ∷ 4 ∷ 8 ∷ 4 ∷ 4 ∷ []

-- the length of a kind's records, 0 for an unknown kind
unfoldable pub length_of : ℕ → ℕ
length_of kind = get_or lengths kind 0
