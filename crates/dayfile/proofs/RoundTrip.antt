-- What is laid out is read back.
use Prim.Native.Nat.{ℕ}
use native.Mathlib.Omega.{arith}
use mathlib.Core.Path.{◌≡◌, refl, ap, ap₂, ◌∙◌}
use mathlib.Core.List.{List, ◌++◌}
use lib.ListN.{length}
use Rattle.snapshot.specs.declared.Request.{Request}
use Rattle.snapshot.specs.declared.Request.TheVariants.{Open, Update, Scan, Turn}
use Rattle.dayfile.specs.declared.Reading.TheVariants.{Found}
use Rattle.dayfile.specs.Layout.{bytes_of, FieldsFit, layout, length_of}
use Rattle.dayfile.specs.Reader.{record_of, reading}
use Rattle.dayfile.proofs.Numbers.{number_read_back}
use Rattle.dayfile.proofs.Reader.{finds_whole}

-- what stands before the fields
abbrev head : (len kind : ℕ) → List ℕ
head len kind = bytes_of 2 len ++ bytes_of 2 kind

-- a record whose numbers fit is read back from its bytes, whatever follows them
pub layout_read_back : (r : Request) → FieldsFit r → (rest : List ℕ) → reading (layout r ++ rest) ≡ Found r (length (layout r))
unfolding record_of length_of
layout_read_back (Open count) h rest =
    finds_whole (layout (Open count) ++ rest) (omega arith) (omega arith) (omega arith) refl
    ∙ ap (λ n. Found (Open n) 6) (number_read_back 2 count (head 4 1) rest h)
layout_read_back (Update process word) h rest =
    finds_whole (layout (Update process word) ++ rest) (omega arith) (omega arith) (omega arith) refl
    ∙ ap₂ (λ n m. Found (Update n m) 10)
    (number_read_back 2 process (head 8 2) (bytes_of 4 word ++ rest) h.0)
    (number_read_back 4 word (head 8 2 ++ bytes_of 2 process) rest h.1)
layout_read_back (Scan process) h rest =
    finds_whole (layout (Scan process) ++ rest) (omega arith) (omega arith) (omega arith) refl
    ∙ ap (λ n. Found (Scan n) 6) (number_read_back 2 process (head 4 3) rest h)
layout_read_back (Turn process) h rest =
    finds_whole (layout (Turn process) ++ rest) (omega arith) (omega arith) (omega arith) refl
    ∙ ap (λ n. Found (Turn n) 6) (number_read_back 2 process (head 4 4) rest h)
