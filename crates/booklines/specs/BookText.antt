-- The text of a book (document 02, K1): "one list they can read aloud".
use Rattle.std.specs.Prelude.{ℕ, List, [], ◌∷◌, ◌++◌, length}
use Rattle.snapshot.specs.Tally.{Job, scan, update}
use Rattle.snapshot.specs.Book.{Operation}
use Rattle.daytext.specs.declared.Line.{Line}
use Rattle.daytext.specs.declared.Line.TheVariants.{Update, BookPage, End}
use Rattle.daytext.specs.Lines.{text_of}

-- the line of an operation: an entry with its word, or a page, whose words stand beside its line
abbrev pub job_line : (number process : ℕ) → Job → Line
job_line k d scan = BookPage k d
job_line k d (update i w) = Update k d w

abbrev pub operation_line : Operation → Line
operation_line o = job_line o.number o.process o.job

-- their lines, one after the other
abbrev pub operation_lines : List Operation → List ℕ
operation_lines [] = []
operation_lines (o ∷ os) = text_of (operation_line o) o.words [] ++ operation_lines os

-- one line an operation, then `end` and how many there are
unfoldable pub book_text : List Operation → List ℕ
book_text os = operation_lines os ++ text_of (End (length os)) [] []
