-- The lines that tell what was dropped: `dropped 6 at 12 refused 9`, byte count, first byte and number.
use Rattle.std.specs.Prelude.{ℕ, List, [], ◌∷◌, ◌++◌, get_or}
use Rattle.texts.specs.Ascii.{ascii}
use Rattle.texts.specs.Decimal.{long_decimal}
use Rattle.texts.specs.Laying.{each_text}
use Rattle.daytext.specs.Lines.{joined}
use Rattle.mending.specs.Mending.{Drop}

-- the line of a drop
unfoldable pub drop_text : Drop → List ℕ
drop_text d =
    joined (ascii "dropped")
    (long_decimal d.count ∷ ascii "at" ∷ long_decimal d.first ∷ ascii "refused" ∷ long_decimal d.number ∷ [])
    ++ ascii "\n"

-- one line a drop
abbrev pub drops_text : List Drop → List ℕ
drops_text ds = each_text drop_text ds

-- ---- as the code lays them, by rows

-- the bytes of the longest line: three numbers of twenty digits
abbrev pub longest_drop : ℕ
longest_drop = 82

-- the drop in a row (mender/specs/Results, `row_of`)
abbrev pub drop_in : List ℕ → Drop
drop_in row = record { first = get_or row 0 0; count = get_or row 1 0; number = get_or row 2 0 }

abbrev pub row_text : List ℕ → List ℕ
row_text row = drop_text (drop_in row)

abbrev pub rows_text : List (List ℕ) → List ℕ
rows_text rows = each_text row_text rows
