-- The text of each printed line (document 01, Day files and the day runner; document 02, K1).
use Rattle.std.specs.Prelude.{ℕ, List, [], ◌∷◌, ◌++◌, map}
use Rattle.daytext.specs.declared.Line.{Line}
use Rattle.daytext.specs.declared.Line.TheVariants.{Opened, Update, Scan, Read, Written, Page, BookPage, Refused, End}
use Rattle.texts.specs.Ascii.{ascii}
use Rattle.texts.specs.Decimal.{decimal}
use Rattle.texts.specs.Laying.{spaced}

-- "Single spaces": the first part, and each of the others after a space
abbrev pub joined : List ℕ → List (List ℕ) → List ℕ
joined p ps = p ++ spaced ps

-- what a line tells, with the words ws of a page and the numbers es of their last writings ("An opening prints `open` and the desk
-- count" to "A refused record prints `refused` and its number"; "then `end` and the event number"; "In the runner's page line `last`
-- and the n numbers follow the words", K6); a page of the book (document 02, K1) is its number, `page`, the desk, `words` and the n
-- words
unfoldable pub body_of : Line → (words lasts : List ℕ) → List ℕ
body_of (Opened n) ws es = joined (ascii "open") (decimal n ∷ [])
body_of (Update e p w) ws es = joined (decimal e) (ascii "entry" ∷ decimal p ∷ decimal w ∷ [])
body_of (Scan e p) ws es = joined (decimal e) (ascii "asked" ∷ decimal p ∷ [])
body_of (Read e p) ws es = joined (decimal e) (ascii "read" ∷ decimal p ∷ [])
body_of (Written e p t) ws es = joined (decimal e) (ascii "written" ∷ decimal p ∷ ascii "turns" ∷ decimal t ∷ [])
body_of (Page e p l i t) ws es =
    joined (decimal e)
    (ascii "page"
    ∷ decimal p
    ∷ ascii "from"
    ∷ decimal l
    ∷ ascii "at"
    ∷ decimal i
    ∷ ascii "turns"
    ∷ decimal t
    ∷ ascii "words"
    ∷ map decimal ws)
    ++ spaced (ascii "last" ∷ map decimal es)
body_of (BookPage k p) ws es = joined (decimal k) (ascii "page" ∷ decimal p ∷ ascii "words" ∷ map decimal ws)
body_of (Refused k) ws es = joined (ascii "refused") (decimal k ∷ [])
body_of (End e) ws es = joined (ascii "end") (decimal e ∷ [])

-- "a line feed after each line"
unfoldable pub text_of : Line → (words lasts : List ℕ) → List ℕ
text_of line ws es = body_of line ws es ++ ascii "\n"
