-- The text of a book by the numbers in its places, as the code lays it, and where it is laid.
use Rattle.std.specs.Prelude.{ℕ, ◌+◌, ◌*◌, Bool, cond, ◌&&◌, List, [], ◌++◌, eqb, leb, length, get_or, take, drop}
use Rattle.texts.specs.Laying.{each_text}
use Rattle.daytext.specs.declared.Line.{Line}
use Rattle.daytext.specs.declared.Line.TheVariants.{Update, BookPage, End}
use Rattle.daytext.specs.Lines.{text_of}
use Rattle.daytext.specs.Buffer.{longest}

-- the line of a place: an entry where its kind is 2, else a page
unfoldable pub place_line : List ℕ → Line
place_line p = cond (eqb (get_or p 1 0) 2) (Update (get_or p 0 0) (get_or p 2 0) (get_or p 3 0)) (BookPage (get_or p 0 0) (get_or p 2 0))

-- its text; the words of a page are the first n of its eight
abbrev pub place_text : ℕ → List ℕ → List ℕ
place_text n p = text_of (place_line p) (take n (drop 3 p)) []

-- the text of places, one line after the other
abbrev pub places_text : ℕ → List (List ℕ) → List ℕ
places_text n ps = each_text (place_text n) ps

-- the bytes of a book's longest line, a page with eight words
abbrev pub longest_place : ℕ
longest_place = 121

-- a book has fewer places than a day has events
abbrev pub most_places : ℕ
most_places = 65535

-- whether `count` of that many places, with n words a page, are laid into that many bytes: there is room for a line of each, and
-- then for the longest line of all
unfoldable pub has_room : (count n places room : ℕ) → Bool
has_room count n places room =
    leb count places && (leb count most_places && (leb n 8 && leb (longest_place * count + longest) room))

-- what is laid: their lines and the end, or nothing
unfoldable pub laid_book : List (List ℕ) → (count n room : ℕ) → List ℕ
laid_book book count n room =
    cond (has_room count n (length book) room) (places_text n (take count book) ++ text_of (End count) [] []) []
