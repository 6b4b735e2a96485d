-- Lines of case B of document 01 in which no two fields are one number, so that each stands in its place.
use mathlib.Core.Path.{◌≡◌, refl}
use mathlib.Core.List.{[], ◌∷◌, ◌++◌}
use Rattle.daytext.specs.declared.Line.TheVariants.{Update, Read, Written, Page, BookPage, End}
use Rattle.texts.specs.Ascii.{ascii}
use Rattle.texts.specs.Decimal.{decimal}
use Rattle.daytext.specs.Lines.{body_of, text_of}

-- events 4 and 19 to 21
pub case_b_lem :
    text_of (Update 4 2 7) [] []
    ++ text_of (Written 19 2 5) [] []
    ++ text_of (Read 20 1) [] []
    ++ text_of (Page 21 1 2 16 8) (0 ∷ 7 ∷ []) (0 ∷ 9 ∷ [])
    ≡ ascii "4 entry 2 7\n"
    ++ ascii "19 written 2 turns 5\n"
    ++ ascii "20 read 1\n"
    ++ ascii "21 page 1 from 2 at 16 turns 8 words 0 7 last 0 9\n"
unfolding text_of body_of decimal
case_b_lem = refl

-- its book: the entries at their writing turns, the page at its instant
pub case_b_book :
    text_of (Update 9 2 7) [] []
    ++ text_of (BookPage 16 1) (0 ∷ 7 ∷ []) []
    ++ text_of (Update 19 2 9) [] []
    ++ text_of (End 3) [] []
    ≡ ascii "9 entry 2 7\n"
    ++ ascii "16 page 1 words 0 7\n"
    ++ ascii "19 entry 2 9\n"
    ++ ascii "end 3\n"
unfolding text_of body_of decimal
case_b_book = refl
