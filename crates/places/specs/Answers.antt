-- What an answer makes of a book: the words that are kept until their entries are written, and the places that it finishes.
use Rattle.std.specs.Prelude.{ℕ, ◌+◌, ◌-◌, cond, List, [], ◌∷◌, get_or, set}
use Rattle.snapshot.specs.Requests.{number_in}
use Rattle.snapshot.specs.Refusals.{outside}
use Rattle.snapshot.specs.declared.Answer.{Answer}
use Rattle.snapshot.specs.declared.Answer.TheVariants.{Refused, Opened, Called, Read, Page, Written}
use Rattle.snapshot.specs.declared.Request.{Request}
use Rattle.snapshot.specs.declared.Request.TheVariants.{Open, Update, Scan, Turn}
use Rattle.places.specs.Places.{eight, put_in}

-- the word of each process's last update call; 0 for a process that is none
abbrev pub word_of : List ℕ → ℕ → ℕ
word_of words d = cond (outside 1 8 d) 0 (get_or words (d - 1) 0)

abbrev pub words_with : List ℕ → ℕ → ℕ → List ℕ
words_with words d w = cond (outside 1 8 d) words (set words (d - 1) w)

-- after a request that was called
abbrev pub words_called : List ℕ → Request → List ℕ
words_called words (Open k) = words
words_called words (Update d w) = words_with words d w
words_called words (Scan d) = words
words_called words (Turn d) = words

-- after a request and its answer
unfoldable pub words_after : List ℕ → Request → Answer → List ℕ
words_after words r (Refused k) = words
words_after words r Opened = words
words_after words r Called = words_called words r
words_after words r Read = words
words_after words r (Page lender at turns) = words
words_after words r (Written turns) = words

-- how many operations are finished, and the book
unfoldable pub count_after : ℕ → Answer → ℕ
count_after k (Refused r) = k
count_after k Opened = k
count_after k Called = k
count_after k Read = k
count_after k (Page lender at turns) = k + 1
count_after k (Written turns) = k + 1

unfoldable pub book_after : (words : List ℕ) → (count : ℕ) → Request → (event : ℕ) → (shown : List ℕ) → List (List ℕ) → Answer →
    List (List ℕ)
book_after words count r e shown book (Refused k) = book
book_after words count r e shown book Opened = book
book_after words count r e shown book Called = book
book_after words count r e shown book Read = book
book_after words count r e shown book (Page lender at turns) = put_in (at ∷ 3 ∷ number_in r ∷ eight shown) count book
book_after words count r e shown book (Written turns) =
    put_in (e ∷ 2 ∷ number_in r ∷ eight (word_of words (number_in r) ∷ [])) count book
