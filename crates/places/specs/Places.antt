-- A place of a book, and where it is put among others.
use Rattle.std.specs.Prelude.{ℕ, zero, suc, ◌+◌, cond, List, [], ◌∷◌, ◌++◌, leb, length, get_or, take, drop}
use Rattle.snapshot.specs.Lists.{each}

-- "eight words, an entry's word first, unused ones 0"
abbrev pub eight : List ℕ → List ℕ
eight ws = each 8 (λ i. get_or ws i 0)

-- ---- a place among others

-- where a place of number k belongs among the first i: behind the last whose number is not above its own
abbrev pub spot_in : ℕ → List (List ℕ) → ℕ → ℕ
spot_in k book zero = 0
spot_in k book (suc i) = cond (leb (get_or (get_or book i []) 0 0) k) (suc i) (spot_in k book i)

-- a place put where it belongs among the first so many; a book that has no more places stays as it is
unfoldable pub put_in : List ℕ → ℕ → List (List ℕ) → List (List ℕ)
put_in place count book =
    let i = spot_in (get_or place 0 0) book count in
    cond (leb (length book) count) book (take i book ++ (place ∷ drop i (take count book)) ++ drop (count + 1) book)
