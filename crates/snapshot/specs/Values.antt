-- What a page shows of a register (document 02, K6): its word and the event number of its last writing, together.
use Rattle.std.specs.Prelude.{ℕ, ◌*◌, List, [], ◌∷◌, ◌++◌, map, take, drop}
use Rattle.snapshot.specs.declared.Value.{Value}

-- "the event number of its last writing, 0 if none"
abbrev pub zero_value : Value
zero_value = record { word = 0; last = 0 }

-- a word that event e has written
abbrev pub stored : (e word : ℕ) → Value
stored e w = record { word = w; last = e }

-- ---- a page in a page list

-- the places that a page of n values takes: "6, 13 and case H now ask for 2n places"
abbrev pub page_places : (n : ℕ) → ℕ
page_places n = 2 * n

-- "The page list takes them after the words"
unfoldable pub listed : List Value → List ℕ
listed vs = map (λ v. v.word) vs ++ map (λ v. v.last) vs

-- the n words in such places, and the n numbers
abbrev pub words_in : (n : ℕ) → List ℕ → List ℕ
words_in n page = take n page

abbrev pub lasts_in : (n : ℕ) → List ℕ → List ℕ
lasts_in n page = take n (drop n page)

-- each word with its number
abbrev pub paired : (words lasts : List ℕ) → List Value
paired [] es = []
paired (w ∷ ws) [] = stored 0 w ∷ paired ws []
paired (w ∷ ws) (e ∷ es) = stored e w ∷ paired ws es

-- the n values that they show
unfoldable pub values_in : (n : ℕ) → List ℕ → List Value
values_in n page = paired (words_in n page) (lasts_in n page)
