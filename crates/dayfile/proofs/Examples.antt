-- What the reader refuses (document 01, Reasons to refuse, 7 to 9; Day files and the day runner, "Order"), by the papers' numbers.
use Prim.Native.Nat.{ℕ}
use mathlib.Core.Path.{◌≡◌, refl}
use mathlib.Core.List.{List, [], ◌∷◌, ◌++◌, map}
use Rattle.dayfile.specs.Layout.{length_of}
use Rattle.dayfile.specs.Reader.{reading, ReaderReply, found, ended, refused, reader_reply}

-- the number of a refusal, and 0 where there is none
abbrev refused_by : ReaderReply → ℕ
refused_by (found x bytes) = 0
refused_by ended = 0
refused_by (refused k) = k

-- bytes that begin with these, and the number that the reader gives
pub record Example : Type 0 where
  pub bytes : List ℕ
  pub number : ℕ

abbrev gets : ℕ → List ℕ → Example
gets k bs = record { bytes = bs; number = k }

-- a record of this length and kind, both below 256, with these bytes after them
abbrev framed : (length kind : ℕ) → List ℕ → List ℕ
framed length kind bs = length ∷ 0 ∷ kind ∷ 0 ∷ bs

-- "one byte: 04", "a record of kind 9, length 4", "kind 2, length 4"
abbrev small_examples : List Example
small_examples = gets 7 (4 ∷ []) ∷ gets 8 (framed 4 9 (1 ∷ 0 ∷ [])) ∷ gets 9 (framed 4 2 (1 ∷ 0 ∷ [])) ∷ []

-- "No bytes left is the ordinary end"; "length outside 4 to 8"; the kinds are 1 to 4
abbrev limits : List Example
limits =
    gets 0 []
    ∷ gets 9 (framed 3 4 (1 ∷ []))
    ∷ gets 0 (framed 4 4 (1 ∷ 0 ∷ []))
    ∷ gets 0 (framed 8 2 (1 ∷ 0 ∷ 7 ∷ 0 ∷ 0 ∷ 0 ∷ []))
    ∷ gets 9 (framed 9 2 (1 ∷ 0 ∷ 7 ∷ 0 ∷ 0 ∷ 0 ∷ 0 ∷ []))
    ∷ gets 8 (framed 4 0 (1 ∷ 0 ∷ []))
    ∷ gets 0 (framed 4 1 (1 ∷ 0 ∷ []))
    ∷ gets 0 (framed 4 3 (1 ∷ 0 ∷ []))
    ∷ gets 8 (framed 4 5 (1 ∷ 0 ∷ []))
    ∷ []

-- two causes at once: "7 if only one byte is left; 9 for a length outside 4 to 8; 7 if the body is short; 8; 9 for the kind"
abbrev orders : List Example
orders =
    gets 7 (9 ∷ [])
    ∷ gets 9 (3 ∷ 0 ∷ [])
    ∷ gets 9 (9 ∷ 0 ∷ [])
    ∷ gets 7 (framed 4 9 (1 ∷ []))
    ∷ gets 7 (framed 8 3 (1 ∷ 0 ∷ []))
    ∷ gets 8 (framed 8 9 (1 ∷ 0 ∷ 7 ∷ 0 ∷ 0 ∷ 0 ∷ []))
    ∷ []

abbrev examples : List Example
examples = small_examples ++ limits ++ orders

pub examples_follow : map (λ x. refused_by (reader_reply (reading x.bytes))) examples ≡ map (λ x. x.number) examples
unfolding reading length_of
examples_follow = refl
