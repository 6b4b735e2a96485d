-- What it is to lay text into a lent buffer.
use Rattle.std.specs.Prelude.{ℕ, ◌+◌, ◌≡◌, ◌≤◌, List, [], ◌∷◌, ◌++◌, length, take, drop}
use Rattle.texts.specs.Ascii.{ascii}
use Rattle.texts.specs.declared.Sheet.{Sheet}

-- the buffer with the text from place at on, and as it was before and after the text
unfoldable pub with_text : List ℕ → ℕ → List ℕ → List ℕ
with_text out at text = take at out ++ text ++ drop (at + length text) out

-- the text was laid into the buffer out from place at on: the buffer after that, and the place r after the text
pub record Laid (out : List ℕ) (at : ℕ) (text after : List ℕ) (r : ℕ) : Type 0 where
  pub buffer : after ≡ with_text out at text
  pub end : r ≡ at + length text

-- ---- on a sheet

-- the sheet has n places left
abbrev pub HasRoom : Sheet → ℕ → Type 0
HasRoom s n = s.at + n ≤ length s.out.now

-- t has the buffer of s, as long as it was; its owner finds what t has in it
pub record SameBuffer (s t : Sheet) : Type 0 where
  pub same_name : t.out.ghost_name ≡ s.out.ghost_name
  pub same_length : length t.out.now ≡ length s.out.now

-- the text was laid on the sheet s where it ended, and t is the sheet after that
pub record Lays (s : Sheet) (text : List ℕ) (t : Sheet) : Type 0 where
  pub buffer : SameBuffer s t
  pub laid : Laid s.out.now s.at text t.out.now t.at

-- ---- parts

-- a space before each part
abbrev pub spaced : List (List ℕ) → List ℕ
spaced [] = []
spaced (p ∷ ps) = ascii " " ++ (p ++ spaced ps)

-- the text of each, one after the other
abbrev pub each_text : {A : Type 0} → (A → List ℕ) → List A → List ℕ
each_text f [] = []
each_text f (x ∷ xs) = f x ++ each_text f xs
