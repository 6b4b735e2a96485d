-- Answers gathered in a lent list, as many as it has places for.
use Rattle.std.specs.Prelude.{ℕ, ◌+◌, cond, List, [], ◌∷◌, ltb, length, set}
use Rattle.figures.specs.Figures.{PageAnswer}

-- an answer as it lies in a list (figures/specs/Figures, `answer_in`)
abbrev pub row_of : PageAnswer → List ℕ
row_of a = a.processes ∷ a.lender ∷ a.turns ∷ []

-- a list, and how many of its places hold answers
pub record Gathered : Type 0 where
  pub rows : List (List ℕ)
  pub count : ℕ

-- one answer more, in the next place; a full list stays
unfoldable pub with_one : Gathered → PageAnswer → Gathered
with_one g a = cond (ltb g.count (length g.rows)) (record { rows = set g.rows g.count (row_of a); count = g.count + 1 }) g

-- and all of them, in order
abbrev pub sums_with_all : Gathered → List PageAnswer → Gathered
sums_with_all g [] = g
sums_with_all g (a ∷ xs) = sums_with_all (with_one g a) xs
