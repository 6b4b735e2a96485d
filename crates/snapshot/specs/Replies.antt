-- An answer as document 01 states it, and the replies to a list of items.
use Rattle.std.specs.Prelude.{ℕ, List, [], ◌∷◌}
use Rattle.snapshot.specs.declared.Answer.{Answer}
use Rattle.snapshot.specs.declared.Answer.TheVariants.{Refused, Opened, Called, Read, Page, Written}
use Rattle.snapshot.specs.Refusals.{number_of}
use Rattle.snapshot.specs.Demand.{Method, step}

-- a refusal is its number; a page names its lender, its instant and its turns, and shows its values; a written entry says its turns
pub data Reply (Value : Type 0) : Type 0 where
  refused : (number : ℕ) → Reply Value
  opened : Reply Value
  called : Reply Value
  read : Reply Value
  page : (lender at turns : ℕ) → List Value → Reply Value
  written : (turns : ℕ) → Reply Value

-- the paper's number and values of each case of an answer, with the values that the page list shows
abbrev pub reply_of : {Value : Type 0} → List Value → Answer → Reply Value
reply_of ws (Refused k) = refused (number_of k)
reply_of ws Opened = opened
reply_of ws Called = called
reply_of ws Read = read
reply_of ws (Page lender at turns) = page lender at turns ws
reply_of ws (Written turns) = written turns

-- the replies to a list of items, each lent what the one before left
abbrev pub replies : (M : Method) → M.State → List M.Item → List (Reply M.Value)
replies M s [] = []
replies M s (x ∷ xs) = let r = step M s x in reply_of (M.shown r.page) r.answer ∷ replies M r.state xs
