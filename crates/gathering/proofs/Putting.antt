-- What putting an answer in the next place comes to.
use Prim.Native.Nat.{ℕ, ◌+◌, ◌≤◌, ◌<◌}
use mathlib.Core.Path.{◌≡◌, sym, ap, ◌∙◌}
use mathlib.Core.Bool.{cond}
use mathlib.Core.List.{List, [], ◌∷◌}
use lib.ListN.{length, set}
use borrow.Author.Tests.{lt-ltb, le-ltb}
use Rattle.figures.specs.Figures.{PageAnswer}
use Rattle.gathering.specs.Gathered.{Gathered, row_of, with_one, sums_with_all}
use Rattle.gathering.specs.Laps.{gathered}

module _ (rows : List (List ℕ)) (count : ℕ) (a : PageAnswer) where
  abbrev g : Gathered
  g = gathered rows count

  pub full_stays : length rows ≤ count → (xs : List PageAnswer) → xs ≡ a ∷ [] → g ≡ sums_with_all g xs
  unfolding with_one
  full_stays full xs is =
      sym (ap (sums_with_all g) is
      ∙ ap (λ b. cond b (gathered (set rows count (row_of a)) (count + 1)) g) (le-ltb count (length rows) full))

  pub one_more : count < length rows → (xs : List PageAnswer) → xs ≡ a ∷ [] →
      gathered (set rows count (row_of a)) (count + 1) ≡ sums_with_all g xs
  unfolding with_one
  one_more free xs is =
      sym (ap (sums_with_all g) is
      ∙ ap (λ b. cond b (gathered (set rows count (row_of a)) (count + 1)) g) (lt-ltb count (length rows) free))
