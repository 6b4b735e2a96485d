-- What a list holds once answers are gathered in it: those it held and the new ones after them, as many as it has places for.
use Prim.Native.Nat.{ℕ, ◌+◌, ◌≤◌, ◌<◌}
use native.Mathlib.Nat.{le_refl}
use native.Mathlib.Numerals.{add-one}
use native.Mathlib.Omega.{arith}
use mathlib.Core.Path.{◌≡◌, refl, sym, ap, ap₂, ◌∙◌, subst}
use mathlib.Core.Bool.{Bool, true, false, cond}
use mathlib.Core.List.{List, [], ◌∷◌, ◌++◌, map, append_assoc, append-nil, map-append}
use lib.Dec.{ltb}
use lib.ListN.{length, take, set, length-map, length-set}
use lib.Seq.{take_all, take-suc, take-set-le, get_or-set_same, length-take-le, take-append-le}
use borrow.Author.Tests.{ltb-true, ltb-false}
use Rattle.figures.specs.Figures.{PageAnswer, answer_in}
use Rattle.gathering.specs.Gathered.{Gathered, row_of, with_one, sums_with_all}

-- the answers that a list holds
abbrev pub held_in : Gathered → List PageAnswer
held_in g = map answer_in (take g.count g.rows)

-- g' holds the first of them and of xs, in a list of as many places
pub record Holds (g g' : Gathered) (xs : List PageAnswer) : Type 0 where
  pub long : length g'.rows ≡ length g.rows
  pub few : g'.count ≤ length g'.rows
  pub holds : held_in g' ≡ take (length g.rows) (held_in g ++ xs)

held_long : (g : Gathered) → g.count ≤ length g.rows → length (held_in g) ≡ g.count
held_long g few = length-map (take g.count g.rows) answer_in ∙ length-take-le g.count g.rows few

-- one more, in the next place
put_held : (g : Gathered) (a : PageAnswer) → g.count < length g.rows →
    held_in (record { rows = set g.rows g.count (row_of a); count = g.count + 1 }) ≡ held_in g ++ (a ∷ [])
put_held g a free =
    let row = row_of a in
    let rows' = set g.rows g.count row in
    let inside : g.count < length rows' = subst (λ k. g.count < k) (sym (length-set g.rows g.count row)) free in
    ap (map answer_in)
    (ap (λ k. take k rows') (add-one g.count) ∙ take-suc rows' g.count [] inside
    ∙ ap₂ {C = List (List ℕ)} (λ ts r. ts ++ (r ∷ [])) (take-set-le g.count g.rows g.count row (le_refl g.count))
    (get_or-set_same g.rows g.count row [] free))
    ∙ map-append answer_in (take g.count g.rows) (row ∷ [])

pub with_all : (g : Gathered) (xs : List PageAnswer) → g.count ≤ length g.rows → Holds g (sums_with_all g xs) xs
unfolding with_one
with_all g [] few =
    record {
      long = refl;
      few = few;
      holds = let l = held_long g few in
          sym (ap (take (length g.rows)) (append-nil (held_in g)) ∙ take_all (length g.rows) (held_in g) (omega (arith, l, few)));
    }
with_all g (a ∷ xs) few = go (ltb g.count (length g.rows)) refl (with_all put xs) (with_all g xs few)
  where
    put : Gathered
    put = record { rows = set g.rows g.count (row_of a); count = g.count + 1 }

    go : (b : Bool) → ltb g.count (length g.rows) ≡ b → (put.count ≤ length put.rows → Holds put (sums_with_all put xs) xs) →
        Holds g (sums_with_all g xs) xs → Holds g (sums_with_all (cond b put g) xs) (a ∷ xs)
    go true free more same =
        let room = ltb-true g.count (length g.rows) free in
        let long = length-set g.rows g.count (row_of a) in
        let h = more (omega (arith, room, long)) in
        record {
          long = h.long ∙ long;
          few = h.few;
          holds = h.holds ∙ ap₂ take long (ap (λ hs. hs ++ xs) (put_held g a room) ∙ append_assoc (held_in g) (a ∷ []) xs);
        }
    go false full more same =
        let room = ltb-false g.count (length g.rows) full in
        let l = held_long g few in
        let n = length g.rows in
        let enough : n ≤ length (held_in g) = omega (arith, l, room) in
        record {
          long = same.long;
          few = same.few;
          holds = same.holds ∙ take-append-le n (held_in g) xs enough ∙ sym (take-append-le n (held_in g) (a ∷ xs) enough);
        }
