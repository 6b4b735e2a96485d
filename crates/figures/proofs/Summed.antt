-- The sums of the code are those of the definitions (`sums_come`), so that they give the figures (`figures_come`).
use Prim.Native.Nat.{ℕ, suc, ◌+◌, max}
use native.Mathlib.Nat.{add_assoc, max-zero, zero-max, zero-add}
use native.Mathlib.Omega.{arith}
use mathlib.Core.Path.{◌≡◌, sym, ap, ◌∙◌}
use mathlib.Core.Bool.{Bool, true, false, cond, ◌||◌}
use mathlib.Core.List.{List, [], ◌∷◌}
use lib.Dec.{eqb, ltb}
use lib.ListN.{length}
use Rattle.snapshot.specs.Refusals.{first_cause}
use Rattle.snapshot.specs.declared.Refusal.TheVariants.{CountRange, NoPage, TooMany}
use Rattle.fractions.specs.declared.Fraction.{Fraction}
use Rattle.fractions.specs.Fractions.{lowest_terms}
use Rattle.figures.specs.declared.Figures.{Figures}
use Rattle.std.specs.Prelude.{Result}
use Rattle.snapshot.specs.declared.Refusal.{Refusal}
use Rattle.figures.specs.declared.Sums.{Sums}
use Rattle.figures.specs.Figures.{PageAnswer, answers_for, turns_in, borrowed_in, largest_in, figures_of, reckoned_by, reckoned}
use Rattle.figures.specs.Sums.{no_sums, with_page, with_answer, sums_from}

max_assoc : (a b c : ℕ) → max (max a b) c ≡ max a (max b c)
max_assoc a b c = omega arith

-- s and the sums of all of xs
abbrev with_all : Sums → List PageAnswer → Sums
with_all s xs =
    record {
      pages = s.pages + length xs;
      turns = s.turns + turns_in xs;
      borrowed = s.borrowed + borrowed_in xs;
      largest = max s.largest (largest_in xs);
    }

one_page : (s : Sums) (a : PageAnswer) (xs : List PageAnswer) → with_all (with_page s a.lender a.turns) xs ≡ with_all s (a ∷ xs)
unfolding with_page
one_page s a xs =
    let more : s.pages + 1 + length xs ≡ s.pages + suc (length xs) = omega arith in
    λ i. record {
      pages = more i;
      turns = add_assoc s.turns a.turns (turns_in xs) i;
      borrowed = add_assoc s.borrowed (cond (eqb a.lender 0) 0 1) (borrowed_in xs) i;
      largest = max_assoc s.largest a.turns (largest_in xs) i;
    }

sums_come : (n : ℕ) (s : Sums) (xs : List PageAnswer) → sums_from n s xs ≡ with_all s (answers_for n xs)
unfolding with_answer
sums_come n s [] =
    let none : s.pages + 0 ≡ s.pages = omega arith in
    let none' : s.turns + 0 ≡ s.turns = omega arith in
    let none'' : s.borrowed + 0 ≡ s.borrowed = omega arith in
    λ i. record {
      pages = sym none i;
      turns = sym none' i;
      borrowed = sym none'' i;
      largest = sym (max-zero s.largest) i;
    }
sums_come n s (a ∷ xs) = go (eqb a.processes n) (sums_come n (with_page s a.lender a.turns) xs) (sums_come n s xs)
  where
    page : Sums
    page = with_page s a.lender a.turns

    rest : List PageAnswer
    rest = answers_for n xs

    go : (b : Bool) → sums_from n page xs ≡ with_all page rest → sums_from n s xs ≡ with_all s rest →
        sums_from n (cond b page s) xs ≡ with_all s (cond b (a ∷ rest) rest)
    go true taken left = taken ∙ one_page s a rest
    go false taken left = left

-- ---- the figures, from the sums

abbrev sums_of : List PageAnswer → Sums
sums_of xs = record { pages = length xs; turns = turns_in xs; borrowed = borrowed_in xs; largest = largest_in xs }

module _ (n : ℕ) (s : Sums) (xs : List PageAnswer) (is : s ≡ sums_from n no_sums xs) where
  sums_are : s ≡ sums_of (answers_for n xs)
  sums_are =
      let ys = answers_for n xs in
      is ∙ sums_come n no_sums xs ∙ (λ i. record {
        pages = zero-add (length ys) i;
        turns = zero-add (turns_in ys) i;
        borrowed = zero-add (borrowed_in ys) i;
        largest = zero-max (largest_in ys) i;
      })

  pub pages_counted : s.pages ≡ length (answers_for n xs)
  pages_counted = ap (λ t. t.pages) sums_are

  pub figures_come : (mean borrowed : Fraction) → mean ≡ lowest_terms s.turns s.pages →
      borrowed ≡ lowest_terms s.borrowed s.pages →
      ◌≡◌ {A = Figures} (record { pages = s.pages; mean = mean; borrowed = borrowed; largest = s.largest })
      (figures_of (answers_for n xs))
  figures_come mean borrowed p q =
      (λ i. record { pages = s.pages; mean = p i; borrowed = q i; largest = s.largest })
      ∙ ap (λ t. record {
        pages = t.pages;
        mean = lowest_terms t.turns t.pages;
        borrowed = lowest_terms t.borrowed t.pages;
        largest = t.largest;
      }) sums_are

-- ---- the answer by its causes

module _ (n : ℕ) (xs : List PageAnswer) where
  -- where it is known of each cause whether it holds: the two of 1, then 15 and 14
  abbrev pub by_causes : (low high many none : Bool) → Result Figures Refusal
  by_causes low high many none =
      reckoned_by (answers_for n xs) (first_cause ((low || high, CountRange) ∷ (many, TooMany) ∷ (none, NoPage) ∷ []))

  pub reckoned_by_lem : (low high many none : Bool) → ltb n 1 ≡ low → ltb 8 n ≡ high → ltb 65535 (length xs) ≡ many →
      eqb (length (answers_for n xs)) 0 ≡ none → by_causes low high many none ≡ reckoned n xs
  unfolding reckoned
  reckoned_by_lem low high many none p q r s = λ i. by_causes (sym p i) (sym q i) (sym r i) (sym s i)
