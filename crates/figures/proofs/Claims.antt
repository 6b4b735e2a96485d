-- What holds of the figures: their fractions are in lowest terms (`mean_lowest`, `borrowed_lowest`), answers past the 65,536th change
-- nothing (`first_enough`), and the example of the request is what it says (`example`).
use Prim.Native.Nat.{ℕ, ◌≤◌, ◌<◌}
use native.Mathlib.Decide.{dec_le}
use native.Mathlib.Omega.{arith}
use mathlib.Core.Path.{◌≡◌, refl, sym, ap, ◌∙◌}
use mathlib.Core.Logic.{by_cases}
use mathlib.Core.Bool.{Bool, true, false}
use mathlib.Core.List.{List, [], ◌∷◌, map}
use lib.Dec.{ltb, eqb}
use lib.ListN.{length, take}
use lib.Seq.{take_all, length-take-le}
use borrow.Author.Tests.{lt-ltb, le-ltb}
use Rattle.fractions.specs.Fractions.{greatest_divisor, lowest_terms, IsLowest}
use Rattle.fractions.proofs.Divisors.{lowest_is}
use Rattle.snapshot.specs.Refusals.{number_of}
use Rattle.std.specs.Prelude.{Result, Ok, Err}
use Rattle.snapshot.specs.declared.Refusal.{Refusal}
use Rattle.figures.specs.declared.Figures.{Figures}
use Rattle.snapshot.specs.declared.Refusal.TheVariants.{CountRange, NoPage, TooMany}
use Rattle.figures.specs.Figures.{PageAnswer, answer_in, answers_for, turns_in, borrowed_in, figures_of, reckoned}
use Rattle.figures.proofs.Summed.{by_causes, reckoned_by_lem}

-- ---- the fractions

module _ (xs : List PageAnswer) (some : 1 ≤ length xs) where
  pub mean_lowest : IsLowest (figures_of xs).mean (turns_in xs) (length xs)
  mean_lowest = lowest_is (turns_in xs) (length xs) some

  pub borrowed_lowest : IsLowest (figures_of xs).borrowed (borrowed_in xs) (length xs)
  borrowed_lowest = lowest_is (borrowed_in xs) (length xs) some

-- ---- too many answers

-- with more than 65,535 it does not matter which they are
many_alike : (n : ℕ) (xs ys : List PageAnswer) → 65535 < length xs → 65535 < length ys → reckoned n xs ≡ reckoned n ys
many_alike n xs ys long long' =
    sym (reckoned_by_lem n xs (ltb n 1) (ltb 8 n) true _ refl refl (lt-ltb 65535 (length xs) long) refl)
    ∙ go (ltb n 1) (ltb 8 n)
    ∙ reckoned_by_lem n ys (ltb n 1) (ltb 8 n) true _ refl refl (lt-ltb 65535 (length ys) long') refl
  where
    go : (low high : Bool) → by_causes n xs low high true (eqb (length (answers_for n xs)) 0) ≡
        by_causes n ys low high true (eqb (length (answers_for n ys)) 0)
    go true high = refl
    go false true = refl
    go false false = refl

pub first_enough : (n most : ℕ) (xs : List PageAnswer) → 65535 < most → reckoned n (take most xs) ≡ reckoned n xs
first_enough n most xs past =
    by_cases (dec_le (length xs) most)
    (λ few. ap (reckoned n) (take_all most xs few))
    (λ many.
    let long = length-take-le most xs (omega (arith, many)) in
    many_alike n (take most xs) xs (omega (arith, long, past)) (omega (arith, many, past)))

-- the number of a refusal, and 0 for figures
abbrev number : Result Figures Refusal → ℕ
number (Ok f) = 0
number (Err k) = number_of k

-- 65,535 are not too many
pub few_enough : (n : ℕ) (xs : List PageAnswer) → length xs ≤ 65535 → reckoned n xs ≡ Err TooMany → ⊥
few_enough n xs few many =
    go (ltb n 1) (ltb 8 n) (eqb (length (answers_for n xs)) 0)
    (reckoned_by_lem n xs (ltb n 1) (ltb 8 n) false _ refl refl (le-ltb 65535 (length xs) few) refl ∙ many)
  where
    go : (low high none : Bool) → by_causes n xs low high false none ≡ Err TooMany → ⊥
    go true high none q = let e : ◌≡◌ {A = ℕ} 1 15 = ap number q in omega (arith, e)
    go false true none q = let e : ◌≡◌ {A = ℕ} 1 15 = ap number q in omega (arith, e)
    go false false true q = let e : ◌≡◌ {A = ℕ} 14 15 = ap number q in omega (arith, e)
    go false false false q = let e : ◌≡◌ {A = ℕ} 0 15 = ap number q in omega (arith, e)

-- ---- a count that is none

-- whatever the answers are, so that 1 comes first
pub outside_first : (xs : List PageAnswer) → (reckoned 0 xs ≡ Err CountRange) × (reckoned 9 xs ≡ Err CountRange)
unfolding reckoned
outside_first xs = (refl, refl)

-- all counts above eight are alike
pub above_eight : (n : ℕ) (xs : List PageAnswer) → 8 < n → reckoned n xs ≡ Err CountRange
above_eight n xs above =
    sym (reckoned_by_lem n xs false true _ _ (le-ltb n 1 (omega (arith, above))) (lt-ltb 8 n above) refl refl)

-- ---- computed

-- answers as they lie in a list: five pages on days for two, and one on a day for three that took longer
abbrev pages : List PageAnswer
pages =
    map answer_in
    ((2 ∷ 2 ∷ 8 ∷ []) ∷ (2 ∷ 0 ∷ 4 ∷ []) ∷ (3 ∷ 1 ∷ 18 ∷ []) ∷ (2 ∷ 0 ∷ 8 ∷ []) ∷ (2 ∷ 1 ∷ 8 ∷ []) ∷ (2 ∷ 0 ∷ 4 ∷ []) ∷ [])

pub example : reckoned 2 pages ≡ Ok (record {
  pages = 5;
  mean = record { numerator = 32; denominator = 5 };
  borrowed = record { numerator = 2; denominator = 5 };
  largest = 8;
})
unfolding reckoned lowest_terms greatest_divisor
example = refl

-- a whole number is over 1, a share of none is 0 over 1, and eight is a count
pub whole_number : reckoned 8 (map answer_in ((8 ∷ 0 ∷ 16 ∷ []) ∷ (8 ∷ 0 ∷ 32 ∷ []) ∷ [])) ≡ Ok (record {
  pages = 2;
  mean = record { numerator = 24; denominator = 1 };
  borrowed = record { numerator = 0; denominator = 1 };
  largest = 32;
})
unfolding reckoned lowest_terms greatest_divisor
whole_number = refl

-- 14 where only other counts have pages
pub none_for_four : reckoned 4 pages ≡ Err NoPage
unfolding reckoned
none_for_four = refl
