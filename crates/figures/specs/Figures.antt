-- Figures for the quarter (document 02, K5).
use Rattle.std.specs.Prelude.{ℕ, ◌+◌, max, cond, List, [], ◌∷◌, eqb, ltb, length, get_or, Result, Ok, Err}
use Rattle.std.proofs.Math.Option.{Option, none, some}
use Rattle.snapshot.specs.Refusals.{Cause, first_cause, outside}
use Rattle.snapshot.specs.declared.Refusal.{Refusal}
use Rattle.snapshot.specs.declared.Refusal.TheVariants.{CountRange, NoPage, TooMany}
use Rattle.fractions.specs.Fractions.{lowest_terms}
use Rattle.figures.specs.declared.Figures.{Figures}

-- what the figures look at in a page's answer, and its day's number of processes ("each with its day's desk count"); the lender is 0
-- where the page is clean
pub record PageAnswer : Type 0 where
  pub processes : ℕ
  pub lender : ℕ
  pub turns : ℕ

-- an answer as it lies in a lent list, three numbers in this order
abbrev pub answer_in : List ℕ → PageAnswer
answer_in row = record { processes = get_or row 0 0; lender = get_or row 1 0; turns = get_or row 2 0 }

-- ---- the sums

-- the answers of days for n processes
abbrev pub answers_for : ℕ → List PageAnswer → List PageAnswer
answers_for n [] = []
answers_for n (a ∷ xs) = cond (eqb a.processes n) (a ∷ answers_for n xs) (answers_for n xs)

-- their turns in all
abbrev pub turns_in : List PageAnswer → ℕ
turns_in [] = 0
turns_in (a ∷ xs) = a.turns + turns_in xs

-- how many of them are borrowed
abbrev pub borrowed_in : List PageAnswer → ℕ
borrowed_in [] = 0
borrowed_in (a ∷ xs) = cond (eqb a.lender 0) 0 1 + borrowed_in xs

-- "the largest turn count"
abbrev pub largest_in : List PageAnswer → ℕ
largest_in [] = 0
largest_in (a ∷ xs) = max a.turns (largest_in xs)

-- ---- the figures

-- "the mean turns of a page and the share of borrowed pages as fractions in lowest terms, and the largest turn count"
abbrev pub figures_of : List PageAnswer → Figures
figures_of xs =
    record {
      pages = length xs;
      mean = lowest_terms (turns_in xs) (length xs);
      borrowed = lowest_terms (borrowed_in xs) (length xs);
      largest = largest_in xs;
    }

-- "1 when the desk count asked for is outside 1 to 8, then 15 when more than 65,535 answers are given, then 14 when that desk count has
-- no page"
abbrev pub figure_causes : ℕ → List PageAnswer → List Cause
figure_causes n xs =
    (outside 1 8 n, CountRange) ∷ (ltb 65535 (length xs), TooMany) ∷ (eqb (length (answers_for n xs)) 0, NoPage) ∷ []

abbrev pub reckoned_by : List PageAnswer → Option Refusal → Result Figures Refusal
reckoned_by xs none = Ok (figures_of xs)
reckoned_by xs (some k) = Err k

-- the figures for n, or why there are none
unfoldable pub reckoned : ℕ → List PageAnswer → Result Figures Refusal
reckoned n xs = reckoned_by (answers_for n xs) (first_cause (figure_causes n xs))
