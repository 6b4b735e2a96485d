-- How the code sums up: an answer at a time (proofs/Summed: it comes to the figures).
use Rattle.std.specs.Prelude.{ℕ, ◌+◌, ◌*◌, ◌≤◌, max, cond, List, [], ◌∷◌, eqb}
use Rattle.figures.specs.declared.Sums.{Sums}
use Rattle.figures.specs.Figures.{PageAnswer}

abbrev pub no_sums : Sums
no_sums = record { pages = 0; turns = 0; borrowed = 0; largest = 0 }

-- one page more
unfoldable pub with_page : Sums → (lender turns : ℕ) → Sums
with_page s lender turns =
    record {
      pages = s.pages + 1;
      turns = s.turns + turns;
      borrowed = s.borrowed + cond (eqb lender 0) 0 1;
      largest = max s.largest turns;
    }

-- with an answer, if it is of a day for n
unfoldable pub with_answer : ℕ → Sums → PageAnswer → Sums
with_answer n s a = cond (eqb a.processes n) (with_page s a.lender a.turns) s

abbrev pub sums_from : ℕ → Sums → List PageAnswer → Sums
sums_from n s [] = s
sums_from n s (a ∷ xs) = sums_from n (with_answer n s a) xs

-- the sums of at most k answers, whose numbers have 32 bits
pub record SumsOf (k : ℕ) (s : Sums) : Type 0 where
  pub pages : s.pages ≤ k
  pub turns : s.turns ≤ k * 4294967295
  pub borrowed : s.borrowed ≤ k

-- t are sums with at most one more than s
pub record Grown (s t : Sums) : Type 0 where
  pub pages : t.pages ≤ s.pages + 1
  pub turns : t.turns ≤ s.turns + 4294967295
  pub borrowed : t.borrowed ≤ s.borrowed + 1
