-- A run of turns at once (document 02, K4): its refusals, what it leaves, and lists in which runs stand.
use Rattle.std.specs.Prelude.{ℕ, ◌*◌, ◌≤◌, ◌≡◌, Bool, not, ◌||◌, List, [], ◌∷◌, ◌++◌, eqb, ltb, length, get_or, take, drop}
use Rattle.std.proofs.Math.Option.{Option, none, some}
use Rattle.snapshot.specs.declared.Refusal.{Refusal}
use Rattle.snapshot.specs.declared.Refusal.TheVariants.{LentSize, OpenState, TableShort}
use Rattle.snapshot.specs.declared.Answer.{Answer}
use Rattle.snapshot.specs.declared.Answer.TheVariants.{Opened}
use Rattle.snapshot.specs.Refusals.{Cause, first_cause}
use Rattle.snapshot.specs.Tally.{turn}
use Rattle.snapshot.specs.Demand.{Result}
use Rattle.snapshot.specs.Days.{Machine, State, Item, turn_of, sees, method, stepped}
use Rattle.snapshot.specs.Closing.{state_after}
use Rattle.snapshot.specs.Book.{Heard, heard}

-- ---- the refusals of a run

-- "the answer table has fewer places than turns, or the page table fewer than n words for each turn", by K6 2n
abbrev pub is_cramped : (page turns places words : ℕ) → Bool
is_cramped page turns places words = ltb places turns || ltb words (turns * page)

-- "Only 10, 6 and 13 refuse the run itself", and 13 "right after 6 and instead of its page part"
abbrev pub run_causes : (count size page turns places words : ℕ) → List Cause
run_causes count size page turns places words =
    (eqb count 0, OpenState) ∷ (not (eqb size count), LentSize) ∷ (is_cramped page turns places words, TableShort) ∷ []

-- ---- the turns

-- what a run gives: the state it leaves, the refusal of the run itself, if any, and what then stands in the two lent tables
pub record RunResult (S A : Type 0) : Type 0 where
  pub state : S
  pub refusal : Option Refusal
  pub answers : List A
  pub pages : List ℕ

-- give s d ws is a turn of process d that lends page list ws, told what an answer table holds of its result, and page how many words
-- a page has
module _ {S A : Type 0} (give : S → (process : ℕ) → (ws : List ℕ) → Result S) (told : Result S → A) (page : ℕ) where
  -- "each is one turn. Answers go in a lent table in order, pages in a second table at n words a turn", by K6 2n; "every other place of
  -- both remains": the first turn takes the first place of the one and the first words of the other, and the next follows, refused or
  -- not
  unfoldable pub turns_from : S → List ℕ → (answers : List A) → (pages : List ℕ) → RunResult S A
  turns_from s [] answers pages = record { state = s; refusal = none; answers = answers; pages = pages }
  turns_from s (d ∷ ds) answers pages =
      let r = give s d (take page pages) in
      let rest = turns_from r.state ds (drop 1 answers) (drop page pages) in
      record { state = rest.state; refusal = none; answers = told r ∷ rest.answers; pages = r.page ++ rest.pages }

  -- a run that is refused leaves everything as it was
  abbrev pub run_unless : Option Refusal → S → List ℕ → (answers : List A) → (pages : List ℕ) → RunResult S A
  run_unless none s ds answers pages = turns_from s ds answers pages
  run_unless (some k) s ds answers pages = record { state = s; refusal = some k; answers = answers; pages = pages }

-- ---- of a machine

module _ (M : Machine) where
  -- a turn of process d
  abbrev pub give_turn : State M.Process → ℕ → List ℕ → Result (State M.Process)
  give_turn s d page = stepped M s (turn_of d page)

  -- the refusal of a run of so many turns, with tables of so many places and words
  abbrev pub run_refusal : State M.Process → (turns places words : ℕ) → Option Refusal
  run_refusal s turns places words =
      first_cause (run_causes s.day.count (length s.table) (M.page_length s.day.count) turns places words)

  -- a run on any day, table, answer table and page table
  unfoldable pub ran : {A : Type 0} → (Result (State M.Process) → A) → State M.Process → List ℕ → List A → List ℕ →
      RunResult (State M.Process) A
  ran told s ds answers pages =
      run_unless give_turn told (M.page_length s.day.count) (run_refusal s (length ds) (length answers) (length pages))
      s ds answers pages

-- ---- lists in which runs stand

-- what is asked of a day: one item, or a run with its two lent tables
pub data Asked : Type 0 where
  one : Item → Asked
  run : (processes : List ℕ) → (answers : List Answer) → (pages : List ℕ) → Asked

-- the refusal that is expected of a run on a day that was opened and is lent its own table, from the run alone: 13 or none
abbrev pub expected_run : (page : ℕ) → List ℕ → List Answer → (pages : List ℕ) → Option Refusal
expected_run page ds answers pages =
    first_cause ((is_cramped page (length ds) (length answers) (length pages), TableShort) ∷ [])

-- nothing comes of a run that is refused
abbrev pub unless_refused : {A : Type 0} → Option Refusal → List A → List A
unless_refused none xs = xs
unless_refused (some k) xs = []

-- the turns of a run one by one, each with its own words of the page table
abbrev pub turns_of : (page : ℕ) → List ℕ → (pages : List ℕ) → List Item
turns_of page [] pages = []
turns_of page (d ∷ ds) pages = turn_of d (take page pages) ∷ turns_of page ds (drop page pages)

-- the items that a list is one by one
abbrev pub stepped_one_by_one : (page : ℕ) → List Asked → List Item
stepped_one_by_one page [] = []
stepped_one_by_one page (one x ∷ qs) = x ∷ stepped_one_by_one page qs
stepped_one_by_one page (run ds answers pages ∷ qs) =
    unless_refused (expected_run page ds answers pages) (turns_of page ds pages) ++ stepped_one_by_one page qs

module _ (M : Machine) where
  -- a run whose answers are those of the core
  abbrev pub answered : State M.Process → List ℕ → List Answer → List ℕ → RunResult (State M.Process) Answer
  answered s ds answers pages = ran M (λ r. r.answer) s ds answers pages

  -- the state after a whole list, each lent what the one before left
  abbrev pub state_after_all : State M.Process → List Asked → State M.Process
  state_after_all s [] = s
  state_after_all s (one x ∷ qs) = state_after_all (stepped M s x).state qs
  state_after_all s (run ds answers pages ∷ qs) = state_after_all (answered s ds answers pages).state qs

module _ (M : Machine) (n : ℕ) where
  -- what is heard of the turns of a run on a day for n processes: read off the two tables that it left
  abbrev pub heard_turns : List ℕ → List Answer → List ℕ → List (Heard M.Value)
  heard_turns [] answers pages = []
  heard_turns (d ∷ ds) answers pages =
      record { seen = turn d; answer = get_or answers 0 Opened; shown = M.shown n (take (M.page_length n) pages) }
      ∷ heard_turns ds (drop 1 answers) (drop (M.page_length n) pages)

  -- what is heard of a whole list
  abbrev pub heard_of_all : State M.Process → List Asked → List (Heard M.Value)
  heard_of_all s [] = []
  heard_of_all s (one x ∷ qs) =
      let r = stepped M s x in
      record { seen = sees x; answer = r.answer; shown = M.shown n (take (M.page_length n) r.page) }
      ∷ heard_of_all r.state qs
  heard_of_all s (run ds answers pages ∷ qs) =
      let r = answered M s ds answers pages in
      unless_refused r.refusal (heard_turns ds r.answers r.pages) ++ heard_of_all r.state qs

  -- of one run: it is refused as expected, which is to say, given if and only if each turn has a place and the words of a page;
  -- and "every other place of both remains", all of them where it is refused
  pub record RunFits (ds : List ℕ) (answers : List Answer) (pages : List ℕ)
      (r : RunResult (State M.Process) Answer) : Type 0 where
    pub refused : r.refusal ≡ expected_run (M.page_length n) ds answers pages
    pub given : length ds ≤ length answers → length ds * M.page_length n ≤ length pages → r.refusal ≡ none
    pub fits : r.refusal ≡ none → (length ds ≤ length answers) × (length ds * M.page_length n ≤ length pages)
    pub answers_remain :
        let turns = length (unless_refused r.refusal ds) in
        drop turns r.answers ≡ drop turns answers
    pub pages_remain :
        let words = length (unless_refused r.refusal ds) * M.page_length n in
        drop words r.pages ≡ drop words pages

  abbrev pub RunsFit : State M.Process → List Asked → Type 0
  RunsFit s [] = Unit {0}
  RunsFit s (one x ∷ qs) = RunsFit (stepped M s x).state qs
  RunsFit s (run ds answers pages ∷ qs) =
      let r = answered M s ds answers pages in RunFits ds answers pages r × RunsFit r.state qs

  -- "Everything equals giving the turns one by one"
  pub record SameOneByOne (s : State M.Process) (qs : List Asked) : Type 0 where
    pub heard_same : heard_of_all s qs ≡ heard (method M n) s (stepped_one_by_one (M.page_length n) qs)
    pub state_same : state_after_all M s qs ≡ state_after (method M n) s (stepped_one_by_one (M.page_length n) qs)
    pub runs_fit : RunsFit s qs
