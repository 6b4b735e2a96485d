-- The book of a list of items (document 02, K1): its finished operations in one order, by what the items and their answers say by
-- themselves, and what is claimed of it.
use Rattle.std.specs.Prelude.{ℕ, zero, suc, ◌-◌, ◌≤◌, ◌<◌, ◌≡◌, false, not, get_or, set}
use mathlib.Core.List
use mathlib.Core.List.{List, [], ◌∷◌, ◌++◌, map, Perm}
use Rattle.std.proofs.Math.Option.{Option, none, some}
use Rattle.snapshot.specs.declared.Answer.{Answer}
use Rattle.snapshot.specs.declared.Answer.TheVariants.{Refused, Opened, Called, Read, Page, Written}
use Rattle.snapshot.specs.Lists.{keep, All, Pairs, places}
use Rattle.snapshot.specs.Tally.{Job, scan, update, Seen, by_seen, Call, Tally, call_of, tallied}
use Rattle.snapshot.specs.Demand.{Method, step, Among}
use Rattle.snapshot.specs.Canonical.{Action, UpdateRequest, ScanRequest, Update, Scan, UpdateReturn, ScanReturn}
use Rattle.snapshot.specs.Canonical.{Memory, Run, actor_in, is_internal, WellFormed}

-- ---- what is heard

-- of an item: what the tally sees of it, its answer, and the values that its page list then shows
pub record Heard (Value : Type 0) : Type 0 where
  pub seen : Seen
  pub answer : Answer
  pub shown : List Value

-- of a list of items, each lent what the one before left
abbrev pub heard : (M : Method) → M.State → List M.Item → List (Heard M.Value)
heard M s [] = []
heard M s (x ∷ xs) =
    let r = step M s x in
    record { seen = M.sees x; answer = r.answer; shown = M.shown r.page } ∷ heard M r.state xs

-- ---- finished operations

-- a finished operation ("piece of work"): who did what, the words that it shows if it is a scan, and the numbers of its call, of
-- its place in the book and of its answer
pub record Operation : Type 0 where
  pub process : ℕ
  pub job : Job
  pub words : List ℕ
  pub called : ℕ
  pub number : ℕ
  pub answered : ℕ

-- the operation of an open call, if there is one
abbrev pub operations : (process : ℕ) → (words : List ℕ) → (number answered : ℕ) → Option Call → List Operation
operations d ws k e none = []
operations d ws k e (some c) =
    record { process = d; job = c.job; words = ws; called = c.number; number = k; answered = e } ∷ []

-- an action at its number
abbrev pub Timed : Type 0
Timed = ℕ × Action

-- the request that a call is
abbrev pub request : ℕ → Job → Action
request d scan = ScanRequest d
request d (update k w) = UpdateRequest d k w

-- what an item is heard to finish and to say, with the word that a value shows; e is the number that it has if it is accepted
module _ {Value : Type 0} (word : Value → ℕ) where
  -- "each entry at the number of its writing turn, each page at its at"
  abbrev pub finished_by : Tally Value → Seen → List Value → Answer → List Operation
  finished_by t x vs (Refused k) = []
  finished_by t x vs Opened = []
  finished_by t x vs Called = []
  finished_by t x vs Read = []
  finished_by t x vs (Page lender at turns) =
      by_seen [] (λ d j. []) (λ d. operations d (map word vs) at (suc t.event) (call_of t d)) x
  finished_by t x vs (Written turns) =
      by_seen [] (λ d j. []) (λ d. operations d [] (suc t.event) (suc t.event) (call_of t d)) x

  -- "every call and answer at its number"
  abbrev pub said_by : (e : ℕ) → Seen → List Value → Answer → List Timed
  said_by e x vs (Refused k) = []
  said_by e x vs Opened = []
  said_by e x vs Called = by_seen [] (λ d j. (e, request d j) ∷ []) (λ d. []) x
  said_by e x vs Read = []
  said_by e x vs (Page lender at turns) = by_seen [] (λ d j. []) (λ d. (e, ScanReturn d (map word vs)) ∷ []) x
  said_by e x vs (Written turns) = by_seen [] (λ d j. []) (λ d. (e, UpdateReturn d) ∷ []) x

-- the tally after a whole list; stored is what a register holds after a word is written (Tally)
abbrev pub tally_after : {Value : Type 0} → (stored : ℕ → ℕ → Value) → Tally Value → List (Heard Value) → Tally Value
tally_after stored t [] = t
tally_after stored t (h ∷ hs) = tally_after stored (tallied stored t h.seen h.answer) hs

-- what a whole list finishes and says, from a tally on
module _ {Value : Type 0} (stored : ℕ → ℕ → Value) (word : Value → ℕ) where
  abbrev pub finished : Tally Value → List (Heard Value) → List Operation
  finished t [] = []
  finished t (h ∷ hs) =
      finished_by word t h.seen h.shown h.answer ++ finished (tallied stored t h.seen h.answer) hs

  abbrev pub said : Tally Value → List (Heard Value) → List Timed
  said t [] = []
  said t (h ∷ hs) =
      said_by word (suc t.event) h.seen h.shown h.answer ++ said (tallied stored t h.seen h.answer) hs

-- ---- the book

-- "ascending, pages with the same number by the number of their answer": each operation, as it is answered, is placed behind all
-- whose number is not above its own
abbrev pub book : List Operation → List Operation
book os = places (λ o. o.number) os []

-- ---- what is claimed of it

-- its call and its answer are among those of the list, at the numbers that it says
abbrev pub returned : ℕ → List ℕ → Job → Action
returned d ws scan = ScanReturn d ws
returned d ws (update k w) = UpdateReturn d

abbrev pub IsTold : List Timed → Operation → Type 0
IsTold l o =
    List.Mem (o.called, request o.process o.job) l
    × List.Mem (o.answered, returned o.process o.words o.job) l

-- by number, and by answer where numbers agree
abbrev pub InOrder : Operation → Operation → Type 0
InOrder a b = (a.number ≤ b.number) × (a.number ≡ b.number → a.answered < b.answered)

-- "Work finished before other work was called comes first": what stands behind a was not finished before a was called
abbrev pub NotBefore : Operation → Operation → Type 0
NotBefore a b = ¬ (b.answered < a.called)

-- the rows once an operation is read out, and that a page shows them
abbrev pub rows_after : List ℕ → Job → List ℕ
rows_after rows scan = rows
rows_after rows (update k w) = set rows (k - 1) w

abbrev pub Shows : List ℕ → List ℕ → Job → Type 0
Shows rows ws scan = ws ≡ rows
Shows rows ws (update k w) = Unit {0}

-- "Read from the top over rows .., every page in the book shows the last word written above it in each row"
abbrev pub ReadsTrue : List ℕ → List Operation → Type 0
ReadsTrue rows [] = Unit {0}
ReadsTrue rows (o ∷ os) = Shows rows o.words o.job × ReadsTrue (rows_after rows o.job) os

-- the internal action that an operation is "serialized at", at its number
abbrev pub serialized : ℕ → List ℕ → Job → Action
serialized d ws scan = Scan d ws
serialized d ws (update k w) = Update d k w

abbrev pub placed_at : Operation → Timed
placed_at o = (o.number, serialized o.process o.words o.job)

-- the automaton where these words stand and these calls are open: H_i holds the request of process i, or ⊥
abbrev pub pending : ℕ → Option Call → Option Action
pending d none = none
pending d (some c) = some (request d c.job)

abbrev pub interface_of : List (Option Call) → ℕ → Option Action
interface_of calls zero = none
interface_of calls (suc i) = pending (suc i) (get_or calls i none)

abbrev pub memory_of : {Value : Type 0} → (Value → ℕ) → Tally Value → Memory
memory_of word t = record { Mem = map word t.words; H = interface_of t.calls }

abbrev pub internals : List Timed → List Timed
internals l = keep (λ a. is_internal a.1) l

abbrev pub interface : List Timed → List Timed
interface l = keep (λ a. not (is_internal a.1)) l

-- "With every call and answer at its number this is a run of the canonical automaton": of n processes, from t, when nobody waits, to u
pub record IsSerialized {Value : Type 0} (n : ℕ) (word : Value → ℕ) (t u : Tally Value) (os : List Operation)
    (calls-and-answers : List Timed) : Type 0 where
  pub actions : List Timed
  pub inside : internals actions ≡ map placed_at (book os)
  pub outside : interface actions ≡ calls-and-answers
  pub ascending : Pairs (λ a b. a.0 ≤ b.0) actions
  pub processes : All (λ a. Among n (actor_in a.1)) actions
  pub run : Run (memory_of word t) (map (λ a. a.1) actions) (memory_of word u)
  pub well_formed : WellFormed (λ d. false) (map (λ a. a.1) actions)

-- of the finished operations os: the book holds each of them once, with the numbers of its call and answer, in order; every page in
-- it is true; and it is a run
pub record IsBooked {Value : Type 0} (n : ℕ) (word : Value → ℕ) (t u : Tally Value) (os : List Operation)
    (calls-and-answers : List Timed) : Type 0 where
  pub whole : Perm (book os) os
  pub told : All (IsTold calls-and-answers) (book os)
  pub ordered : Pairs InOrder (book os)
  pub first : Pairs NotBefore (book os)
  pub reads : ReadsTrue (map word t.words) (book os)
  pub serial : IsSerialized n word t u os calls-and-answers
