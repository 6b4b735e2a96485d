-- Demand 3 as a statement about a method: any n, any list of items, one claim about the whole list.
use Rattle.std.specs.Prelude.{ℕ, suc, ◌+◌, ◌≤◌, ◌<◌, ◌≡◌, true, not, List, [], ◌∷◌, ltb, length, get_or}
use Rattle.std.proofs.Math.Option.{Option, none, some}
use Rattle.snapshot.specs.declared.Refusal.{Refusal}
use Rattle.snapshot.specs.declared.Refusal.TheVariants.{ProcessRange, Busy, Idle, DayFull, LentSize, OpenState}
use Rattle.snapshot.specs.declared.Answer.{Answer}
use Rattle.snapshot.specs.declared.Answer.TheVariants.{Refused, Opened, Called, Read, Page, Written}
use Rattle.snapshot.specs.Refusals.{Cause, first_cause, outside, is_full}
use Rattle.snapshot.specs.Tally.{Job, scan, update, Seen, opening, call, turn, by_seen, Call, Tally, call_of, instant, tallied}
use Rattle.snapshot.specs.Tally.{is_open, tally_owes}

-- what an item gives: the state it leaves, its answer, and its lent page list afterwards
pub record Result (S : Type 0) : Type 0 where
  pub state : S
  pub answer : Answer
  pub page : List ℕ

-- a method of building the register, for a fixed number of processes
pub record Method : Type 1 where
  -- the day with all that is lent beside it, and what can be asked of it
  pub State : Type 0
  pub Item : Type 0
  -- the causes to refuse an item, and what an item that is not refused does
  pub refusal : State → Item → Option Refusal
  pub accept : State → Item → Result State
  -- what the tally sees of an item, and the page list that the item lends
  pub sees : Item → Seen
  pub page_lent : Item → List ℕ
  -- what stands in a register, as pages show it; what it is once event e has written a word; and what a page list shows
  pub Value : Type 0
  pub stored : ℕ → ℕ → Value
  pub shown : List ℕ → List Value
  -- the event number of a state, and the values in its registers
  pub event : State → ℕ
  pub words : State → List Value
  -- the number of processes, how many places of a page list a page takes, and the most accepted turns of a job
  pub processes : ℕ
  pub page_length : ℕ
  pub most : Job → ℕ

-- ---- one item

module _ (M : Method) where
  -- "Day, records and page remain unchanged" on a refusal; otherwise the deed
  abbrev pub admit : M.State → M.Item → Option Refusal → Result M.State
  admit s x none = M.accept s x
  admit s x (some k) = record { state = s; answer = Refused k; page = M.page_lent x }

  unfoldable pub step : M.State → M.Item → Result M.State
  step s x = admit s x (M.refusal s x)

-- ---- what the tally says of an answer

-- a process number from 1 to n
abbrev pub Among : ℕ → ℕ → Type 0
Among n d = (0 < d) × (d ≤ n)

-- the refusal that an answer is, if it is one
abbrev pub refusal_of : Answer → Option Refusal
refusal_of (Refused k) = some k
refusal_of Opened = none
refusal_of Called = none
refusal_of Read = none
refusal_of (Page lender at turns) = none
refusal_of (Written turns) = none

module _ (M : Method) (t : Tally M.Value) where
  -- the causes to refuse an item after an opening, from the tally and the item alone, in document 01's order: "a further opening gets
  -- 10"; a call can get 2, 3 and 5; a turn, by the page list that it lends, 6, 2 and 4. Nothing gets 11
  abbrev pub expected_causes : Seen → (page : List ℕ) → List Cause
  expected_causes opening page = (true, OpenState) ∷ []
  expected_causes (call d j) page =
      (outside 1 M.processes d, ProcessRange)
      ∷ (is_open (call_of t d), Busy)
      ∷ (is_full t.event (tally_owes M.most t) (M.most j), DayFull)
      ∷ []
  expected_causes (turn d) page =
      (ltb (length page) M.page_length, LentSize)
      ∷ (outside 1 M.processes d, ProcessRange)
      ∷ (not (is_open (call_of t d)), Idle)
      ∷ []

  -- the refusal that the tally expects of an item
  abbrev pub expected : M.Item → Option Refusal
  expected x = first_cause (expected_causes (M.sees x) (M.page_lent x))

-- "an accepted turn finds one"
abbrev pub Waiting : Option Call → Type 0
Waiting none = ⊥
Waiting (some c) = Unit {0}

-- "The turns in an answer are the tally's", and are at most the most turns of the job
abbrev pub TurnsFit : (Job → ℕ) → ℕ → Call → Type 0
TurnsFit most turns c = (turns ≡ suc c.turns) × (turns ≤ most c.job)

-- a page closes a scan; it shows exactly the values of its stated instant, later than its call and earlier than its answer
abbrev pub PageFits : {Value : Type 0} → (Job → ℕ) → Tally Value → (at turns : ℕ) → List Value → Option Call → Type 0
PageFits most t at turns ws none = ⊥
PageFits most t at turns ws (some c) =
    (c.job ≡ scan)
    × TurnsFit most turns c
    × (ws ≡ instant t at)
    × (c.number < at)
    × (at < suc t.event)

abbrev pub IsUpdate : Job → Type 0
IsUpdate scan = ⊥
IsUpdate (update register w) = Unit {0}

-- "an answer finds one of its own kind"
abbrev pub WrittenFits : (Job → ℕ) → ℕ → Option Call → Type 0
WrittenFits most turns none = ⊥
WrittenFits most turns (some c) = IsUpdate c.job × TurnsFit most turns c

-- an item's answer, with the values that its page list then shows, against the tally before it; of a refusal `expected` says all
abbrev pub Fits : {Value : Type 0} → ℕ → (Job → ℕ) → Tally Value → Seen → List Value → Answer → Type 0
Fits n most t x ws (Refused k) = Unit {0}
Fits n most t x ws Opened = ⊥
Fits n most t x ws Called = by_seen ⊥ (λ d j. Among n d × (call_of t d ≡ none)) (λ d. ⊥) x
Fits n most t x ws Read = by_seen ⊥ (λ d j. ⊥) (λ d. Among n d × Waiting (call_of t d)) x
Fits n most t x ws (Page lender at turns) =
    by_seen ⊥ (λ d j. ⊥) (λ d. Among n d × PageFits most t at turns ws (call_of t d)) x
Fits n most t x ws (Written turns) = by_seen ⊥ (λ d j. ⊥) (λ d. Among n d × WrittenFits most turns (call_of t d)) x

-- "at no point of the list does a desk still wait that has had" the most turns of its job
abbrev pub Patient : {Value : Type 0} → (Job → ℕ) → Tally Value → Type 0
Patient most t = (i : ℕ) (c : Call) → get_or t.calls i none ≡ some c → c.turns < most c.job

-- "all work can still be ended" (document 02, K2): the day has an event left for every turn owed
abbrev pub Endable : {Value : Type 0} → (Job → ℕ) → Tally Value → Type 0
Endable most t = t.event + tally_owes most t ≤ 65535

-- ---- the whole list

module _ (M : Method) where
  -- each item is lent what the one before left; "After the list the day's event number and the rows' words are the tally's"
  abbrev pub Holds : M.State → Tally M.Value → List M.Item → Type 0
  Holds s t [] = (M.event s ≡ t.event) × (M.words s ≡ t.words)
  Holds s t (x ∷ xs) =
      let r = step M s x in
      let t' = tallied M.stored t (M.sees x) r.answer in
      (refusal_of r.answer ≡ expected M t x)
      × Fits M.processes M.most t (M.sees x) (M.shown r.page) r.answer
      × Patient M.most t'
      × Endable M.most t'
      × Holds r.state t' xs
