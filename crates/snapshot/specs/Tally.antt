-- The tally for demand 3 (document 01, The tally for demand 3): what a list of items and their answers says by itself.
-- It is fed of each item what `Seen` holds, and its answer. It sees neither the day nor its records.
use Rattle.std.specs.Prelude.{ℕ, suc, ◌-◌, Bool, true, false, List, [], ◌∷◌, ◌++◌, get_or, set, replicate}
use Rattle.std.proofs.Math.Option.{Option, none, some, map}
use Rattle.snapshot.specs.Lists.{sum_of}
use Rattle.snapshot.specs.declared.Answer.{Answer}
use Rattle.snapshot.specs.declared.Answer.TheVariants.{Refused, Opened, Called, Read, Page, Written}

-- what a call asks for: a scan (document 01: a page), or an update (document 01: an entry) of one register by one word
pub data Job : Type 0 where
  scan : Job
  update : (register word : ℕ) → Job

-- of an item its kind, its process and its word if any; processes and registers are numbered from 1
pub data Seen : Type 0 where
  opening : Seen
  call : (process : ℕ) → Job → Seen
  turn : (process : ℕ) → Seen

-- by cases on what is seen
abbrev pub by_seen {ℓ} : {A : Type ℓ} → A → (ℕ → Job → A) → (ℕ → A) → Seen → A
by_seen o c t opening = o
by_seen o c t (call d j) = c d j
by_seen o c t (turn d) = t d

-- an open call: its job, its number, and the turns it has gained
pub record Call : Type 0 where
  pub job : Job
  pub number : ℕ
  pub turns : ℕ

-- a number e, a word for each register, the words of every instant up to e, each with the number of its last writing (K6), and for
-- each process at most one open call
pub record Tally (Value : Type 0) : Type 0 where
  pub event : ℕ
  pub words : List Value
  pub instants : List (List Value)
  pub calls : List (Option Call)

-- "at first zeros, and none open": n processes, m registers, and the value zero that stands in a register at first
abbrev pub started : {Value : Type 0} → ℕ → ℕ → Value → Tally Value
started n m zero =
    record {
      event = 0;
      words = replicate m zero;
      instants = replicate m zero ∷ [];
      calls = replicate n none;
    }

-- the open call of process d
abbrev pub call_of : {Value : Type 0} → Tally Value → ℕ → Option Call
call_of t d = get_or t.calls (d - 1) none

-- "The words after event e, zeros for 0, are those of instant e"
abbrev pub instant : {Value : Type 0} → Tally Value → ℕ → List Value
instant t e = get_or t.instants e []

-- an accepted item of process d: e grows by 1, these are the values after it, and this is d's open call
abbrev pub advanced : {Value : Type 0} → Tally Value → List Value → ℕ → Option Call → Tally Value
advanced t ws d c =
    record {
      event = suc t.event;
      words = ws;
      instants = t.instants ++ (ws ∷ []);
      calls = set t.calls (d - 1) c;
    }

-- "the call opens, with its word if it is an entry, its number e and no turns"
abbrev pub opens : ℕ → Job → Call
opens e j = record { job = j; number = e; turns = 0 }

-- "its desk's open call, if any, gains a turn"
abbrev pub gains : Call → Call
gains c = record { job = c.job; number = c.number; turns = suc c.turns }

-- "An entry's answer puts that call's word in the desk's row"; stored e w is what a register holds after w is written by event e
abbrev pub puts : {Value : Type 0} → (ℕ → Value) → List Value → Job → List Value
puts stored ws scan = ws
puts stored ws (update register w) = set ws (register - 1) (stored w)

abbrev pub puts_if : {Value : Type 0} → (ℕ → Value) → List Value → Option Call → List Value
puts_if stored ws none = ws
puts_if stored ws (some c) = puts stored ws c.job

-- the tally after an item and its answer; answers that do not belong to the item change nothing, and never come (`Fits`)
abbrev pub tallied : {Value : Type 0} → (ℕ → ℕ → Value) → Tally Value → Seen → Answer → Tally Value
tallied stored t x (Refused k) = t
tallied stored t x Opened = t
tallied stored t x Called = by_seen t (λ d j. advanced t t.words d (some (opens (suc t.event) j))) (λ d. t) x
tallied stored t x Read = by_seen t (λ d j. t) (λ d. advanced t t.words d (map gains (call_of t d))) x
tallied stored t x (Page lender at turns) = by_seen t (λ d j. t) (λ d. advanced t t.words d none) x
tallied stored t x (Written turns) =
    by_seen t (λ d j. t) (λ d. advanced t (puts_if (stored (suc t.event)) t.words (call_of t d)) d none) x

-- ---- what is owed (document 02, K2); most is the greatest number of turns of a job

-- "A desk waits while its call is open"
abbrev pub is_open : Option Call → Bool
is_open none = false
is_open (some c) = true

-- "A task owes its greatest number of turns .. less the turns it has had"
abbrev pub call_owes : (most : Job → ℕ) → Option Call → ℕ
call_owes most none = 0
call_owes most (some c) = most c.job - c.turns

-- "all turns owed"
abbrev pub tally_owes : {Value : Type 0} → (most : Job → ℕ) → Tally Value → ℕ
tally_owes most t = sum_of (call_owes most) t.calls
