-- "each number that of its row's last writing at or before the page's instant" (document 02, K6), of what is heard alone: which events
-- write, what their last writing leaves in a register at an instant, and that pages show it.
use Rattle.std.specs.Prelude.{ℕ, suc, ◌-◌, ◌<◌, ◌≡◌, cond, ◌&&◌, List, [], ◌∷◌, ◌++◌, get_or, eqb, leb}
use Rattle.std.proofs.Math.Option.{Option, none, some}
use Rattle.snapshot.specs.declared.Answer.{Answer}
use Rattle.snapshot.specs.declared.Answer.TheVariants.{Refused, Opened, Called, Read, Page, Written}
use Rattle.snapshot.specs.declared.Value.{Value}
use Rattle.snapshot.specs.Values.{zero_value, stored}
use Rattle.snapshot.specs.Tally.{Job, scan, update, Seen, by_seen, Call, Tally, call_of, tallied}
use Rattle.snapshot.specs.Book.{Heard}

-- a writing: its event, its register, from 0, and its word
pub record Writing : Type 0 where
  pub number : ℕ
  pub place : ℕ
  pub word : ℕ

-- that of an open call which event e answers, if it is an update
abbrev pub writing_of : (e : ℕ) → Job → List Writing
writing_of e scan = []
writing_of e (update register w) = record { number = e; place = register - 1; word = w } ∷ []

abbrev pub writing_if : (e : ℕ) → Option Call → List Writing
writing_if e none = []
writing_if e (some c) = writing_of e c.job

-- the writing that an answer tells of
abbrev pub writings_by : Tally Value → Seen → Answer → List Writing
writings_by t x (Refused k) = []
writings_by t x Opened = []
writings_by t x Called = []
writings_by t x Read = []
writings_by t x (Page lender at turns) = []
writings_by t x (Written turns) = by_seen [] (λ d j. []) (λ d. writing_if (suc t.event) (call_of t d)) x

-- what register j, which held v, holds at instant e: the last of its writings that is numbered e or less
abbrev pub last_of : (j e : ℕ) → Value → List Writing → Value
last_of j e v [] = v
last_of j e v (w ∷ ws) = last_of j e (cond (eqb w.place j && leb w.number e) (record { word = w.word; last = w.number }) v) ws

-- an answer that is a page shows of each of m registers its last writing at or before the page's instant, "0 if none"; ws are the
-- writings before it
abbrev pub ShowsLast : (m : ℕ) → (ws : List Writing) → List Value → Answer → Type 0
ShowsLast m ws vs (Refused k) = Unit {0}
ShowsLast m ws vs Opened = Unit {0}
ShowsLast m ws vs Called = Unit {0}
ShowsLast m ws vs Read = Unit {0}
ShowsLast m ws vs (Page lender at turns) = (j : ℕ) → j < m → get_or vs j zero_value ≡ last_of j at zero_value ws
ShowsLast m ws vs (Written turns) = Unit {0}

-- and so do all of a list
abbrev pub AllShowLast : (m : ℕ) → (ws : List Writing) → Tally Value → List (Heard Value) → Type 0
AllShowLast m ws t [] = Unit {0}
AllShowLast m ws t (h ∷ hs) =
    ShowsLast m ws h.shown h.answer
    × AllShowLast m (ws ++ writings_by t h.seen h.answer) (tallied stored t h.seen h.answer) hs
