-- What demand 3 lets pass and what not: short histories of two processes that just pass, and for each sentence of document 01 one
-- that it forbids. A weaker definition would let one of these pass, a stronger one would stop one of those.
use Prim.Native.Nat.{ℕ, zero, suc, ◌<◌}
use native.Mathlib.Omega.{arith}
use mathlib.Core.Path.{◌≡◌, refl, ap, subst}
use mathlib.Core.Logic.{inl, inr}
use mathlib.Core.Bool.{true, false, false≢true}
use mathlib.Core.List.{List, [], ◌∷◌, ◌++◌, map}
use mathlib.Core.Option.{Option, none, some, none-ne-some, some-ne-none}
use lib.ListN.{get_or, replicate}
use Rattle.snapshot.specs.declared.Answer.{Answer}
use Rattle.snapshot.specs.declared.Answer.TheVariants.{Refused, Opened, Called, Read, Page, Written}
use Rattle.snapshot.specs.declared.Refusal.{Refusal}
use Rattle.snapshot.specs.declared.Refusal.TheVariants.{CountRange, ProcessRange, Busy, Idle, DayFull, LentSize, CannotArise}
use Rattle.snapshot.specs.declared.Value.{Value}
use Rattle.snapshot.specs.Values.{zero_value, stored, words_in, lasts_in, paired}
use Rattle.snapshot.specs.Refusals.{number_of, is_past}
use Rattle.snapshot.specs.Tally.{Job, scan, update, Seen, opening, call, turn, by_seen, Call, Tally, started, instant, gains, tallied}
use Rattle.snapshot.specs.Demand.{Method, step, IsUpdate, refusal_of, Holds}
use Rattle.snapshot.specs.Closing.{tally_after, is_turn_of, Ends, Closable, TurnsTaken, NobodyWaits, AllEnds}

-- ---- histories

-- an item of a history: what the tally sees of it, its answer, and its page list afterwards
pub record Told : Type 0 where
  pub seen : Seen
  pub answer : Answer
  pub page : List ℕ

-- what a day says after a history: its event number, and the values in its registers
pub record Left : Type 0 where
  pub event : ℕ
  pub words : List Value

-- a scan may take two turns, an update three
abbrev most : Job → ℕ
most scan = 2
most (update register w) = 3

-- a method of two processes whose items are seen and answered so; and the one that answers what the history tells
abbrev telling : (Told → Seen) → (Told → Answer) → Method
telling seen answer =
    record {
      State = Left;
      Item = Told;
      refusal = λ s x. none;
      accept = λ s x. record { state = s; answer = answer x; page = x.page };
      sees = seen;
      page_lent = λ x. x.page;
      Value = Value;
      stored = stored;
      shown = λ page. paired (words_in 2 page) (lasts_in 2 page);
      event = λ s. s.event;
      words = λ s. s.words;
      processes = 2;
      page_length = 4;
      most = most;
    }

abbrev told : Method
told = telling (λ x. x.seen) (λ x. x.answer)

-- the tally after a history
abbrev tallies : Tally Value → List Told → Tally Value
tallies t [] = t
tallies t (x ∷ xs) = tallies (tallied stored t x.seen x.answer) xs

-- the page lists of a page of zeros, and of one with the 7 that event 4 wrote
abbrev zeros : List ℕ
zeros = replicate 4 0

abbrev seven_by4 : List ℕ
seven_by4 = 7 ∷ 0 ∷ 4 ∷ 0 ∷ []

-- an item whose page list has zeros
abbrev says : Seen → Answer → Told
says x a = record { seen = x; answer = a; page = zeros }

abbrev call_by : ℕ → Job → Told
call_by d j = says (call d j) Called

abbrev read_by : ℕ → Told
read_by d = says (turn d) Read

abbrev write_by : (d turns : ℕ) → Told
write_by d turns = says (turn d) (Written turns)

abbrev page_by : (d at turns : ℕ) → List ℕ → Told
page_by d at turns page = record { seen = turn d; answer = Page 0 at turns; page = page }

-- process 1 writes 7 by event 4; process 2 calls a scan by event 3, and reads by event 5
abbrev five : List Told
five = call_by 1 (update 1 7) ∷ read_by 1 ∷ call_by 2 scan ∷ write_by 1 2 ∷ read_by 2 ∷ []

-- process 1 has called an update, and has read k times
abbrev reading : ℕ → List Told
reading k = call_by 1 (update 1 7) ∷ replicate k (read_by 1)

-- two zeros in the registers, and 7 after event 4
abbrev untouched : List Value
untouched = zero_value ∷ zero_value ∷ []

abbrev seven : List Value
seven = stored 4 7 ∷ zero_value ∷ []

-- the day after e events, the last write that of 7
abbrev ends : ℕ → Left
ends e = record { event = e; words = seven }

-- the tally after the five: the values of instants 0 to 5, and the scan's call with its number and its one turn
abbrev tallied_five : Tally Value
tallied_five =
    record {
      event = 5;
      words = seven;
      instants = replicate 4 untouched ++ replicate 2 seven;
      calls = none ∷ some (record { job = scan; number = 3; turns = 1 }) ∷ [];
    }

pub five_tallied : tallies (started 2 2 zero_value) five ≡ tallied_five
five_tallied = refl

-- after the history ys demand 3 lets xs pass, and the day then says so
abbrev Passes : (ys : List Told) → Left → (xs : List Told) → Type 0
Passes ys s xs = Holds told s (tallies (started 2 2 zero_value) ys) xs

-- the number of a refusal, 0 for none
abbrev number_if : Option Refusal → ℕ
number_if none = 0
number_if (some k) = number_of k

-- ---- what passes

-- an open call, if any, that has not had its most turns
abbrev Early : Option Call → Type 0
Early none = Unit {0}
Early (some c) = c.turns < most c.job

two_patient : (a b : Option Call) → Early a → Early b →
    (i : ℕ) (c : Call) → get_or (a ∷ b ∷ []) i none ≡ some c → Early (some c)
two_patient a b l m zero c q = subst Early q l
two_patient a b l m (suc zero) c q = subst Early q m
two_patient a b l m (suc (suc i)) c q = absurd (none-ne-some c q)

-- the first instant after the call and the last before the answer, with as many turns as a scan may take
pub page_in_time : Passes five (ends 6) (page_by 2 4 2 seven_by4 ∷ []) × Passes five (ends 6) (page_by 2 5 2 seven_by4 ∷ [])
unfolding step
page_in_time = (in_time refl (omega arith) (omega arith), in_time refl (omega arith) (omega arith))
  where
    in_time : {at : ℕ} → seven ≡ instant tallied_five at → 3 < at → at < 6 →
        Passes five (ends 6) (page_by 2 at 2 seven_by4 ∷ [])
    in_time q l m = (
      refl,
      ((omega arith, omega arith), (refl, (refl, omega arith), q, l, m)),
      two_patient none none tt tt,
      omega arith,
      (refl, refl),
    )

-- an update with as many turns as it may take
pub written_in_time : Passes (reading 2) (ends 4) (write_by 1 3 ∷ [])
unfolding step
written_in_time =
    (refl, ((omega arith, omega arith), (tt, (refl, omega arith))), two_patient none none tt tt, omega arith, (refl, refl))

-- ---- a page's instant and its words

-- "later than its call": event 3 is the call
pub page_at_its_call : ¬ Passes five (ends 6) (page_by 2 3 2 zeros ∷ [])
unfolding step
page_at_its_call h = omega (arith, h.1.1.3)

-- "earlier than its answer": event 6 is the answer
pub page_at_its_answer : (ws : List ℕ) → ¬ Passes five (ends 6) (page_by 2 6 2 ws ∷ [])
unfolding step
page_at_its_answer ws h = omega (arith, h.1.1.4)

-- "exactly the n words that stood in the rows together at the page's stated instant": zeros stood until event 4
pub page_of_an_older_instant : ¬ Passes five (ends 6) (page_by 2 4 2 zeros ∷ [])
unfolding step
page_of_an_older_instant h = omega (arith, ap (λ vs. (get_or vs 0 zero_value).word) h.1.1.2)

-- "each number that of its row's last writing" (K6): 7 was written by event 4, and called by event 1
pub page_of_another_number : ¬ Passes five (ends 6) (page_by 2 4 2 (7 ∷ 0 ∷ 1 ∷ 0 ∷ []) ∷ [])
unfolding step
page_of_another_number h = omega (arith, ap (λ vs. (get_or vs 0 zero_value).last) h.1.1.2)

-- ---- turns

-- "The turns in an answer are the tally's"
pub page_of_other_turns : ¬ Passes five (ends 6) (page_by 2 4 1 seven_by4 ∷ [])
unfolding step
page_of_other_turns h = omega (arith, h.1.1.1.0)

-- one turn too many in an answer
pub page_too_late : ¬ Passes five (ends 7) (read_by 2 ∷ page_by 2 4 3 seven_by4 ∷ [])
unfolding step
page_too_late h = omega (arith, h.4.1.1.1.1)

pub written_too_late : ¬ Passes (reading 3) (ends 5) (write_by 1 4 ∷ [])
unfolding step
written_too_late h = omega (arith, h.1.1.1.1)

-- "at no point of the list does a desk still wait that has had" the most turns
pub scan_still_waits : ¬ Passes five (ends 6) (read_by 2 ∷ [])
unfolding step
scan_still_waits h = omega (arith, h.2 1 (record { job = scan; number = 3; turns = 2 }) refl)

pub update_still_waits : ¬ Passes (reading 2) (ends 4) (read_by 1 ∷ [])
unfolding step
update_still_waits h = omega (arith, h.2 0 (record { job = update 1 7; number = 1; turns = 3 }) refl)

-- ---- calls, kinds and refusals

-- "An accepted call finds no open call of its desk, an accepted turn finds one, and an answer finds one of its own kind"
pub second_call : ¬ Passes five (ends 6) (call_by 2 scan ∷ [])
unfolding step
second_call h = some-ne-none (record { job = scan; number = 3; turns = 1 }) h.1.1

pub turn_without_a_call : ¬ Passes five (ends 6) (read_by 1 ∷ [])
unfolding step
turn_without_a_call h = h.1.1

pub page_without_a_call : ¬ Passes five (ends 6) (page_by 1 4 1 seven_by4 ∷ [])
unfolding step
page_without_a_call h = h.1.1

pub written_without_a_call : ¬ Passes five (ends 6) (write_by 1 1 ∷ [])
unfolding step
written_without_a_call h = h.1.1

pub page_of_an_update : ¬ Passes (reading 1) (ends 3) (page_by 1 2 2 zeros ∷ [])
unfolding step
page_of_an_update h = subst IsUpdate h.1.1.0 tt

pub written_of_a_scan : ¬ Passes five (ends 6) (write_by 2 2 ∷ [])
unfolding step
written_of_a_scan h = h.1.1.0

-- processes are 1 to n
pub call_of_process_0 : ¬ Passes five (ends 6) (call_by 0 scan ∷ [])
unfolding step
call_of_process_0 h = omega (arith, h.1.0.0)

pub call_of_process_3 : ¬ Passes five (ends 6) (call_by 3 scan ∷ [])
unfolding step
call_of_process_3 h = omega (arith, h.1.0.1)

pub turn_of_process_0 : ¬ Passes (reading 0) (ends 2) (read_by 0 ∷ [])
unfolding step
turn_of_process_0 h = omega (arith, h.1.0.0)

-- an answer that does not belong to its item
pub call_answered_as_a_turn : ¬ Passes five (ends 6) (says (call 1 scan) Read ∷ [])
unfolding step
call_answered_as_a_turn h = h.1

pub turn_answered_as_a_call : ¬ Passes five (ends 6) (says (turn 2) Called ∷ [])
unfolding step
turn_answered_as_a_call h = h.1

-- ---- refusals: each is the one that the tally expects

-- "a further opening gets 10"
pub opened_again : ¬ Passes five (ends 5) (says opening Opened ∷ [])
unfolding step
opened_again h = h.1

pub further_opening : ¬ Passes five (ends 5) (says opening (Refused CountRange) ∷ [])
unfolding step
further_opening h = omega (arith, ap number_if h.0)

-- a day grown from an opening never gets 11
pub call_gets_11 : ¬ Passes five (ends 5) (says (call 1 scan) (Refused CannotArise) ∷ [])
unfolding step is_past
call_gets_11 h = some-ne-none CannotArise h.0

pub turn_gets_11 : ¬ Passes five (ends 5) (says (turn 2) (Refused CannotArise) ∷ [])
unfolding step
turn_gets_11 h = some-ne-none CannotArise h.0

-- nothing is refused without its cause, nor for another
pub idle_process_is_busy : ¬ Passes five (ends 5) (says (call 1 scan) (Refused Busy) ∷ [])
unfolding step is_past
idle_process_is_busy h = some-ne-none Busy h.0

pub waiting_process_is_idle : ¬ Passes five (ends 5) (says (turn 2) (Refused Idle) ∷ [])
unfolding step
waiting_process_is_idle h = some-ne-none Idle h.0

pub second_call_gets_2 : ¬ Passes five (ends 5) (says (call 2 scan) (Refused ProcessRange) ∷ [])
unfolding step
second_call_gets_2 h = omega (arith, ap number_if h.0)

-- 6: a page list of four places is long enough, one of three is not
pub turn_gets_6 : ¬ Passes five (ends 5) (says (turn 2) (Refused LentSize) ∷ [])
unfolding step
turn_gets_6 h = some-ne-none LentSize h.0

pub short_list_taken : ¬ Passes five (ends 6) (record { seen = turn 2; answer = Read; page = replicate 3 0 } ∷ [])
unfolding step
short_list_taken h = none-ne-some LentSize h.0

-- ---- the end of the day

-- the tally at event e, where process 2 has this open call
abbrev late : ℕ → Option Call → Tally Value
late e c = record { event = e; words = seven; instants = []; calls = none ∷ c ∷ [] }

-- a scan that has had one turn, and owes one
abbrev half_read : Call
half_read = record { job = scan; number = 3; turns = 1 }

-- a scan of process 1 by event 65,533 leaves two events for its two turns; with the turn that process 2 owes, one by 65,532 does
pub last_call_taken : Holds told (ends 65533) (late 65532 none) (call_by 1 scan ∷ [])
    × Holds told (ends 65532) (late 65531 (some half_read)) (call_by 1 scan ∷ [])
unfolding step is_past
last_call_taken = (
  (refl, ((omega arith, omega arith), refl), two_patient _ none (omega arith) tt, omega arith, (refl, refl)),
  (refl, ((omega arith, omega arith), refl), two_patient _ (some half_read) (omega arith) (omega arith), omega arith, (refl, refl)),
)

-- "crying 'day full' early"
pub last_call_refused : ¬ Holds told (ends 65532) (late 65532 none) (says (call 1 scan) (Refused DayFull) ∷ [])
unfolding step is_past
last_call_refused h = some-ne-none DayFull h.0

-- one event later, for an update one turn more, and by another's turn that is owed
pub late_scan_taken : ¬ Holds told (ends 65534) (late 65533 none) (call_by 1 scan ∷ [])
unfolding step is_past
late_scan_taken h = none-ne-some DayFull h.0

pub late_update_taken : ¬ Holds told (ends 65533) (late 65532 none) (call_by 1 (update 1 7) ∷ [])
unfolding step is_past
late_update_taken h = none-ne-some DayFull h.0

pub others_not_counted : ¬ Holds told (ends 65533) (late 65532 (some half_read)) (call_by 1 scan ∷ [])
unfolding step is_past
others_not_counted h = none-ne-some DayFull h.0

-- "a turn never meets it now"
pub turn_gets_5 : ¬ Holds told (ends 65534) (late 65534 (some half_read)) (says (turn 2) (Refused DayFull) ∷ [])
unfolding step
turn_gets_5 h = some-ne-none DayFull h.0

-- "at every point of every list, the event number and all that is owed are at most 65,535": a read that leaves event 65,534 and two
-- turns owed
pub too_much_owed : ¬ Holds told (ends 65534) (late 65533 (some (record { job = update 2 9; number = 3; turns = 0 }))) (read_by 2 ∷ [])
unfolding step
too_much_owed h = omega (arith, h.3)

-- ---- the closing rule

pub five_tallied_after : tally_after told (ends 5) (started 2 2 zero_value) five ≡ tallied_five
unfolding step
five_tallied_after = refl

-- a turn of the process itself, with a page list long enough
pub own_turns : map (is_turn_of told 2)
    (read_by 2 ∷ record { seen = turn 2; answer = Read; page = replicate 3 0 } ∷ read_by 1 ∷ call_by 2 scan ∷ says opening Opened ∷ [])
    ≡ true ∷ false ∷ false ∷ false ∷ false ∷ []
own_turns = refl

-- among other items, refused or answered, each of its turns reads until one is answered
pub ends_among_others : Ends told 2 (ends 5)
    (says (call 2 scan) (Refused Busy) ∷ write_by 1 1 ∷ read_by 2 ∷ page_by 2 5 2 seven_by4 ∷ [])
unfolding step
ends_among_others =
    inr ((λ q. absurd (false≢true q)), inr ((λ q. absurd (false≢true q)), inr ((λ q. refl), inl (refl, tt))))

pub never_answered : ¬ Ends told 2 (ends 5) (read_by 2 ∷ [])
unfolding step
never_answered (inl h) = h.1
never_answered (inr h) = h.1

pub another_answered : ¬ Ends told 2 (ends 5) (write_by 1 1 ∷ [])
unfolding step
another_answered (inl h) = false≢true h.0
another_answered (inr h) = h.1

pub refused_before : ¬ Ends told 2 (ends 5) (says (turn 2) (Refused DayFull) ∷ page_by 2 5 2 seven_by4 ∷ [])
unfolding step
refused_before (inl h) = h.1
refused_before (inr h) = some-ne-none DayFull (ap refusal_of (h.0 refl))

-- after the five process 2 owes one turn, and that turn reads
pub not_closable : ¬ Closable told (ends 5) (started 2 2 zero_value)
unfolding step
not_closable h = never_answered (h five 2 half_read (omega arith, omega arith) refl (read_by 2 ∷ []) (omega arith))

pub call_is_no_turn : ¬ TurnsTaken told (ends 5) (call_by 1 scan ∷ [])
call_is_no_turn h = omega (arith, ap {B = ℕ} (by_seen 0 (λ d j. 1) (λ d. 2)) h.0.1)

pub refused_not_taken : ¬ TurnsTaken told (ends 5) (says (turn 1) (Refused Idle) ∷ [])
unfolding step
refused_not_taken h = some-ne-none Idle h.1

-- whatever is asked, process 2 reads, and waits
abbrev mute : Method
mute = telling (λ x. turn 2) (λ x. Read)

abbrev waits_at : ℕ → List (List Value) → Call → Tally Value
waits_at e is c = record { event = e; words = seven; instants = is; calls = none ∷ some c ∷ [] }

still_waits : (ys : List Told) (e : ℕ) (is : List (List Value)) (c : Call) → ¬ NobodyWaits mute (tally_after mute (ends 5) (waits_at e is c) ys)
unfolding step
still_waits [] e is c h = some-ne-none c (h 2 (omega arith, omega arith))
still_waits (y ∷ ys) e is c h = still_waits ys (suc e) (is ++ seven ∷ []) (gains c) h

pub not_all_end : ¬ AllEnds mute (ends 5) (waits_at 5 [] half_read)
not_all_end h = still_waits (h []).0 5 [] half_read (h []).2

-- ---- after the list

-- "the day's event number and the rows' words are the tally's"
pub event_not_counted : ¬ Passes five (ends 4) []
unfolding step
event_not_counted h = omega (arith, h.0)

pub word_not_written : ¬ Passes five (record { event = 5; words = untouched }) []
unfolding step
word_not_written h = omega (arith, ap (λ vs. (get_or vs 0 zero_value).word) h.1)

pub number_not_kept : ¬ Passes five (record { event = 5; words = stored 0 7 ∷ zero_value ∷ [] }) []
unfolding step
number_not_kept h = omega (arith, ap (λ vs. (get_or vs 0 zero_value).last) h.1)
