-- Refusals on chosen days (document 01, Reasons to refuse), as one list: each small example, each limit at its value and one past
-- it, and the causes that can hold together, with the replies.
use Rattle.std.specs.Prelude.{ℕ, ◌+◌, ◌-◌, ◌*◌, List, [], ◌∷◌, ◌++◌, replicate}
use Rattle.snapshot.specs.declared.Value.{Value}
use Rattle.snapshot.specs.Marks.{none_moved}
use Rattle.snapshot.specs.Days.{State, Item, open_for, update_call, scan_call, turn_of}
use Rattle.snapshot.specs.Replies.{Reply, refused, opened, called, read, page, written, replies}
use Rattle.unbounded.specs.declared.Register.{Register}
use Rattle.unbounded.specs.declared.Process.{Process}
use Rattle.unbounded.specs.declared.Task.{Task}
use Rattle.unbounded.specs.declared.Task.TheVariants.{Idle, Scan, Update, Ready}
use Rattle.unbounded.specs.Registers.{zero_register, ascending}
use Rattle.unbounded.specs.Processes.{zero_process, emptied}
use Rattle.unbounded.specs.Days.{method}

-- a day with its table, which is asked these items one after the other, and replies so
pub record RefusedDay : Type 0 where
  pub state : State Process
  pub items : List Item
  pub expected : List (Reply Value)

-- what the definitions reply on it
abbrev pub replied : RefusedDay → List (Reply Value)
replied x = replies (method ascending x.state.day.count) x.state x.items

-- ---- days and tables

-- a day of n processes at event e, with this table
abbrev day_at : (n e : ℕ) → List Process → State Process
day_at n e ps = record { day = record { count = n; event = e }; table = ps }

-- n processes, all idle; and with p in place of the first, or of the last
abbrev idle_table : ℕ → List Process
idle_table n = replicate n zero_process

abbrev first_is : ℕ → Process → List Process
first_is n p = p ∷ idle_table (n - 1)

abbrev last_is : ℕ → Process → List Process
last_is n p = idle_table (n - 1) ++ p ∷ []

-- a process with this task; and one whose register was written so often, last by that event, and has a view of that instant, while
-- seen is every number of a last writing beside it: in its view, in both collects and in the view that is kept
abbrev doing : Task → Process
doing k = emptied 8 zero_register k zero_process

abbrev wrote : (seq at last seen : ℕ) → Task → Process
wrote seq at last seen k =
    let other : Value = record { word = 7; last = seen } in
    let view = replicate 8 other in
    let own : Register = record { value = record { word = 7; last = last }; seq = seq; view = view; at = at } in
    let collect : List Register = replicate 8 (record { value = other; seq = seq; view = view; at = at }) in
    record { register = own; task = k; first = collect; second = collect; first_end = 0; view = view; moved = none_moved }

-- ---- what is asked

abbrev on_day : State Process → List Item → List (Reply Value) → RefusedDay
on_day s xs rs = record { state = s; items = xs; expected = rs }

abbrev both_calls : ℕ → List Item
both_calls d = scan_call d ∷ update_call d 7 ∷ []

-- a turn of process d with a page list of so many places; and of those that a page of n takes
abbrev turn_lent : (places d : ℕ) → Item
turn_lent places d = turn_of d (replicate places 9)

abbrev turn_with : (n d : ℕ) → Item
turn_with n d = turn_lent (2 * n) d

-- both calls of process d, its turn, or all three get number k
abbrev calls_get : (k : ℕ) → State Process → ℕ → RefusedDay
calls_get k s d = on_day s (both_calls d) (replicate 2 (refused k))

abbrev turn_gets : (k : ℕ) → State Process → ℕ → RefusedDay
turn_gets k s d = on_day s (turn_with s.day.count d ∷ []) (refused k ∷ [])

abbrev all_get : (k : ℕ) → State Process → ℕ → RefusedDay
all_get k s d = on_day s (both_calls d ++ turn_with s.day.count d ∷ []) (replicate 3 (refused k))

-- a scan call of process d is accepted
abbrev accepted : State Process → ℕ → RefusedDay
accepted s d = on_day s (scan_call d ∷ []) (called ∷ [])

-- one item gets this reply; and an opening for k does
abbrev item_gets : Reply Value → State Process → Item → RefusedDay
item_gets r s x = on_day s (x ∷ []) (r ∷ [])

abbrev open_gets : Reply Value → State Process → ℕ → RefusedDay
open_gets r s k = item_gets r s (open_for k)

-- ---- each cause

-- 1: "opening with a desk count outside 1 to 8"; "open for 9"
abbrev count_range : List RefusedDay
count_range =
    open_gets (refused 1) (day_at 0 0 (idle_table 0)) 0
    ∷ open_gets opened (day_at 0 0 (idle_table 1)) 1
    ∷ open_gets opened (day_at 0 0 (idle_table 8)) 8
    ∷ open_gets (refused 1) (day_at 0 0 (idle_table 9)) 9
    ∷ []

-- 2: "desk number outside 1 to n"; "page call by desk 3, n = 2"
abbrev process_range : ℕ → List RefusedDay
process_range n =
    let s = day_at n 0 (idle_table n) in
    all_get 2 s 0 ∷ accepted s 1 ∷ accepted s n ∷ all_get 2 s (n + 1) ∷ []

-- 3: "a call by a desk that isn't idle"; "page call twice by desk 1"
abbrev busy_process : List RefusedDay
busy_process =
    on_day (day_at 2 0 (idle_table 2)) (scan_call 1 ∷ both_calls 1) (called ∷ refused 3 ∷ refused 3 ∷ [])
    ∷ on_day (day_at 2 0 (idle_table 2)) (update_call 1 7 ∷ both_calls 1) (called ∷ refused 3 ∷ refused 3 ∷ [])
    ∷ calls_get 3 (day_at 2 0 (last_is 2 (doing (Ready 7 0 0)))) 2
    ∷ accepted (day_at 2 0 (last_is 2 (doing (Ready 7 0 0)))) 1
    ∷ []

-- 4: "a turn for an idle desk"; "turn of desk 1 right after opening"
abbrev idle_process : List RefusedDay
idle_process =
    on_day (day_at 0 0 (idle_table 2)) (open_for 2 ∷ turn_with 2 1 ∷ []) (opened ∷ refused 4 ∷ [])
    ∷ turn_gets 4 (day_at 2 0 (last_is 2 (doing (Scan 0)))) 1
    ∷ on_day (day_at 2 0 (last_is 2 (doing (Scan 0)))) (turn_with 2 2 ∷ []) (read ∷ [])
    ∷ []

-- 5 (K2): "the event number plus 1, plus all turns owed, plus the greatest number for the new task, exceeds 65,535", the greatest of a
-- scan being most, and this table, in which process d is idle, owing so much: one below, at, and one above, for each job
abbrev call_limits : (n most owed d : ℕ) → List Process → List RefusedDay
call_limits n most owed d ps =
    let last = 65534 - most - owed in
    item_gets called (day_at n (last - 1) ps) (scan_call d)
    ∷ item_gets called (day_at n last ps) (scan_call d)
    ∷ item_gets (refused 5) (day_at n (last + 1) ps) (scan_call d)
    ∷ item_gets called (day_at n (last - 2) ps) (update_call d 7)
    ∷ item_gets called (day_at n (last - 1) ps) (update_call d 7)
    ∷ item_gets (refused 5) (day_at n last ps) (update_call d 7)
    ∷ []

-- three processes that wait, and owe 28, 124 and 1 of 128 turns, or 129
abbrev three_wait : List Process
three_wait = doing (Scan 100) ∷ doing (Update 7 5) ∷ doing (Ready 7 0 128) ∷ idle_table 5

-- case I, "its call and its idle desk only": event 65,535, an answer, is accepted; the next call gives 5, an idle process's turn 4
abbrev case_i : List RefusedDay
case_i =
    on_day (day_at 1 65532 (idle_table 1)) (scan_call 1 ∷ turn_with 1 1 ∷ turn_with 1 1 ∷ both_calls 1 ++ turn_with 1 1 ∷ [])
    (called ∷ read ∷ page 0 65534 2 (record { word = 0; last = 0 } ∷ []) ∷ refused 5 ∷ refused 5 ∷ refused 4 ∷ [])
    ∷ on_day (day_at 1 65531 (idle_table 1))
    (update_call 1 7 ∷ turn_with 1 1 ∷ turn_with 1 1 ∷ turn_with 1 1 ∷ both_calls 1 ++ turn_with 1 1 ∷ [])
    (called ∷ read ∷ read ∷ written 3 ∷ refused 5 ∷ refused 5 ∷ refused 4 ∷ [])
    ∷ []

abbrev day_full : List RefusedDay
day_full =
    call_limits 1 2 0 1 (idle_table 1) ++ call_limits 8 128 0 8 (idle_table 8) ++ call_limits 8 128 (28 + 124 + 1) 8 three_wait ++ case_i

-- 6: "the desk table has not exactly n records, or, on a turn, the page list has fewer than n words", by K6 fewer than 2n
abbrev lent_size : List RefusedDay
lent_size =
    open_gets (refused 6) (day_at 0 0 (idle_table 1)) 2
    ∷ open_gets (refused 6) (day_at 0 0 (idle_table 3)) 2
    ∷ all_get 6 (day_at 2 0 (idle_table 1)) 1
    ∷ all_get 6 (day_at 2 0 (idle_table 3)) 1
    ∷ on_day (day_at 2 0 (first_is 2 (doing (Scan 0)))) (turn_lent 3 1 ∷ turn_lent 4 1 ∷ turn_lent 5 1 ∷ [])
    (refused 6 ∷ read ∷ read ∷ [])
    ∷ []

-- 10: "call or turn on a day whose desk count is 0, or opening of a day whose desk count isn't 0"; "turn before opening"
abbrev open_state : List RefusedDay
open_state = all_get 10 (day_at 0 0 []) 1 ∷ open_gets (refused 10) (day_at 2 0 (idle_table 2)) 2 ∷ []

-- ---- each limit of 11

-- a record that cannot have arisen on a day of n at event e, first or last in the table; and one that can
abbrev unsound_gets11 : (n e : ℕ) → Process → List RefusedDay
unsound_gets11 n e p = all_get 11 (day_at n e (first_is n p)) n ∷ all_get 11 (day_at n e (last_is n p)) 1 ∷ []

abbrev sound_accepted : (n e : ℕ) → Process → List RefusedDay
sound_accepted n e p = accepted (day_at n e (first_is n p)) n ∷ accepted (day_at n e (last_is n p)) 1 ∷ []

-- "if the desk count is above 8, the event number above 65,535"; "event number 70,000"
abbrev day_limits : List RefusedDay
day_limits =
    accepted (day_at 8 0 (idle_table 8)) 8
    ∷ all_get 11 (day_at 9 0 (idle_table 9)) 1
    ∷ calls_get 5 (day_at 2 65535 (idle_table 2)) 1
    ∷ all_get 11 (day_at 2 65536 (idle_table 2)) 1
    ∷ all_get 11 (day_at 2 70000 (idle_table 2)) 1
    ∷ []

-- "the desk's own row has a seq or at above the event number", also "a row's own such number, those in its view aside" (K6)
abbrev register_limits : List RefusedDay
register_limits =
    sound_accepted 2 5 (wrote 5 5 5 6 Idle)
    ++ sound_accepted 2 5 (wrote 0 0 5 6 Idle)
    ++ sound_accepted 2 5 (wrote 5 5 0 6 Idle)
    ++ unsound_gets11 2 5 (wrote 6 5 5 5 Idle)
    ++ unsound_gets11 2 5 (wrote 5 6 5 5 Idle)
    ++ unsound_gets11 2 5 (wrote 5 5 6 5 Idle)
    ++ unsound_gets11 2 5 (wrote 5 5 6 5 (Scan 0))
    ++ unsound_gets11 2 5 (wrote 5 5 6 5 (Update 7 0))
    ++ unsound_gets11 2 5 (wrote 5 5 6 5 (Ready 7 0 0))

-- "a task being read has had more than 2n²−1 turns, or an entry ready to write more than 2n²", most being 2n²
abbrev turn_limits : (n most : ℕ) → List RefusedDay
turn_limits n most =
    sound_accepted n 0 (doing (Scan (most - 1)))
    ++ unsound_gets11 n 0 (doing (Scan most))
    ++ sound_accepted n 0 (doing (Update 7 (most - 1)))
    ++ unsound_gets11 n 0 (doing (Update 7 most))
    ++ sound_accepted n 0 (doing (Ready 7 0 most))
    ++ unsound_gets11 n 0 (doing (Ready 7 0 (most + 1)))

-- "also when event number plus all turns owed exceeds 65,535": process 1 of this table waits, the table owes so much, and its turn,
-- where there is an event for all that is owed, gets this reply: one below, at, and one above
abbrev end_limits : (n owed : ℕ) → List Process → Reply Value → List RefusedDay
end_limits n owed ps r =
    let last = 65535 - owed in
    item_gets r (day_at n (last - 1) ps) (turn_with n 1)
    ∷ item_gets r (day_at n last ps) (turn_with n 1)
    ∷ all_get 11 (day_at n (last + 1) ps) 1
    ∷ all_get 11 (day_at n (last + 1) ps) n
    ∷ []

-- each task that waits, alone; and three and eight at once
abbrev owed_limits : List RefusedDay
owed_limits =
    end_limits 1 2 (doing (Scan 0) ∷ []) read
    ++ end_limits 1 3 (doing (Update 7 0) ∷ []) read
    ++ end_limits 1 1 (doing (Ready 7 0 2) ∷ []) (written 3)
    ++ end_limits 8 28 (first_is 8 (doing (Scan 100))) read
    ++ end_limits 8 124 (first_is 8 (doing (Update 7 5))) read
    ++ end_limits 8 1 (first_is 8 (doing (Ready 7 0 128))) (written 129)
    ++ end_limits 8 (28 + 124 + 1) three_wait read
    ++ end_limits 8 (8 * 128) (replicate 8 (doing (Scan 0))) read

-- ---- two causes at once

-- "Order for opening: 10, 1, 6"; an opening has no other cause, whatever the event number and the records are
abbrev opening_order : List RefusedDay
opening_order =
    open_gets (refused 10) (day_at 2 0 (idle_table 9)) 9
    ∷ open_gets (refused 10) (day_at 2 0 (idle_table 2)) 3
    ∷ open_gets (refused 1) (day_at 0 0 (idle_table 2)) 9
    ∷ open_gets opened (day_at 0 70000 (first_is 2 (doing (Scan 9)))) 2
    ∷ []

-- "For calls and turns: 10, 6, 11, 2, then 3 or 4, then 5": 10 before 6 and 11
abbrev order10 : List RefusedDay
order10 = all_get 10 (day_at 0 0 (idle_table 2)) 1 ∷ all_get 10 (day_at 0 70000 []) 1 ∷ []

-- 6 before 11, 2 and 4, where the table is too large or too small, and where the page list is too short
abbrev order6 : List RefusedDay
order6 =
    all_get 6 (day_at 2 70000 (idle_table 3)) 1
    ∷ all_get 6 (day_at 9 0 (idle_table 8)) 1
    ∷ on_day (day_at 2 70000 (idle_table 2)) (turn_lent 3 1 ∷ []) (refused 6 ∷ [])
    ∷ all_get 6 (day_at 2 0 (idle_table 3)) 3
    ∷ on_day (day_at 2 0 (idle_table 2)) (turn_lent 3 1 ∷ turn_lent 3 3 ∷ []) (refused 6 ∷ refused 6 ∷ [])
    ∷ all_get 6 (day_at 2 65528 (first_is 3 (doing (Scan 0)))) 1
    ∷ item_gets (refused 6) (day_at 2 65528 (first_is 2 (doing (Scan 0)))) (turn_lent 3 1)
    ∷ []

-- 11 before 2, 3, 4 and 5
abbrev order11 : List RefusedDay
order11 =
    all_get 11 (day_at 2 70000 (idle_table 2)) 3
    ∷ calls_get 11 (day_at 2 0 (first_is 2 (doing (Scan 8)))) 1
    ∷ turn_gets 11 (day_at 2 5 (first_is 2 (wrote 6 5 5 5 Idle))) 1
    ∷ all_get 11 (day_at 2 65535 (first_is 2 (doing (Scan 8)))) 2
    ∷ all_get 11 (day_at 2 65528 (first_is 2 (doing (Scan 0)))) 0
    ∷ all_get 11 (day_at 2 65528 (first_is 2 (doing (Scan 0)))) 3
    ∷ []

-- 2 before 3, 4 and 5
abbrev order2 : List RefusedDay
order2 =
    calls_get 2 (day_at 2 0 (first_is 2 (doing (Scan 0)))) 0
    ∷ turn_gets 2 (day_at 2 0 (idle_table 2)) 3
    ∷ all_get 2 (day_at 2 65535 (idle_table 2)) 3
    ∷ []

-- 3 before 5, and 4 where a call would get 5
abbrev order3 : List RefusedDay
order3 = calls_get 3 (day_at 2 65527 (first_is 2 (doing (Scan 0)))) 1 ∷ turn_gets 4 (day_at 2 65535 (idle_table 2)) 1 ∷ []

unfoldable pub refused_days : List RefusedDay
refused_days =
    count_range ++ process_range 2 ++ process_range 8 ++ busy_process ++ idle_process ++ day_full ++ lent_size ++ open_state
    ++ day_limits ++ register_limits ++ turn_limits 2 8 ++ turn_limits 8 128 ++ owed_limits
    ++ opening_order ++ order10 ++ order6 ++ order11 ++ order2 ++ order3
