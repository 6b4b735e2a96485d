-- Refusals as the code finds them, from the day, the size of the table and what was seen of the records: in two parts, since that
-- a process has a record is known only once the first has passed. That they are the day's refusals is proved (proofs/Checked).
use Rattle.std.specs.Prelude.{ℕ, ◌+◌, Bool, true, false, cond, not, ◌&&◌, ◌||◌, List, [], ◌∷◌, eqb, ltb, Result, Ok, Err}
use Rattle.std.proofs.Math.Option.{Option, none, some}
use Rattle.snapshot.specs.Refusals.{Cause, first_cause, outside, is_past}
use Rattle.snapshot.specs.Requests.{number_in}
use Rattle.snapshot.specs.Values.{page_places}
use Rattle.snapshot.specs.Days.{cannot_arise}
use Rattle.snapshot.specs.declared.Day.{Day}
use Rattle.snapshot.specs.declared.Request.{Request}
use Rattle.snapshot.specs.declared.Request.TheVariants.{Open, Update, Scan, Turn}
use Rattle.snapshot.specs.declared.Refusal.{Refusal}
use Rattle.snapshot.specs.declared.Refusal.TheVariants.{CountRange, ProcessRange, Busy, Idle, DayFull, LentSize}
use Rattle.snapshot.specs.declared.Refusal.TheVariants.{OpenState, CannotArise}
use Rattle.table_surveys.specs.declared.Survey.{Survey}
use Rattle.requests.specs.Requests.{is_call}

-- the refusal that a check is, if it is one
abbrev pub as_option : Result (Unit {0}) Refusal → Option Refusal
as_option (Ok passed) = none
as_option (Err k) = some k

-- whether there is a refusal
abbrev pub is_refusal : Option Refusal → Bool
is_refusal none = false
is_refusal (some k) = true

-- "Order for opening: 10, 1, 6 (the table must have the asked number of records)"
abbrev pub opening_checks : Day → (size k : ℕ) → List Cause
opening_checks day size k =
    (not (eqb day.count 0), OpenState) ∷ (outside 1 8 k, CountRange) ∷ (not (eqb size k), LentSize) ∷ []

-- 6: "on a turn, the page list has fewer than n words", by K6 fewer than 2n (an opening, of which it is not asked, counts as a turn)
abbrev pub is_short : Day → (words : ℕ) → Request → Bool
is_short day words x = not (is_call x) && ltb words (page_places day.count)

-- "For calls and turns: 10, 6, 11, 2 ..": of process d, by whether the page list is short, the event that all work ends by, and
-- whether some record is bad
abbrev pub first_causes : Day → (size : ℕ) → (short : Bool) → (end : ℕ) → (bad : Bool) → (d : ℕ) → List Cause
first_causes day size short end bad d =
    (eqb day.count 0, OpenState)
    ∷ (not (eqb size day.count) || short, LentSize)
    ∷ (cannot_arise day.count end bad, CannotArise)
    ∷ (outside 1 day.count d, ProcessRange)
    ∷ []

-- K2: "the greatest number for the new task" (an opening and a turn, of which it is not asked, count as scans)
abbrev pub most_for : Survey → Request → ℕ
most_for s (Open k) = s.scan_most
most_for s (Update d w) = s.scan_most + s.update_more
most_for s (Scan d) = s.scan_most
most_for s (Turn d) = s.scan_most

-- ".. then 3 or 4, then 5": 3 and 5 of a call, where all work ends by event end and the new task has at most so many turns; 4 of a
-- turn (an opening, of which it is not asked, counts as one)
abbrev pub last_causes : (end most : ℕ) → Request → (idle : Bool) → List Cause
last_causes end most x idle =
    cond (is_call x) ((not idle, Busy) ∷ (is_past (end + 1 + most), DayFull) ∷ []) ((idle, Idle) ∷ [])

-- the refusal of each check: of an opening for k processes, and the first and the last of a call or a turn, by the survey
abbrev pub opening_refusal : Day → (size k : ℕ) → Option Refusal
opening_refusal day size k = first_cause (opening_checks day size k)

abbrev pub first_refusal : Day → (size : ℕ) → Survey → Request → (words : ℕ) → Option Refusal
first_refusal day size s x words = first_cause (first_causes day size (is_short day words x) s.end s.bad (number_in x))

abbrev pub last_refusal : Survey → Request → (idle : Bool) → Option Refusal
last_refusal s x idle = first_cause (last_causes s.end (most_for s x) x idle)
