-- The closing rule (document 02, K2) for Figure 3's method: every n from 1 to 8, after every list of items.
use Prim.Native.Nat.{ℕ, ◌≤◌, ◌<◌}
use native.Mathlib.Omega.{arith}
use mathlib.Core.Path.{◌≡◌, refl, ap₂}
use mathlib.Core.Bool.{true, ◌&&◌}
use mathlib.Core.List.{List}
use mathlib.Core.Option.{none, some}
use lib.ListN.{length, replicate, length-replicate}
use borrow.Author.Tests.{eq-eqb, le-leb}
use Rattle.snapshot.specs.Values.{zero_value, page_places}
use Rattle.snapshot.specs.Lists.{All}
use Rattle.snapshot.specs.Tally.{Call, started, call_of, call_owes}
use Rattle.snapshot.specs.Demand.{Among, step}
use Rattle.snapshot.specs.Days.{State, Item, open_for, turn_of, refusal}
use Rattle.snapshot.specs.Closing.{state_after, tally_after, is_turn_of, Ends, Closable, AllEnds}
use Rattle.snapshot.proofs.Closing.{closable, own_turns_count, started_patient}
use Rattle.snapshot.proofs.Ended.{all_end}
use Rattle.unbounded.specs.declared.Process.{Process}
use Rattle.unbounded.specs.Registers.{ascending}
use Rattle.unbounded.specs.Days.{most_turns, figure3, method, opened_for}
use Rattle.unbounded.proofs.Demand3.{demand3, demand3_after_opening}

-- a turn of process d with a page list of the places that a page takes, and more
pub own_turn : (n d : ℕ) (page : List ℕ) → page_places n ≤ length page → is_turn_of (method ascending n) d (turn_of d page) ≡ true
own_turn n d page l = ap₂ ◌&&◌ (eq-eqb d d refl) (le-leb (page_places n) (length page) l)

-- ---- on a day just opened

-- whoever waits is answered by as many turns as its call owes
pub closing : (n : ℕ) → 0 < n → n ≤ 8 → Closable (method ascending n) (opened_for n) (started n n zero_value)
closing n z eight =
    closable (method ascending n) (opened_for n) (started n n zero_value) (started_patient (most_turns n) n n zero_value) (demand3 n z eight)

-- and all work can be ended
pub all_work_ends : (n : ℕ) → 0 < n → n ≤ 8 → AllEnds (method ascending n) (opened_for n) (started n n zero_value)
all_work_ends n z eight =
    all_end (method ascending n)
    (λ d. (turn_of d (replicate (page_places n) 0), own_turn n d (replicate (page_places n) 0) (omega (arith, length-replicate {A = ℕ} (page_places n) 0))))
    (opened_for n) (started n n zero_value) (started_patient (most_turns n) n n zero_value) (demand3 n z eight)

-- ---- after any accepted opening, whatever the day and the table held before it

pub closing_after_opening : (s : State Process) (n : ℕ) → refusal (figure3 ascending) s (open_for n) ≡ none →
    Closable (method ascending n) (step (method ascending n) s (open_for n)).state (started n n zero_value)
closing_after_opening s n q =
    closable (method ascending n) (step (method ascending n) s (open_for n)).state (started n n zero_value)
    (started_patient (most_turns n) n n zero_value) (demand3_after_opening s n q)

pub all_work_ends_after_opening : (s : State Process) (n : ℕ) → refusal (figure3 ascending) s (open_for n) ≡ none →
    AllEnds (method ascending n) (step (method ascending n) s (open_for n)).state (started n n zero_value)
all_work_ends_after_opening s n q =
    all_end (method ascending n)
    (λ d. (turn_of d (replicate (page_places n) 0), own_turn n d (replicate (page_places n) 0) (omega (arith, length-replicate {A = ℕ} (page_places n) 0))))
    (step (method ascending n) s (open_for n)).state (started n n zero_value) (started_patient (most_turns n) n n zero_value)
    (demand3_after_opening s n q)

-- ---- the turns of a process alone

-- each with a page list that is long enough: one after the other reads, until one answers
pub own_turns_end : (n : ℕ) → 0 < n → n ≤ 8 → (xs : List Item) (d : ℕ) (c : Call) → Among n d →
    let M = method ascending n in
    call_of (tally_after M (opened_for n) (started n n zero_value) xs) d ≡ some c →
    (ys : List Item) → All (λ y. is_turn_of M d y ≡ true) ys → call_owes (most_turns n) (some c) ≤ length ys →
    Ends M d (state_after M (opened_for n) xs) ys
own_turns_end n z eight xs d c m q ys own l =
    closing n z eight xs d c m q ys (omega (arith, own_turns_count (method ascending n) d ys own))
