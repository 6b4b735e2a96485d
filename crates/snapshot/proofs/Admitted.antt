-- What acceptance tells of a call or a turn: each cause to refuse it that does not hold, as a fact.
use Prim.Native.Nat.{ℕ, ◌+◌, ◌-◌, ◌≤◌, ◌<◌}
use native.Mathlib.Omega.{arith}
use mathlib.Core.Path.{◌≡◌}
use mathlib.Core.Bool.{Bool, true, false, not, ◌||◌}
use mathlib.Core.List.{List, []}
use mathlib.Core.Option.{none}
use lib.ListN.{length}
use lib.Dec.{eqb, ltb}
use borrow.Author.Tests.{eqb-true, eqb-false, ltb-false, not-false}
use Rattle.snapshot.specs.Refusals.{first_cause, outside, is_past}
use Rattle.snapshot.specs.Tally.{Job}
use Rattle.snapshot.specs.Demand.{Among}
use Rattle.snapshot.specs.Days.{Machine, State, process_of, process_owes, table_owes, some_unsound}
use Rattle.snapshot.specs.Days.{opening_causes, causes, last_of_call, last_of_turn, call_causes, turn_causes}
use Rattle.snapshot.proofs.Booleans.{or_neither}
use Rattle.snapshot.proofs.Lists.{some_of_false, sum_at}
use Rattle.snapshot.proofs.Causes.{Passes, accepted_passes, passes_front}

pub outside_among : (n d : ℕ) → outside 1 n d ≡ false → Among n d
outside_among n d h =
    let t = or_neither (ltb d 1) (ltb n d) h in
    let a = ltb-false d 1 t.0 in
    let b = ltb-false n d t.1 in
    (omega arith, omega arith)

module _ (M : Machine) (s : State M.Process) where
  -- causes 10, 6, 11 and 2: of the day, the table, the page list and the number of the process
  pub record Suited (d : ℕ) (short : Bool) : Type 0 where
    pub opened : 0 < s.day.count
    pub size : length s.table ≡ s.day.count
    pub long : short ≡ false
    pub small : s.day.count ≤ 8
    pub limit : s.day.event + table_owes M s ≤ 65535
    pub sound : some_unsound M s ≡ false
    pub among : Among s.day.count d

  -- of an accepted call, also 3 and 5; and of an accepted turn, also 4
  pub record AdmittedCall (d : ℕ) (j : Job) : Type 0 where
    pub suited : Suited d false
    pub idle : M.is_idle (process_of M s d) ≡ true
    pub room : s.day.event + 1 + table_owes M s + M.most s.day.count j ≤ 65535

  pub record AdmittedTurn (d : ℕ) (page : List ℕ) : Type 0 where
    pub suited : Suited d (ltb (length page) (M.page_length s.day.count))
    pub busy : M.is_idle (process_of M s d) ≡ false

  pub suits : (d : ℕ) (short : Bool) → Passes (causes M s d short []) → Suited d short
  unfolding is_past
  suits d short w =
      let n = s.day.count in
      let e = s.day.event + table_owes M s in
      let some = eqb-false n 0 w.0 in
      let sizes = or_neither (not (eqb (length s.table) n)) short w.1.0 in
      let counts = or_neither (ltb 8 n) (ltb 65535 e || some_unsound M s) w.1.1.0 in
      let events = or_neither (ltb 65535 e) (some_unsound M s) counts.1 in
      record {
        opened = omega arith;
        size = eqb-true (length s.table) n (not-false (eqb (length s.table) n) sizes.0);
        long = sizes.1;
        small = ltb-false 8 n counts.0;
        limit = ltb-false 65535 e events.0;
        sound = events.1;
        among = outside_among n d w.1.1.1.0;
      }

  pub admitted_call : (d : ℕ) (j : Job) → first_cause (call_causes M s d j) ≡ none → AdmittedCall d j
  unfolding is_past
  admitted_call d j q =
      let w = accepted_passes (call_causes M s d j) q in
      record {
        suited = suits d false (passes_front (causes M s d false []) (last_of_call M s d j) w);
        idle = not-false (M.is_idle (process_of M s d)) w.1.1.1.1.0;
        room = ltb-false 65535 (s.day.event + 1 + table_owes M s + M.most s.day.count j) w.1.1.1.1.1.0;
      }

  pub admitted_turn : (d : ℕ) (page : List ℕ) → first_cause (turn_causes M s d page) ≡ none → AdmittedTurn d page
  admitted_turn d page q =
      let w = accepted_passes (turn_causes M s d page) q in
      let short = ltb (length page) (M.page_length s.day.count) in
      record {
        suited = suits d short (passes_front (causes M s d short []) (last_of_turn M s d) w);
        busy = w.1.1.1.1.0;
      }

  -- a turn has an event left: no day has arisen on which its process owes a turn and there is none (11)
  pub turn_room : (d : ℕ) (page : List ℕ) → AdmittedTurn d page →
      ((p : M.Process) → M.is_idle p ≡ false → M.unsound s.day.count s.day.event p ≡ false →
      0 < process_owes M s.day.count p) →
      s.day.event < 65535
  turn_room d page a owes =
      let n = s.day.count in
      let limit = a.suited.limit in
      let size = a.suited.size in
      let among = a.suited.among in
      let inside : d - 1 < length s.table = omega arith in
      let sound = some_of_false (M.unsound n s.day.event) s.table M.no_process a.suited.sound (d - 1) inside in
      let own = owes (process_of M s d) a.busy sound in
      let all = sum_at (process_owes M n) s.table (d - 1) M.no_process inside in
      omega arith

  -- an opening is accepted only on a day that is not open
  pub admitted_opening : (k : ℕ) → first_cause (opening_causes M s k) ≡ none → s.day.count ≡ 0
  admitted_opening k q =
      eqb-true s.day.count 0 (not-false (eqb s.day.count 0) (accepted_passes (opening_causes M s k) q).0)
