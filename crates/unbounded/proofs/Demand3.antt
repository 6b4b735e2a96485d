-- Demand 3 for Figure 3's method: every n from 1 to 8, every reading order, every list of items.
use Prim.Native.Nat.{ℕ, ◌-◌, ◌≤◌, ◌<◌}
use native.Mathlib.Omega.{arith}
use mathlib.Core.Path.{◌≡◌, refl, sym, ap, ap₂, ◌∙◌, subst}
use mathlib.Core.Bool.{false, not, ◌||◌}
use mathlib.Core.List.{List}
use mathlib.Core.Option.{Option, none, some}
use lib.ListN.{take}
use borrow.Author.Tests.{le-ltb, lt-leb}
use Rattle.snapshot.specs.Values.{zero_value}
use Rattle.snapshot.specs.Tally.{Call, started, is_open, call_owes}
use Rattle.snapshot.specs.Demand.{Holds, step}
use Rattle.snapshot.specs.Days as Days
use Rattle.snapshot.specs.Days.{State, Item, open_for, refusal, accept}
use Rattle.snapshot.proofs.Lists.{take_replicate, each_replicate}
use Rattle.snapshot.proofs.Traces.{history_start}
use Rattle.snapshot.proofs.Works.{process_at, Works}
use Rattle.snapshot.proofs.Demand3 as machine
use Rattle.unbounded.specs.declared.Process.{Process}
use Rattle.unbounded.specs.declared.Task.{Task}
use Rattle.unbounded.specs.declared.Task.TheVariants.{Idle, Scan, Update, Ready}
use Rattle.unbounded.specs.Registers.{value, Order, ascending}
use Rattle.unbounded.specs.Processes.{zero_process, is_idle, turns_of}
use Rattle.unbounded.specs.Days.{most_reads, most_turns, greatest, overdue, unsound, figure3, method, opened_for}
use Rattle.unbounded.proofs.Scans.{Permutes, trace}
use Rattle.unbounded.proofs.Scanning.{scanning_patient}
use Rattle.unbounded.proofs.Ties.{register_at, Laws, Tie, Ties, others_tied}
use Rattle.unbounded.proofs.Deeds.{call_works, turn_works}

module _ (n : ℕ) (o : Order) (H : ℕ → State Process) where
  tie_idle : (e i : ℕ) (p : Process) (k : Task) (c : Option Call) → Tie n o H e i p k c → is_idle k ≡ not (is_open c)
  tie_idle e i p Idle none t = refl
  tie_idle e i p Idle (some c) t = absurd t
  tie_idle e i p (Scan k) none t = absurd t
  tie_idle e i p (Scan k) (some c) t = refl
  tie_idle e i p (Update w k) none t = absurd t
  tie_idle e i p (Update w k) (some c) t = refl
  tie_idle e i p (Ready w at k) none t = absurd t
  tie_idle e i p (Ready w at k) (some c) t = refl

  tie_owes : (e i : ℕ) (p : Process) (k : Task) (c : Option Call) → Tie n o H e i p k c →
      greatest (most_reads n) k - turns_of k ≡ call_owes (most_turns n) c
  tie_owes e i p Idle none t = refl
  tie_owes e i p Idle (some c) t = absurd t
  tie_owes e i p (Scan k) none t = absurd t
  tie_owes e i p (Scan k) (some c) t = ap₂ (λ j u. most_turns n j - u) (sym t.0) (sym t.1)
  tie_owes e i p (Update w k) none t = absurd t
  tie_owes e i p (Update w k) (some c) t = ap₂ (λ j u. most_turns n j - u) (sym t.0.2) (sym t.1)
  tie_owes e i p (Ready w at k) none t = absurd t
  tie_owes e i p (Ready w at k) (some c) t = ap₂ (λ j u. most_turns n j - u) (sym t.0.2) (sym t.1)

  module _ (e i : ℕ) (b : i < n) (L : Laws n o H e) where
    tie_patient : (p : Process) (k : Task) (c : Call) → Tie n o H e i p k (some c) → c.turns < most_turns n c.job
    tie_patient p Idle c t = absurd t
    tie_patient p (Scan k) c t =
        let q = scanning_patient n o (register_at n o H) t.2 b L in
        subst (λ j. c.turns < most_turns n j) (sym t.0) (let r = t.1 in omega arith)
    tie_patient p (Update w k) c t =
        let q = scanning_patient n o (register_at n o H) t.2 b L in
        subst (λ j. c.turns < most_turns n j) (sym t.0.2) (let r = t.1 in omega arith)
    tie_patient p (Ready w at k) c t =
        let q = t.2.few in
        subst (λ j. c.turns < most_turns n j) (sym t.0.2) (let r = t.1 in omega arith)

    not_overdue : (p : Process) (k : Task) (c : Option Call) → Tie n o H e i p k c → overdue (most_reads n) k ≡ false
    not_overdue p Idle c t = refl
    not_overdue p (Scan k) none t = absurd t
    not_overdue p (Scan k) (some c) t = lt-leb (most_reads n) k (scanning_patient n o (register_at n o H) t.2 b L)
    not_overdue p (Update w k) none t = absurd t
    not_overdue p (Update w k) (some c) t = lt-leb (most_reads n) k (scanning_patient n o (register_at n o H) t.2 b L)
    not_overdue p (Ready w at k) none t = absurd t
    not_overdue p (Ready w at k) (some c) t = le-ltb (most_reads n) k t.2.few

    sound : (c : Option Call) → Ties n o H e i (process_at (figure3 o) H i e) c →
        unsound (most_reads n) e (process_at (figure3 o) H i e) ≡ false
    unfolding unsound
    sound c T =
        let p = process_at (figure3 o) H i e in
        ap₂ ◌||◌ (le-ltb e p.register.seq (L i b).few)
        (ap₂ ◌||◌ (le-ltb e p.register.at ((L i b).viewed.past e (omega arith)))
        (ap₂ ◌||◌ (le-ltb e p.register.value.last (L i b).past) (not_overdue p p.task c T.tie)))

  first_laws : n ≤ 8 → ((i : ℕ) → i < n → process_at (figure3 o) H i 0 ≡ zero_process) → Laws n o H 0
  first_laws eight first j b =
      history_start (trace (register_at n o H)) n j (ap (λ p. p.register.at) (first j b))
      (ap (λ p. take n p.register.view) (first j b) ∙ take_replicate n 8 zero_value eight
      ∙ sym (each_replicate n (λ i. value (register_at n o H i 0)) zero_value (λ i l. ap (λ p. value p.register) (first i l))))
      (ap (λ p. p.register.seq) (first j b)) (ap (λ p. p.register.value.last) (first j b))

  -- what Figure 3 owes, and pays
  works : Permutes n o → 0 < n → n ≤ 8 → Works (figure3 o) n H
  works P z eight =
      record {
        Laws = Laws n o H;
        Tie = Ties n o H;
        laws_start = first_laws eight;
        tie_start = λ i b. record {
          sized = record { firsts = omega arith; seconds = omega arith; marks = omega arith };
          tie = tt;
        };
        idle = λ e i p c T. tie_idle e i p p.task c T.tie;
        owing = λ e i p c T. tie_owes e i p p.task c T.tie;
        patient = λ e i c b L T. let p = process_at (figure3 o) H i e in tie_patient e i b L p p.task c T.tie;
        sound = λ e i c b L T. sound e i b L c T;
        waits = λ e i p L E j c b h T. others_tied n o H e i p L E j c h T;
        calls = λ e i j own L T E. call_works n o H z eight e i L j own T E;
        turns = λ e i page c L T E. turn_works n o H z eight e i L P c T page E;
      }

-- demand 3, for every order of reading
pub demand3_ordered : (n : ℕ) (o : Order) → Permutes n o → 0 < n → n ≤ 8 → (items : List Item) →
    Holds (method o n) (opened_for n) (started n n zero_value) items
unfolding Days.opened_for
demand3_ordered n o P z eight items = machine.demand3 (figure3 o) n (λ H. works n o H P z eight) z eight items

pub ascending_permutes : (n : ℕ) → Permutes n ascending
ascending_permutes n =
    record {
      register_within = λ p l. l;
      place_within = λ j l. l;
      register_place = λ j l. refl;
      place_register = λ p l. refl;
    }

-- demand 3: a day just opened for any n from 1 to 8, and every list of items on it
pub demand3 : (n : ℕ) → 0 < n → n ≤ 8 → (items : List Item) → Holds (method ascending n) (opened_for n) (started n n zero_value) items
demand3 n z eight items = demand3_ordered n ascending (ascending_permutes n) z eight items

-- what an accepted opening leaves, whatever the day and the table held, is the day just opened for its count, from 1 to 8
pub opening_opens : (o : Order) (s : State Process) (k : ℕ) → refusal (figure3 o) s (open_for k) ≡ none →
    ((accept (figure3 o) s (open_for k)).state ≡ opened_for k) × (0 < k) × (k ≤ 8)
unfolding Days.opened_for
opening_opens o s k q = machine.opening_opens (figure3 o) s k q

-- demand 3 after any accepted opening: whatever the day and the table held before it
pub demand3_after_opening : (s : State Process) (n : ℕ) → refusal (figure3 ascending) s (open_for n) ≡ none → (items : List Item) →
    Holds (method ascending n) (step (method ascending n) s (open_for n)).state (started n n zero_value) items
demand3_after_opening s n q items =
    machine.demand3_after_opening (figure3 ascending) s n
    (λ z eight H. works n ascending H (ascending_permutes n) z eight) q items
