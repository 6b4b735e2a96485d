-- The book of a day file has at most 21,845 operations (`book_fits`): a day has at most 65,535 events, and every finished operation
-- has had three of them at least, its call and two turns.
use Prim.Native.Nat.{ℕ, zero, suc, ◌+◌, ◌-◌, ◌*◌, ◌%◌, ◌≤◌, ◌<◌}
use native.Mathlib.Omega.{arith}
use native.Mathlib.Nat.{zero-mod}
use mathlib.Core.Path.{◌≡◌, refl, sym, ap, ◌∙◌, subst}
use mathlib.Core.Bool.{Bool, false, cond}
use mathlib.Core.List.{List, [], ◌∷◌}
use mathlib.Core.Option.{Option, none, some, none-ne-some}
use lib.ListN.{length, take, drop, take-append-drop}
use borrow.Author.Tests.{ne_eqb}
use Rattle.snapshot.specs.declared.Value.{Value}
use Rattle.snapshot.specs.Lists.{sum_of}
use Rattle.snapshot.specs.Refusals.{first_cause}
use Rattle.snapshot.specs.Tally.{Job, scan, update}
use Rattle.snapshot.specs.Verdict.{verdict}
use Rattle.snapshot.specs.Marks.{lends, Found as Finding}
use Rattle.snapshot.specs.Demand.{Result}
use Rattle.snapshot.specs.Days.{Machine, State, Item, open_for, update_call, scan_call, turn_of, process_of, process_owes, call_causes}
use Rattle.snapshot.specs.Days.{refusal, accept, opened_by, called_by, turn_by, advance, stepped}
use Rattle.snapshot.specs.declared.Day.{Day}
use Rattle.snapshot.specs.declared.Refusal.{Refusal}
use Rattle.snapshot.specs.declared.Answer.{Answer}
use Rattle.snapshot.specs.declared.Answer.TheVariants.{Refused, Opened, Called, Read, Page, Written}
use Rattle.snapshot.proofs.Admitted.{admitted_call, admitted_turn, admitted_opening, turn_room}
use Rattle.snapshot.proofs.Lists.{map_constant, sum_set, sum_append, sum_replicate}
use Rattle.snapshot.proofs.Stepped.{refusal_changes_nothing, acceptance_does}
use Rattle.dayfile.specs.Files.{readings}
use Rattle.dayfile.specs.declared.Reading.{Reading}
use Rattle.dayfile.specs.declared.Reading.TheVariants.{Found, End, Refused as Broken}
use Rattle.unbounded.specs.declared.Register.{Register}
use Rattle.unbounded.specs.declared.Process.{Process}
use Rattle.unbounded.specs.declared.Task.{Task}
use Rattle.unbounded.specs.declared.Task.TheVariants.{Idle, Scan, Update, Ready}
use Rattle.unbounded.specs.Registers.{Order, ascending, differs}
use Rattle.unbounded.specs.Processes.{task_of, begin}
use Rattle.unbounded.specs.Turns.{position, decision, found, after_read, found_by, scan_turn, update_turn, turned_with, turned}
use Rattle.unbounded.specs.Days.{figure3, most_reads}
use Rattle.unbounded.proofs.Limits.{busy_owes}
use Rattle.days.specs.Asking.{lent_to}
use Rattle.days.specs.Happenings.{Box, blank_box, outcome_in, box_after, happening_in, happenings, day_of}
use Rattle.places.specs.Answers.{count_after}
use Rattle.book.specs.DayBooks.{book_in}
use Rattle.book.specs.Passes.{Noted, note_of, notes, blank_noted}
use Rattle.days.proofs.Boxes.{lent, item, unread_stays}
use Rattle.book.proofs.Noted.{noted_count}

-- ---- the operations that are finished

-- how many an answer finishes
abbrev finishes : Answer → ℕ
finishes (Refused k) = 0
finishes Opened = 0
finishes Called = 0
finishes Read = 0
finishes (Page lender at turns) = 1
finishes (Written turns) = 1

count_finishes : (k : ℕ) (a : Answer) → k + finishes a ≡ count_after k a
unfolding count_after
count_finishes k (Refused r) = omega arith
count_finishes k Opened = omega arith
count_finishes k Called = omega arith
count_finishes k Read = omega arith
count_finishes k (Page lender at turns) = refl
count_finishes k (Written turns) = refl

-- the events of a day are enough for three to each of k finished operations, and for those that the open operations have had
record Enough (d : Day) (k open-had : ℕ) : Type 0 where
  unopened : d.count ≡ 0 → d.event ≡ 0
  limit : d.event ≤ 65535
  events : 3 * k + open-had ≤ d.event

-- ---- one item, for every machine

-- had: how many events the open operation of a process has had, of those that count; none at first, at most one more after a call
-- or a turn, and a turn that finishes the operation leaves two less; a process that has a task and can have arisen owes a turn
module _ (M : Machine) (had : M.Process → ℕ) (none-had : had M.zero_process ≡ 0)
    (calls : (n : ℕ) (j : Job) (p : M.Process) → had (M.called n j p) ≤ had p + 1)
    (turns : (n i now : ℕ) (other : M.Process) (page : List ℕ) (p : M.Process) → let r = M.turned n i now other page p in
    3 * finishes r.answer + had r.state ≤ had p + 1)
    (owes : (n e : ℕ) (p : M.Process) → M.is_idle p ≡ false → M.unsound n e p ≡ false → 0 < process_owes M n p) where
  -- rest: what the operations have had that are open elsewhere
  module _ (s : State M.Process) (k rest : ℕ) (e : Enough s.day k (sum_of had s.table + rest)) where
    abbrev EnoughFor : Result (State M.Process) → Type 0
    EnoughFor r = Enough r.state.day (k + finishes r.answer) (sum_of had r.state.table + rest)

    -- an event of process d, which leaves it p and finishes so many operations
    advance_enough : (d : ℕ) (p : M.Process) (done : ℕ) → 0 < s.day.count → s.day.event < 65535 → d - 1 < length s.table →
        3 * done + had p ≤ had (process_of M s d) + 1 →
        let t = advance M s d p in Enough t.day (k + done) (sum_of had t.table + rest)
    unfolding advance
    advance_enough d p done opened room inside q =
        let h = sum_set had s.table (d - 1) p M.no_process inside in
        let m = e.events in
        record { unopened = λ z. absurd (omega arith); limit = omega arith; events = omega arith }

    call_enough : (d : ℕ) (j : Job) → first_cause (call_causes M s d j) ≡ none →
        let t = called_by M s d j in Enough t.day (k + 0) (sum_of had t.table + rest)
    unfolding called_by
    call_enough d j q =
        let a = admitted_call M s d j q in
        let n = s.day.count in
        let p = process_of M s d in
        let room = a.room in
        advance_enough d (M.called n j p) 0 a.suited.opened (omega arith) (omega arith) (omega (arith, calls n j p))

    -- an opening is accepted where nothing has happened yet
    accepted_enough : (x : Item) → refusal M s x ≡ none → EnoughFor (accept M s x)
    unfolding refusal accept opened_by turn_by
    accepted_enough (open_for n) q =
        let z = e.unopened (admitted_opening M s n q) in
        let m = e.events in
        let t = ap (sum_of had) (map_constant M.zero_process s.table) ∙ sum_replicate had (length s.table) M.zero_process none-had in
        record { unopened = λ c. refl; limit = omega arith; events = omega arith }
    accepted_enough (update_call d w) q = call_enough d (update d w) q
    accepted_enough (scan_call d) q = call_enough d scan q
    accepted_enough (turn_of d page) q =
        let a = admitted_turn M s d page q in
        let r = turn_by M s d page in
        advance_enough d r.state (finishes r.answer) a.suited.opened
        (turn_room M s d page a (owes s.day.count s.day.event)) (omega arith)
        (turns _ _ _ _ page (process_of M s d))

    stepped_enough : (x : Item) → EnoughFor (stepped M s x)
    stepped_enough x = go (refusal M s x) refl
      where
        go : (c : Option Refusal) → refusal M s x ≡ c → EnoughFor (stepped M s x)
        go none q = subst EnoughFor (sym (acceptance_does M s x q)) (accepted_enough x q)
        go (some c) q =
            subst EnoughFor (sym (refusal_changes_nothing M s x c q))
            (subst (λ m. Enough s.day m (sum_of had s.table + rest)) (omega arith) e)

-- ---- a process of Figure 3

-- the call and the first turn count
abbrev first_two : (turns : ℕ) → ℕ
first_two zero = 1
first_two (suc t) = 2

abbrev had_by : Task → ℕ
had_by Idle = 0
had_by (Scan t) = first_two t
had_by (Update w t) = first_two t
had_by (Ready w at t) = 2

abbrev had_of : Process → ℕ
had_of p = had_by p.task

one_or_two : (t : ℕ) → (1 ≤ first_two t) × (first_two t ≤ 2)
one_or_two zero = (omega arith, omega arith)
one_or_two (suc t) = (omega arith, omega arith)

called_leaves : (n : ℕ) (j : Job) (p : Process) → had_of (begin n (task_of j 0) p) ≤ had_of p + 1
unfolding begin
called_leaves n scan p = omega arith
called_leaves n (update register w) p = omega arith

module _ (o : Order) (n : ℕ) where
  -- the first read of a double collect is not its last
  first_undecided : (a b : List Register) (ms : List Bool) → decision o n (position n 0) a b ms ≡ none
  unfolding decision position
  first_undecided a b ms =
      ap (λ c. cond c (some (verdict n (differs o a b) (lends (differs o a b) ms))) none)
      (ne_eqb (0 % (2 * n) + 1) (2 * n) (λ q. omega (arith, zero-mod (2 * n))))

  module _ (now : ℕ) (r : Register) (page : List ℕ) (p : Process) where
    abbrev finds : (turns : ℕ) → Option (Finding Value)
    finds t = found_by o n now (position n t) r p

    -- so a first turn finds no page
    first_finds_none : finds 0 ≡ none
    unfolding found_by
    first_finds_none = ap (found o n _ _) (first_undecided _ _ p.moved)

    -- what a turn of task k leaves
    abbrev Leaves : Task → Result Process → Type 0
    Leaves k z = 3 * finishes z.answer + had_of z.state ≤ had_by k + 1

    scan_leaves : (t : ℕ) (f : Option (Finding Value)) → finds t ≡ f → Leaves (Scan t) (scan_turn o n now r page p t f)
    unfolding after_read begin
    scan_leaves t none q = omega (arith, one_or_two t, one_or_two (t + 1))
    scan_leaves zero (some f) q = absurd (none-ne-some f (sym first_finds_none ∙ q))
    scan_leaves (suc t) (some f) q = omega arith

    update_leaves : (w t : ℕ) (f : Option (Finding Value)) → Leaves (Update w t) (update_turn o n now r page p w t f)
    unfolding after_read
    update_leaves w t none = omega (arith, one_or_two t, one_or_two (t + 1))
    update_leaves w t (some f) = omega (arith, one_or_two t)

    turned_leaves : Leaves p.task (turned o n now r page p)
    unfolding turned
    turned_leaves = go p.task refl
      where
        go : (k : Task) → p.task ≡ k → Leaves k (turned_with o n now r page p k)
        go Idle q = omega (arith, ap had_by q)
        go (Scan t) q = scan_leaves t (finds t) refl
        go (Update w t) q = update_leaves w t (finds t)
        go (Ready w at t) q = omega arith

-- ---- a day file

abbrev had_in : List Process → ℕ
had_in ps = sum_of had_of ps

item_enough : (s : State Process) (k rest : ℕ) → Enough s.day k (had_in s.table + rest) → (x : Item) →
    let r = stepped (figure3 ascending) s x in
    Enough r.state.day (k + finishes r.answer) (had_in r.state.table + rest)
item_enough =
    stepped_enough (figure3 ascending) had_of refl called_leaves
    (λ n i now other page p. turned_leaves ascending n now other.register page p) (λ n e p. busy_owes (most_reads n) e p)

-- in a box, where k operations are finished
abbrev EnoughIn : ℕ → Box → Type 0
EnoughIn k b = Enough b.day k (had_in b.table)

module _ (b : Box) (k : ℕ) (e : EnoughIn k b) where
  -- the first n records, and the rest
  parted : (n : ℕ) → Enough b.day k (had_in (take n b.table) + had_in (drop n b.table))
  parted n =
      subst (Enough b.day k)
      (ap had_in (sym (take-append-drop n b.table)) ∙ sum_append had_of (take n b.table) (drop n b.table)) e

  reading_enough : (x : Reading) → EnoughIn (count_after k (outcome_in b x).answer) (box_after b x)
  unfolding count_after
  reading_enough (Found r next) =
      let n = lent_to b.day r in
      rw (sum_append had_of, ← count_finishes k) (item_enough (lent b r) k (had_in (drop n b.table)) (parted n) (item b r))
  reading_enough End = subst (EnoughIn k) (sym (unread_stays b End tt)) e
  reading_enough (Broken c) = subst (EnoughIn k) (sym (unread_stays b (Broken c) tt)) e

file_enough : (xs : List Reading) (b : Box) (s : Noted) → EnoughIn s.count b → 3 * (notes s (happenings b xs)).count ≤ 65535
file_enough [] b s e = let l = e.limit in let m = e.events in omega arith
file_enough (x ∷ xs) b s e = file_enough xs (box_after b x) (note_of s (happening_in b x)) (reading_enough b s.count e x)

blank_enough : EnoughIn 0 blank_box
blank_enough = record { unopened = λ q. refl; limit = omega arith; events = omega arith }

-- a book of 21,845 places holds every day
pub book_fits : (bs : List ℕ) → length (book_in bs) ≤ 21845
unfolding day_of
book_fits bs = omega (arith, noted_count bs [], file_enough (readings bs) blank_box (blank_noted []) blank_enough)
