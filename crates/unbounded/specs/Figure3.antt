-- Figure 3 of Afek and others, "The unbounded single-writer algorithm", as it is printed: scan and update as functions of what
-- their reads return, and what it means that on a day the turns of a process are such a procedure, one access at a time.
use Rattle.std.specs.Prelude.{ℕ, zero, suc, ◌+◌, ◌<◌, ◌≡◌, Bool, true, false, cond, get_or, replicate, eqb}
use mathlib.Core.List.{List, [], ◌∷◌, foldl}
use Rattle.std.proofs.Math.Option.{Option, none, some}
use Rattle.snapshot.specs.Lists.{over, each, every_from}
use Rattle.snapshot.specs.declared.Value.{Value}
use Rattle.snapshot.specs.Values.{zero_value, stored, page_places, listed}
use Rattle.snapshot.specs.Marks.{is_moved}
use Rattle.snapshot.specs.Demand.{Result}
use Rattle.snapshot.specs.Days as Days
use Rattle.snapshot.specs.Days.{State, Item, open_for, update_call, scan_call, turn_of, page_lent, process_of, refusal}
use Rattle.snapshot.specs.declared.Refusal.{Refusal}
use Rattle.snapshot.specs.declared.Answer.TheVariants.{Read, Page, Written}
use Rattle.unbounded.specs.declared.Register.{Register}
use Rattle.unbounded.specs.declared.Process.{Process}
use Rattle.unbounded.specs.Registers.{value, trimmed, Order, collected_at}
use Rattle.unbounded.specs.declared.Task.TheVariants.{Idle}
use Rattle.unbounded.specs.Processes.{no_process, turns_of, emptied, begin}
use Rattle.unbounded.specs.Turns.{reads}
use Rattle.unbounded.specs.Days.{figure3, opened_for}

-- ---- what the figure works on

-- a register's fields are "(data, seq, view) triples"; document 01 adds at, the instant of the view. Data is a value: a word with the
-- number of its writing (K6). Here a view has n values
abbrev pub initial : ℕ → Register
initial n = record { value = zero_value; seq = 0; view = replicate n zero_value; at = 0 }

-- an array indexed by process, from 0
abbrev pub Array : Type 0 → Type 0
Array A = ℕ → A

-- a[j] := x
abbrev pub assigned : {A : Type 0} → Array A → ℕ → A → Array A
assigned a j x i = cond (eqb i j) x (a i)

-- the variables of scan, and "the number of the turn that ended the first collect" (document 01)
pub record Variables : Type 0 where
  pub moved : Array ℕ
  pub a : Array Register
  pub b : Array Register
  pub ended : ℕ

-- what a procedure does next: read register j and go on with that turn's number and what the read returns; write its own register,
-- by that turn's number, and return; return the values, with the process that lent them, from 1, or 0, and their instant; `spent` is
-- where a given number of rounds of "while true" ends, so that no turn is there if they are enough
pub data Procedure : Type 0 where
  read : Variables → (j : ℕ) → ((now : ℕ) → Register → Procedure) → Procedure
  write : Variables → ((now : ℕ) → Register) → Procedure
  return : (lender at : ℕ) (values : List Value) → Procedure
  spent : Procedure

-- ---- the figure

-- x[1..n] := collect, read by read: k registers are left, from place p on; it goes on with the number of its last turn, and x
module _ (o : Order) where
  unfoldable pub collect : (k p : ℕ) → (Array Register → Variables) → (last : ℕ) → Array Register →
      (ℕ → Array Register → Procedure) → Procedure
  collect zero p variables last x next = next last x
  collect (suc k) p variables last x next =
      read (variables x) (o.register p) (λ now r. collect k (suc p) variables now (assigned x (o.register p) r) next)

-- lines 6 to 10, for the k processes from j on
unfoldable pub search : (k j : ℕ) → (a b : Array Register) (moved : Array ℕ) → (again : Array ℕ → Procedure) →
    (finish : Array ℕ → (lender at : ℕ) → List Value → Procedure) → Procedure
search zero j a b moved again finish = again moved
search (suc k) j a b moved again finish =
    -- 7: if a[j].seq ≠ b[j].seq then
    cond (eqb (a j).seq (b j).seq)
    (search k (suc j) a b moved again finish)
    -- 8: if moved[j] = 1 then
    (cond (eqb (moved j) 1)
    -- 9: return (b[j].view)
    (finish moved (suc j) (b j).at (b j).view)
    -- 10: else moved[j] := moved[j] + 1
    (search k (suc j) a b (assigned moved j (moved j + 1)) again finish))

-- scan, with what is done with the values that it returns, their lender and their instant
module _ (o : Order) (n : ℕ) (finish : Variables → (lender at : ℕ) → List Value → Procedure) where
  -- line 1: while true do; as many rounds as are given
  unfoldable pub while_true : ℕ → (moved : Array ℕ) (a b : Array Register) (ended : ℕ) → Procedure
  while_true zero moved a b ended = spent
  while_true (suc k) moved a b ended =
      -- 2: a[1..n] := collect
      collect o n 0 (λ a. record { moved = moved; a = a; b = b; ended = ended }) ended a
      (λ ended a.
      -- 3: b[1..n] := collect
      collect o n 0 (λ b. record { moved = moved; a = a; b = b; ended = ended }) ended b
      (λ last b.
      -- 4: if (∀j) a[j].seq = b[j].seq then
      cond (every_from (λ j. eqb (a j).seq (b j).seq) n 0)
      -- 5: return (b[1].data, .., b[n].data)
      (finish (record { moved = moved; a = a; b = b; ended = ended }) 0 ended (each n (λ j. value (b j))))
      -- 6: else for j = 1 to n do
      (search n 0 a b moved (λ moved. while_true k moved a b ended)
      (λ moved. finish (record { moved = moved; a = a; b = b; ended = ended })))))

  -- line 0: for j = 1 to n do moved[j] := 0; a place that was not read yet is 0
  unfoldable pub scan_for : ℕ → Procedure
  scan_for k = while_true k (λ j. 0) (λ j. initial n) (λ j. initial n) 0

-- scan, of k rounds
abbrev pub scan_procedure : Order → (n k : ℕ) → Procedure
scan_procedure o n k = scan_for o n (λ v. return) k

-- update, by a process whose register's seq is s: line 1, s[1..n] := scan; line 2, r := (data, r.seq + 1, s[1..n])
abbrev pub update_procedure : Order → (n k : ℕ) → (word s : ℕ) → Procedure
update_procedure o n k word s =
    scan_for o n
    (λ v lender at values. write v (λ now. record { value = stored now word; seq = s + 1; view = values; at = at })) k

-- ---- the turns of a process are a procedure, one access at a time

abbrev pub mark : Bool → ℕ
mark true = 1
mark false = 0

module _ (o : Order) (n : ℕ) where
  -- record p remembers the procedure's variables
  pub record Remembers (v : Variables) (p : Process) : Type 0 where
    pub moved : (j : ℕ) → j < n → v.moved j ≡ mark (is_moved p.moved j)
    pub a : (j : ℕ) → j < n → v.a j ≡ trimmed n (collected_at o p.first j)
    pub b : (j : ℕ) → j < n → v.b j ≡ trimmed n (collected_at o p.second j)
    pub ended : v.ended ≡ p.first_end

  -- p, after t turns, has the procedure's variables, and its next turn makes the procedure's next access
  abbrev pub Standing : Procedure → (t : ℕ) → Process → Type 0
  Standing (read v j next) t p = Remembers v p × (turns_of p.task ≡ t) × (reads o n p.task ≡ some j)
  Standing (write v w) t p = Remembers v p × (turns_of p.task ≡ t) × (reads o n p.task ≡ none)
  Standing (return lender at values) t p = Unit {0}
  Standing spent t p = ⊥

  -- a turn of p, its t-th, was lent a page list and gave x, and the procedure goes on as q: only where q returns is it answered,
  -- with what q returns, and leaves p idle with nothing collected; N is what else then holds of the record
  abbrev pub After : (N : Process → Type 0) → (t : ℕ) → Process → List ℕ → Result Process → Procedure → Type 0
  After N t p page x (read v j next) =
      (x.answer ≡ Read) × (x.page ≡ page) × (x.state.register ≡ p.register) × N x.state
  After N t p page x (write v r) =
      (x.answer ≡ Read) × (x.page ≡ page) × (x.state.register ≡ p.register) × N x.state
  After N t p page x (return lender at values) =
      (x.answer ≡ Page lender at t)
      × (x.page ≡ over (page_places n) (listed values) page)
      × (x.state ≡ begin n Idle p)
  After N t p page x spent = N x.state

  -- the writing turn of p, its t-th, was lent a page list and gave x: it wrote w, and left p idle with nothing collected
  abbrev pub Wrote : Register → (t : ℕ) → Process → List ℕ → Result Process → Type 0
  Wrote w t p page x =
      (x.answer ≡ Written t)
      × (x.page ≡ page)
      × (trimmed n x.state.register ≡ w)
      × (x.state ≡ emptied n x.state.register Idle p)

-- ---- on a day

-- the state after a list of items
abbrev pub state_after : Order → State Process → List Item → State Process
state_after o s xs = foldl (λ s x. (Days.stepped (figure3 o) s x).state) s xs

-- whether an item, by its refusal, is an accepted turn of process d
abbrev pub is_turn : (d : ℕ) → Item → Option Refusal → Bool
is_turn d (open_for k) r = false
is_turn d (update_call c w) r = false
is_turn d (scan_call c) r = false
is_turn d (turn_of c page) none = eqb c d
is_turn d (turn_of c page) (some k) = false

-- what an item gave process d: its record, the answer, and the page list
abbrev pub own_of : Order → (d : ℕ) → Result (State Process) → Result Process
own_of o d r = record { state = process_of (figure3 o) r.state d; answer = r.answer; page = r.page }

module _ (o : Order) (n d : ℕ) where
  -- item x on state s, where process d is at a procedure and has made t accesses: an accepted turn of d makes the next access,
  -- and a read returns the register as it stands then; anything else leaves d's record as it is; Rest is what holds after x
  abbrev pub Follows : (Rest : Procedure → ℕ → State Process → Type 0) → Procedure → (t : ℕ) → State Process → Item → Type 0
  Follows Rest (read v j next) t s x =
      let p = process_of (figure3 o) s d in
      let r = Days.stepped (figure3 o) s x in
      let q = next (s.day.event + 1) (trimmed n (get_or s.table j no_process).register) in
      cond (is_turn d x (refusal (figure3 o) s x))
      (After o n (λ p. Rest q (suc t) r.state) (suc t) p (page_lent x) (own_of o d r) q)
      (((own_of o d r).state ≡ p) × Rest (read v j next) t r.state)
  Follows Rest (write v w) t s x =
      let p = process_of (figure3 o) s d in
      let r = Days.stepped (figure3 o) s x in
      cond (is_turn d x (refusal (figure3 o) s x)) (Wrote o n (w (s.day.event + 1)) (suc t) p (page_lent x) (own_of o d r))
      (((own_of o d r).state ≡ p) × Rest (write v w) t r.state)
  Follows Rest (return lender at values) t s x = Unit {0}
  Follows Rest spent t s x = Unit {0}

  -- from state s on, the accepted turns of process d are the procedure, with anything else in between
  unfoldable pub Performs : Procedure → (t : ℕ) → State Process → List Item → Type 0
  Performs q t s [] = Standing o n q t (process_of (figure3 o) s d)
  Performs q t s (x ∷ xs) =
      Standing o n q t (process_of (figure3 o) s d) × Follows (λ q t s. Performs q t s xs) q t s x

-- on a day just opened for n processes, after the items before: from an accepted call of process d on, its accepted turns among
-- the items are scan, or update, of k rounds
abbrev pub CallsPerform : Order → (n : ℕ) → (before items : List Item) → (d k : ℕ) → Type 0
CallsPerform o n before items d k =
    let M = figure3 o in
    let s = state_after o (opened_for n) before in
    (refusal M s (scan_call d) ≡ none → Performs o n d (scan_procedure o n k) 0 (Days.stepped M s (scan_call d)).state items)
    × ((w : ℕ) → refusal M s (update_call d w) ≡ none →
    Performs o n d (update_procedure o n k w (process_of M s d).register.seq) 0 (Days.stepped M s (update_call d w)).state items)
