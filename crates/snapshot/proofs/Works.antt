-- What a machine owes so that demand 3 holds of it (`Demand3`): laws of the past, what ties a record to its open call, and that
-- calls and turns keep both. H t is the state at instant t. Refusals, event numbers and tables are no part of it.
use Prim.Native.Nat.{ℕ, suc, ◌-◌, ◌<◌}
use mathlib.Core.Path.{◌≡◌}
use mathlib.Core.Logic.{◌≢◌}
use mathlib.Core.Bool.{false, not}
use mathlib.Core.List.{List}
use mathlib.Core.Option.{Option, none, some}
use lib.ListN.{get_or, take}
use Rattle.snapshot.specs.declared.Answer.{Answer}
use Rattle.snapshot.specs.declared.Answer.TheVariants.{Read, Page, Written}
use Rattle.snapshot.specs.Lists.{each}
use Rattle.snapshot.specs.Tally.{Job, scan, update, Call, opens, gains, is_open, call_owes}
use Rattle.snapshot.specs.Demand.{Result}
use Rattle.snapshot.specs.Days.{Machine, State, process_owes, read_from}
use Rattle.snapshot.proofs.Views.{Good}

-- a job that process i, from 0, may have: an update is of its own register
abbrev pub Owns : ℕ → Job → Type 0
Owns i scan = Unit {0}
Owns i (update register w) = register - 1 ≡ i

-- an update of its own register by word w
abbrev pub Updates : ℕ → (w : ℕ) → Job → Type 0
Updates i w j = (register : ℕ) × (register - 1 ≡ i) × (j ≡ update register w)

-- process i, from 0, at instant t
abbrev pub process_at : (M : Machine) → (ℕ → State M.Process) → (i t : ℕ) → M.Process
process_at M H i t = get_or (H t).table i M.no_process

module _ (M : Machine) (n : ℕ) (H : ℕ → State M.Process) where
  -- the page of instant t
  abbrev pub page_at : ℕ → List M.Value
  page_at t = each n (λ j. M.value (process_at M H j t))

  -- the turn of process i as event e + 1
  abbrev pub turn_at : (i e : ℕ) → List ℕ → Result M.Process
  turn_at i e page = M.turned n i (suc e) (read_from M (H e).table (M.reads n (process_at M H i e))) page (process_at M H i e)

  -- event e + 1 leaves process i the record p, and every other process its own
  pub record Event (e i : ℕ) (p : M.Process) : Type 0 where
    pub inside : i < n
    pub own : process_at M H i (suc e) ≡ p
    pub other : (j : ℕ) → j ≢ i → process_at M H j (suc e) ≡ process_at M H j e

  -- what a turn of process i as event e + 1, leaving record p and the page list, was for its open call c, by its answer; Tie is
  -- what ties p to the open call after it
  pub data TurnDeed (Tie : Option Call → Type 0) (e i : ℕ) (c : Call) (p : M.Process) (page : List ℕ) : Answer → Type 0 where
    turn_reads : M.value p ≡ M.value (process_at M H i e) → Tie (some (gains c)) → TurnDeed Tie e i c p page Read
    turn_pages : (lender at turns : ℕ) → c.job ≡ scan → turns ≡ suc c.turns →
        Good page_at c.number e (M.shown n (take (M.page_length n) page)) at →
        M.value p ≡ M.value (process_at M H i e) → Tie none → TurnDeed Tie e i c p page (Page lender at turns)
    turn_writes : (w turns : ℕ) → Updates i w c.job → turns ≡ suc c.turns →
        M.value p ≡ M.stored (suc e) w → Tie none → TurnDeed Tie e i c p page (Written turns)

  pub record Works : Type 1 where
    -- what holds of the instants up to e, and of process i with record p at instant e, by its open call
    pub Laws : ℕ → Type 0
    pub Tie : (e i : ℕ) → M.Process → Option Call → Type 0
    -- at an opening
    pub laws_start : ((i : ℕ) → i < n → process_at M H i 0 ≡ M.zero_process) → Laws 0
    pub tie_start : (i : ℕ) → i < n → Tie 0 i M.zero_process none
    -- a process is idle where it has no open call, owes what that call does, has had fewer turns than the most, and can have arisen
    pub idle : (e i : ℕ) (p : M.Process) (c : Option Call) → Tie e i p c → M.is_idle p ≡ not (is_open c)
    pub owing : (e i : ℕ) (p : M.Process) (c : Option Call) → Tie e i p c → process_owes M n p ≡ call_owes (M.most n) c
    pub patient : (e i : ℕ) (c : Call) → i < n → Laws e → Tie e i (process_at M H i e) (some c) → c.turns < M.most n c.job
    pub sound : (e i : ℕ) (c : Option Call) → i < n → Laws e → Tie e i (process_at M H i e) c →
        M.unsound n e (process_at M H i e) ≡ false
    -- another process's event
    pub waits : (e i : ℕ) (p : M.Process) → Laws e → Event e i p → (j : ℕ) (c : Option Call) → j < n → j ≢ i →
        Tie e j (process_at M H j e) c → Tie (suc e) j (process_at M H j e) c
    -- its own call, and its own turn
    pub calls : (e i : ℕ) (j : Job) → Owns i j → Laws e → Tie e i (process_at M H i e) none →
        let p = M.called n j (process_at M H i e) in
        Event e i p → Laws (suc e) × (M.value p ≡ M.value (process_at M H i e)) × Tie (suc e) i p (some (opens (suc e) j))
    pub turns : (e i : ℕ) (page : List ℕ) (c : Call) → Laws e → Tie e i (process_at M H i e) (some c) →
        let r = turn_at i e page in
        Event e i r.state → Laws (suc e) × TurnDeed (Tie (suc e) i r.state) e i c r.state r.page r.answer
