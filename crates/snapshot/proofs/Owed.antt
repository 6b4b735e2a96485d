-- What a method owes so that demand 3 holds of it (`Fold`): an invariant of the past, one that ties each process to its open
-- call, and for each accepted item one deed. The past is a function H from instants to states, fixed for the whole list.
use Prim.Native.Nat.{ℕ, suc, ◌≤◌, ◌<◌, ◌-◌}
use mathlib.Core.Path.{◌≡◌}
use mathlib.Core.Logic.{◌≢◌}
use mathlib.Core.Option.{Option, none, some}
use mathlib.Core.List.{List}
use lib.ListN.{length, get_or, set}
use Rattle.snapshot.specs.declared.Answer.{Answer}
use Rattle.snapshot.specs.declared.Answer.TheVariants.{Called, Read, Page, Written}
use Rattle.snapshot.specs.Tally.{Job, scan, update, Seen, call, turn, by_seen, Call, Tally, opens, gains}
use Rattle.snapshot.specs.Demand.{Method, Among, Endable, expected}

-- the process that an item speaks of, from 0
abbrev pub actor : Seen → ℕ
actor x = by_seen 0 (λ d j. d - 1) (λ d. d - 1) x

module _ (M : Method) (Tied : (ℕ → M.State) → ℕ → ℕ → Option Call → Type 0) where
  module _ (H : ℕ → M.State) (e : ℕ) (open-call : ℕ → Option Call) (ws : List M.Value) where
    -- the words stand as they stood
    abbrev pub Quiet : Type 0
    Quiet = M.words (H (suc e)) ≡ M.words (H e)

    -- what event e + 1 was for the process d that made it, by what the tally sees and the answer
    pub data Deed : Seen → Answer → Type 0 where
      call_deed : (d : ℕ) (j : Job) → Among M.processes d → open-call (d - 1) ≡ none → Quiet →
          Tied H (suc e) (d - 1) (some (opens (suc e) j)) → Deed (call d j) Called
      read_deed : (d : ℕ) (c : Call) → Among M.processes d → open-call (d - 1) ≡ some c → Quiet →
          Tied H (suc e) (d - 1) (some (gains c)) → Deed (turn d) Read
      page_deed : (d : ℕ) (c : Call) (lender at turns : ℕ) → Among M.processes d → open-call (d - 1) ≡ some c →
          c.job ≡ scan → turns ≡ suc c.turns → ws ≡ M.words (H at) → c.number < at → at ≤ e → Quiet →
          Tied H (suc e) (d - 1) none → Deed (turn d) (Page lender at turns)
      write_deed : (d : ℕ) (c : Call) (register w turns : ℕ) → Among M.processes d → open-call (d - 1) ≡ some c →
          c.job ≡ update register w → turns ≡ suc c.turns →
          M.words (H (suc e)) ≡ set (M.words (H e)) (register - 1) (M.stored (suc e) w) →
          Tied H (suc e) (d - 1) none → Deed (turn d) (Written turns)

pub record Owed (M : Method) : Type 1 where
  -- what holds of the instants up to e
  pub Past : (ℕ → M.State) → ℕ → Type 0
  -- process i, from 0, at instant e: it does what its open call asks
  pub Tied : (ℕ → M.State) → ℕ → ℕ → Option Call → Type 0
  pub patient : (H : ℕ → M.State) (e i : ℕ) (c : Call) → i < M.processes → Past H e → Tied H e i (some c) →
      c.turns < M.most c.job
  -- on a day whose tally is t every refusal is the one that the tally expects
  pub refuses : (H : ℕ → M.State) (t : Tally M.Value) (x : M.Item) →
      Past H t.event → M.event (H t.event) ≡ t.event →
      ((i : ℕ) → i < M.processes → Tied H t.event i (get_or t.calls i none)) →
      length t.calls ≡ M.processes → Endable M.most t →
      M.refusal (H t.event) x ≡ expected M t x
  pub acts : (H : ℕ → M.State) (e : ℕ) (x : M.Item) (open-call : ℕ → Option Call) →
      Past H e → M.event (H e) ≡ e → ((i : ℕ) → i < M.processes → Tied H e i (open-call i)) →
      M.refusal (H e) x ≡ none → H (suc e) ≡ (M.accept (H e) x).state →
      Past H (suc e)
      × (M.event (H (suc e)) ≡ suc e)
      × ((i : ℕ) → i < M.processes → i ≢ actor (M.sees x) → (c : Option Call) → Tied H e i c → Tied H (suc e) i c)
      × Deed M Tied H e open-call (M.shown (M.accept (H e) x).page) (M.sees x) (M.accept (H e) x).answer
