-- What ties a record of Figure 3 to its open call, and what one event does to the ties and to the registers' histories.
use Prim.Native.Nat.{ℕ, suc, ◌+◌, ◌≤◌, ◌<◌}
use native.Mathlib.Numerals.{add-one}
use native.Mathlib.Omega.{arith}
use native.Mathlib.Decide.{ℕ_discrete}
use mathlib.Core.Path.{◌≡◌, sym, ap, ◌∙◌, subst}
use mathlib.Core.Logic.{by_cases, ◌≢◌}
use mathlib.Core.List.{List}
use mathlib.Core.Option.{Option, none, some}
use lib.ListN.{take}
use Rattle.snapshot.specs.Tally.{scan, Call}
use Rattle.snapshot.specs.declared.Value.{Value}
use Rattle.snapshot.specs.Values.{stored}
use Rattle.snapshot.specs.Days.{State}
use Rattle.snapshot.proofs.Views.{Good, good_later}
use Rattle.snapshot.proofs.Traces.{History, history_stays, history_writes}
use Rattle.snapshot.proofs.Works.{Updates, process_at, page_at, Event}
use Rattle.unbounded.specs.declared.Register.{Register}
use Rattle.unbounded.specs.declared.Process.{Process}
use Rattle.unbounded.specs.declared.Task.{Task}
use Rattle.unbounded.specs.declared.Task.TheVariants.{Idle, Scan, Update, Ready}
use Rattle.unbounded.specs.Registers.{Order, trimmed}
use Rattle.unbounded.specs.Days.{most_reads, figure3}
use Rattle.unbounded.proofs.Reading.{Sized}
use Rattle.unbounded.proofs.Scans.{trace}
use Rattle.unbounded.proofs.Scanning.{Scanning, scanning_waits}

module _ (n : ℕ) (o : Order) (H : ℕ → State Process) where
  -- register j at instant t, with n values of view
  abbrev pub register_at : (j t : ℕ) → Register
  register_at j t = trimmed n (process_at (figure3 o) H j t).register

  abbrev records : (i t : ℕ) → Process
  records i t = process_at (figure3 o) H i t

  abbrev pages : ℕ → List Value
  pages = page_at (figure3 o) n H

  -- what holds of the instants up to e
  abbrev pub Laws : ℕ → Type 0
  Laws e = (j : ℕ) → j < n → History (trace register_at) n j e

  -- the scan of process i, begun at instant s, with t turns, as record p has it at instant e
  abbrev pub Scans : (e i s t : ℕ) → Process → Type 0
  Scans e i s t p = Scanning n o register_at i s p.first p.second p.first_end p.moved t e

  -- the update of process i, called at instant s, is ready: it keeps a good page, and its register is as it was at its call
  pub record Keeps (e i s t : ℕ) (p : Process) (at : ℕ) : Type 0 where
    pub good : Good pages s e (take n p.view) at
    pub few : t ≤ most_reads n
    pub own : (register_at i s).seq ≡ (register_at i e).seq

  abbrev pub Tie : (e i : ℕ) → Process → Task → Option Call → Type 0
  Tie e i p Idle none = Unit {0}
  Tie e i p Idle (some c) = ⊥
  Tie e i p (Scan t) none = ⊥
  Tie e i p (Scan t) (some c) = (c.job ≡ scan) × (c.turns ≡ t) × Scans e i c.number t p
  Tie e i p (Update w t) none = ⊥
  Tie e i p (Update w t) (some c) = Updates i w c.job × (c.turns ≡ t) × Scans e i c.number t p
  Tie e i p (Ready w at t) none = ⊥
  Tie e i p (Ready w at t) (some c) = Updates i w c.job × (c.turns ≡ t) × Keeps e i c.number t p at

  pub record Ties (e i : ℕ) (p : Process) (c : Option Call) : Type 0 where
    pub sized : Sized p
    pub tie : Tie e i p p.task c

  -- ---- one event, after which process i has the record p

  module _ (e i : ℕ) (p : Process) (L : Laws e) (E : Event (figure3 o) n H e i p) where
    -- the other processes
    pub others_tied : (j : ℕ) (c : Option Call) → j ≢ i → Ties e j (records j e) c →
        Ties (suc e) j (records j e) c
    others_tied j c h T = record { sized = T.sized; tie = go (records j e).task c T.tie }
      where
        still : (register_at j (suc e)).seq ≡ (register_at j e).seq
        still = ap (λ q. q.register.seq) (E.other j h)

        go : (k : Task) (b : Option Call) → Tie e j (records j e) k b → Tie (suc e) j (records j e) k b
        go Idle none t = tt
        go Idle (some b) t = t
        go (Scan k) none t = t
        go (Scan k) (some b) t = (t.0, t.1, scanning_waits n o register_at t.2 still)
        go (Update w k) none t = t
        go (Update w k) (some b) t = (t.0, t.1, scanning_waits n o register_at t.2 still)
        go (Ready w at k) none t = t
        go (Ready w at k) (some b) t = (
          t.0,
          t.1,
          record { good = good_later pages (omega arith) t.2.good; few = t.2.few; own = t.2.own ∙ sym still },
        )

    -- a register that is not written
    register_stays : (j : ℕ) → j < n → register_at j (suc e) ≡ register_at j e → History (trace register_at) n j (suc e)
    register_stays j b q = history_stays (trace register_at) n j e (L j b) q (ap (λ r. r.seq) q) (λ u h. h)

    -- an event that writes no register
    module _ (same : p.register ≡ (records i e).register) where
      pub registers_stay : (j : ℕ) → register_at j (suc e) ≡ register_at j e
      registers_stay j =
          by_cases (ℕ_discrete j i)
          (λ x.
          ap (λ k. register_at k (suc e)) x ∙ ap (λ q. trimmed n q.register) E.own ∙ ap (trimmed n) same
          ∙ ap (λ k. register_at k e) (sym x))
          (λ x. ap (λ q. trimmed n q.register) (E.other j x))

      pub laws_stay : Laws (suc e)
      laws_stay j b = register_stays j b (registers_stay j)

    -- the writing turn of an update called at instant s, with a good page
    module _ (s w at : ℕ) (view : List Value) (good : Good pages s e view at)
        (own : (register_at i s).seq ≡ (register_at i e).seq)
        (wrote : trimmed n p.register ≡ record { value = stored (suc e) w; seq = (register_at i e).seq + 1; view = view; at = at }) where
      pub laws_write : Laws (suc e)
      laws_write j b =
          by_cases (ℕ_discrete j i) (λ x. subst (λ k. History (trace register_at) n k (suc e)) (sym x) own_history)
          (λ x. register_stays j b (ap (λ q. trimmed n q.register) (E.other j x)))
        where
          now_holds : register_at i (suc e) ≡ record { value = stored (suc e) w; seq = (register_at i e).seq + 1; view = view; at = at }
          now_holds = ap (λ q. trimmed n q.register) E.own ∙ wrote

          own_history : History (trace register_at) n i (suc e)
          own_history =
              history_writes (trace register_at) n i e (L i E.inside) s
              (subst (λ r. Good pages s e r.view r.at) (sym now_holds) good) own
              (ap (λ r. r.seq) now_holds ∙ add-one (register_at i e).seq) (ap (λ r. r.value.last) now_holds) (λ u l. tt)
