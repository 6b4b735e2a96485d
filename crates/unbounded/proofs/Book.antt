-- The book of Figure 3's method (`items_booked`): every n from 1 to 8, every list of items on a day just opened. Its run begins with zeros
-- and nobody waiting (`items_begin`), and every action's address is its own process (`items_single_writer`).
use Prim.Native.Nat.{ℕ, ◌≤◌, ◌<◌}
use mathlib.Core.Path.{◌≡◌, refl, sym, subst}
use mathlib.Core.List.{List, [], ◌∷◌}
use mathlib.Core.Option.{none}
use lib.ListN.{replicate}
use Rattle.snapshot.specs.Values.{zero_value, stored}
use Rattle.snapshot.specs.Lists.{All}
use Rattle.snapshot.specs.Tally.{started}
use Rattle.snapshot.specs.Demand.{step}
use Rattle.snapshot.specs.Days.{State, Item}
use Rattle.snapshot.specs.Canonical.{OwnAddress}
use Rattle.snapshot.specs.Book.{heard, tally_after, finished, said, memory_of, IsBooked}
use Rattle.snapshot.proofs.Booked.{holds_booked, started_memory}
use Rattle.snapshot.proofs.SingleWriter.{OwnSeen, OwnHeld, sees_own, run_own, said_own}
use Rattle.unbounded.specs.declared.Process.{Process}
use Rattle.unbounded.specs.Registers.{ascending}
use Rattle.unbounded.specs.Days.{method, opened_for}
use Rattle.unbounded.proofs.Demand3.{demand3}

pub items_booked : (n : ℕ) → 0 < n → n ≤ 8 → (items : List Item) → let hs = heard (method ascending n) (opened_for n) items in
    IsBooked n (λ v. v.word) (started n n zero_value) (tally_after stored (started n n zero_value) hs)
    (finished stored (λ v. v.word) (started n n zero_value) hs) (said stored (λ v. v.word) (started n n zero_value) hs)
items_booked n z eight items = holds_booked (method ascending n) (λ v. v.word) (λ e w. refl) (opened_for n) n zero_value items (demand3 n z eight items)

pub items_begin : (n : ℕ) → memory_of (λ v. v.word) (started n n zero_value) ≡ record { Mem = replicate n 0; H = λ i. none }
items_begin n = started_memory n n zero_value (λ v. v.word)

own_seen : (n : ℕ) (s : State Process) (items : List Item) → All (λ h. OwnSeen h.seen) (heard (method ascending n) s items)
own_seen n s [] = tt
own_seen n s (x ∷ xs) = (sees_own x, own_seen n (step (method ascending n) s x).state xs)

pub items_single_writer : (n : ℕ) (z : 0 < n) (eight : n ≤ 8) (items : List Item) →
    All (λ a. OwnAddress a.1) (items_booked n z eight items).serial.actions
items_single_writer n z eight items =
    let run = (items_booked n z eight items).serial in
    run_own run.actions (memory_of (λ v. v.word) (started n n zero_value)) _ run.run
    (subst (λ s. (j : ℕ) → OwnHeld (s.H j)) (sym (items_begin n)) (λ j. tt))
    (subst (All (λ a. OwnAddress a.1)) (sym run.outside)
    (said_own stored (λ v. v.word) (started n n zero_value) (heard (method ascending n) (opened_for n) items) (own_seen n (opened_for n) items)))
