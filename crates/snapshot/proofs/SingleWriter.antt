-- In the single-writer memory every action's address is its own process: if the requests' are, so are the updates' (`run_own`), and
-- the requests of a machine's items are (`said_own`, `sees_own`).
use Prim.Native.Nat.{ℕ, suc}
use mathlib.Core.Path.{◌≡◌, refl, subst}
use mathlib.Core.Bool.{Bool, true, false, cond}
use mathlib.Core.List.{List, [], ◌∷◌}
use mathlib.Core.Option.{Option, none, some}
use lib.Dec.{eqb}
use Rattle.snapshot.specs.declared.Answer.{Answer}
use Rattle.snapshot.specs.declared.Answer.TheVariants.{Refused, Opened, Called, Read, Page, Written}
use Rattle.snapshot.specs.Lists.{All}
use Rattle.snapshot.specs.Tally.{scan, update, Seen, opening, call, turn, Tally, tallied}
use Rattle.snapshot.specs.Days.{Item, open_for, update_call, scan_call, turn_of, sees}
use Rattle.snapshot.specs.Canonical.{Action, UpdateRequest, ScanRequest, Update, Scan, UpdateReturn, ScanReturn}
use Rattle.snapshot.specs.Canonical.{Memory, put, Precondition, effect, OwnAddress}
use Rattle.snapshot.specs.Book.{Heard, Timed, said_by, said, interface}
use Rattle.snapshot.proofs.Placing.{all_append}
use Rattle.snapshot.proofs.Canonical.{RunAt}

abbrev pub Own : Timed → Type 0
Own a = OwnAddress a.1

-- ---- a run

abbrev pub OwnHeld : Option Action → Type 0
OwnHeld none = Unit {0}
OwnHeld (some a) = OwnAddress a

own_put : (H : ℕ → Option Action) (i : ℕ) (v : Option Action) → ((j : ℕ) → OwnHeld (H j)) → OwnHeld v → (j : ℕ) → OwnHeld (put H i v j)
own_put H i v h q j = go (eqb j i)
  where
    go : (b : Bool) → OwnHeld (cond b v (H j))
    go true = q
    go false = h j

pub run_own : (l : List Timed) (s u : Memory) → RunAt s l u → ((j : ℕ) → OwnHeld (s.H j)) → All Own (interface l) → All Own l
run_own [] s u r h q = tt
run_own (a ∷ l) s u r h q = go a.0 a.1 r.0 q (run_own l (effect s a.1) u r.1)
  where
    go : (k : ℕ) (b : Action) → Precondition s b → All Own (interface ((k, b) ∷ l)) →
        (((j : ℕ) → OwnHeld ((effect s b).H j)) → All Own (interface l) → All Own l) → OwnAddress b × All Own l
    go k (UpdateRequest i j d) p q f = (q.0, f (own_put s.H i (some (UpdateRequest i j d)) h q.0) q.1)
    go k (ScanRequest i) p q f = (tt, f (own_put s.H i (some (ScanRequest i)) h tt) q.1)
    go k (Update i j d) p q f = (subst OwnHeld p (h i), f (own_put s.H i (some (UpdateReturn i)) h tt) q)
    go k (Scan i ds) p q f = (tt, f (own_put s.H i (some (ScanReturn i ds)) h tt) q)
    go k (UpdateReturn i) p q f = (tt, f (own_put s.H i none h tt) q.1)
    go k (ScanReturn i ds) p q f = (tt, f (own_put s.H i none h tt) q.1)

-- ---- what is said

-- an update's register is its process's own
abbrev pub OwnSeen : Seen → Type 0
OwnSeen opening = Unit {0}
OwnSeen (call d scan) = Unit {0}
OwnSeen (call d (update k w)) = k ≡ d
OwnSeen (turn d) = Unit {0}

pub sees_own : (x : Item) → OwnSeen (sees x)
sees_own (open_for k) = tt
sees_own (update_call d w) = refl
sees_own (scan_call d) = tt
sees_own (turn_of d page) = tt

module _ {Value : Type 0} (stored : ℕ → ℕ → Value) (word : Value → ℕ) where
  item_own : (e : ℕ) (x : Seen) (vs : List Value) (a : Answer) → OwnSeen x → All Own (said_by word e x vs a)
  item_own e x vs (Refused k) q = tt
  item_own e x vs Opened q = tt
  item_own e opening vs Called q = tt
  item_own e (call d scan) vs Called q = (tt, tt)
  item_own e (call d (update k w)) vs Called q = (q, tt)
  item_own e (turn d) vs Called q = tt
  item_own e x vs Read q = tt
  item_own e opening vs (Page lender at turns) q = tt
  item_own e (call d j) vs (Page lender at turns) q = tt
  item_own e (turn d) vs (Page lender at turns) q = (tt, tt)
  item_own e opening vs (Written turns) q = tt
  item_own e (call d j) vs (Written turns) q = tt
  item_own e (turn d) vs (Written turns) q = (tt, tt)

  pub said_own : (t : Tally Value) (hs : List (Heard Value)) → All (λ h. OwnSeen h.seen) hs → All Own (said stored word t hs)
  said_own t [] q = tt
  said_own t (h ∷ hs) q =
      let u = tallied stored t h.seen h.answer in
      all_append Own (said_by word (suc t.event) h.seen h.shown h.answer) (said stored word u hs)
      (item_own (suc t.event) h.seen h.shown h.answer q.0) (said_own u hs q.1)
