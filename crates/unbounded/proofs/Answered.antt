-- An item is answered with a refusal just where it is refused: no turn of Figure 3 answers one.
use Prim.Native.Nat.{ℕ}
use mathlib.Core.Path.{◌≡◌, refl}
use mathlib.Core.List.{List}
use mathlib.Core.Option.{Option, none, some}
use Rattle.snapshot.specs.declared.Value.{Value}
use Rattle.snapshot.specs.Marks.{Found}
use Rattle.snapshot.specs.Demand.{refusal_of}
use Rattle.snapshot.specs.Days.{State, Item, refusal}
use Rattle.snapshot.proofs.Stepped.{answers_refusal}
use Rattle.unbounded.specs.declared.Register.{Register}
use Rattle.unbounded.specs.declared.Process.{Process}
use Rattle.unbounded.specs.declared.Task.{Task}
use Rattle.unbounded.specs.declared.Task.TheVariants.{Idle, Scan, Update, Ready}
use Rattle.unbounded.specs.Registers.{Order, ascending}
use Rattle.unbounded.specs.Turns.{position, found_by, scan_turn, update_turn, turned_with, turned}
use Rattle.unbounded.specs.Days.{figure3, stepped}

module _ (o : Order) (n now : ℕ) (r : Register) (page : List ℕ) (p : Process) where
  turn_taken : refusal_of (turned o n now r page p).answer ≡ none
  unfolding turned
  turn_taken = go p.task
    where
      scans : (t : ℕ) (f : Option (Found Value)) → refusal_of (scan_turn o n now r page p t f).answer ≡ none
      scans t none = refl
      scans t (some f) = refl

      updates : (w t : ℕ) (f : Option (Found Value)) → refusal_of (update_turn o n now r page p w t f).answer ≡ none
      updates w t none = refl
      updates w t (some f) = refl

      go : (k : Task) → refusal_of (turned_with o n now r page p k).answer ≡ none
      go Idle = refl
      go (Scan t) = scans t (found_by o n now (position n t) r p)
      go (Update w t) = updates w t (found_by o n now (position n t) r p)
      go (Ready w at t) = refl

pub refused_answers : (s : State Process) (x : Item) → refusal_of (stepped s x).answer ≡ refusal (figure3 ascending) s x
refused_answers = answers_refusal (figure3 ascending) (λ n i now other page p. turn_taken ascending n now other.register page p)
