-- How many processes a search for a lender passes.
use Prim.Native.Nat.{ℕ, ◌+◌, ◌*◌, ◌≤◌}
use native.Mathlib.Omega.{arith}
use mathlib.Core.Bool.{Bool, true, false, cond}
use mathlib.Core.List.{List}
use mathlib.Core.Option.{none, some}
use lib.Dec.{eqb}
use Rattle.snapshot.specs.Verdict.{Verdict, verdict}
use Rattle.snapshot.specs.Marks.{lends}
use Rattle.snapshot.proofs.DoubleCollect.{Ends, nobody, lender, goes_on, verdict_ends}
use Rattle.unbounded.specs.declared.Register.{Register}
use Rattle.unbounded.specs.declared.Process.{Process}
use Rattle.unbounded.specs.Registers.{ascending, differs}
use Rattle.unbounded.specs.Turns.{first_after, second_after, end_after, decision}
use Rattle.unbounded_accesses.specs.declared.Access.{Access}
use Rattle.unbounded_finds.specs.Finds.{decision_find, find_of}

-- a search for a lender passes at most the n processes
pub find_passed : (a : Access) (r : Register) (p : Process) → (find_of a r p).passed ≤ a.n
unfolding find_of decision
find_passed a r p =
    let x = first_after a.n a.pos r p.first in
    let y = second_after a.n a.pos r p.second in
    go x y (end_after a.n a.pos a.now p.first_end) (eqb (a.pos + 1) (2 * a.n))
  where
    by : (x y : List Register) (e : ℕ) (v : Verdict) →
        Ends a.n (differs ascending x y) (lends (differs ascending x y) p.moved) v →
        (decision_find a.n e y (some v)).passed ≤ a.n
    by x y e _ (nobody h) = omega arith
    by x y e _ (lender j l h g) = omega arith
    by x y e _ (goes_on j l h g) = omega arith

    go : (x y : List Register) (e : ℕ) (b : Bool) → let d = differs ascending x y in
        (decision_find a.n e y (cond b (some (verdict a.n d (lends d p.moved))) none)).passed ≤ a.n
    go x y e true = let d = differs ascending x y in by x y e _ (verdict_ends a.n d (lends d p.moved))
    go x y e false = omega arith
