-- `packed_turns::place_in` meets its contract.
use native.Mathlib.Omega.{arith}
use borrow.Author.Tests.{lt-ltb, le-ltb}
use Rattle.unbounded.specs.Turns.{place_at}
use Rattle.packed_turns.specs.Places.{place_in}
use Rattle.packed_turns.proofs.place_in.Goals as goal

pub returns-then-a : goal.returns-then-a
unfolding place_in place_at
returns-then-a c =
    record {
      value = simp (lt-ltb _ _ c.if-a.true);
      upper_bound = omega arith;
    }

pub returns-else-a : goal.returns-else-a
unfolding place_in place_at
returns-else-a c =
    record {
      value = simp (le-ltb _ _ c.if-a.false);
      upper_bound = omega arith;
    }
