-- After i turns of the loop of `packed_turns::begin` the first i places of both collects are clear.
use mathlib.Core.Path.{◌≡◌}
use Rattle.packed_turns.proofs.Begun.{placed_to}
use Rattle.packed_turns.proofs.begin.Given as goal

abbrev pub invariant-loop-i : goal.invariant-loop-i
invariant-loop-i l = l.w ≡ placed_to l.n l.none l.i l.initial.w
