-- What the loop of `places::spot` keeps: what was passed does not matter any more.
use mathlib.Core.Path.{◌≡◌}
use Rattle.places.specs.Places.{spot_in}
use Rattle.places.proofs.spot.Given as goal

abbrev pub invariant-loop-i : goal.invariant-loop-i
invariant-loop-i l = spot_in l.number l.book l.count ≡ spot_in l.number l.book l.i
