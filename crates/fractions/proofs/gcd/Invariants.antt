-- `fractions::gcd` meets its contract: each division keeps the greatest common divisor.
use mathlib.Core.Path.{◌≡◌}
use Rattle.fractions.specs.Fractions.{greatest_divisor}
use Rattle.fractions.proofs.gcd.Given as goal

abbrev pub invariant-loop-y : goal.invariant-loop-y
invariant-loop-y l = greatest_divisor l.x l.y ≡ greatest_divisor l.a l.b

abbrev pub decreases-loop-y : goal.decreases-loop-y
decreases-loop-y l = l.y
