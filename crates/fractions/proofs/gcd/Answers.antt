-- `fractions::gcd` meets its contract: each division keeps the greatest common divisor.
use mathlib.Core.Path.{◌≡◌, sym, ap, ◌∙◌}
use native.Mathlib.Omega.{arith}
use Rattle.fractions.specs.Fractions.{greatest_divisor}
use Rattle.fractions.proofs.Divisors.{euclid, euclid_ends}
use Rattle.fractions.proofs.gcd.Goals as goal

pub loop-y-preserved : goal.loop-y-preserved
loop-y-preserved c =
    let l = c.loop-y in
    euclid l.x l.y c.loop-y-test.true ∙ l.invariant

pub returns : goal.returns
returns c =
    let l = c.loop-y in
    let e = c.loop-y-test.false in
    let none : l.y ≡ 0 = omega (arith, e) in
    sym (euclid_ends l.x) ∙ ap (greatest_divisor l.x) (sym none) ∙ l.invariant
