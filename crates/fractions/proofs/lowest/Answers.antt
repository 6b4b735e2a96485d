-- `fractions::lowest` meets its contract.
use Prim.Native.Nat.{◌/◌}
use native.Mathlib.Nat.{div-zero}
use mathlib.Core.Path.{sym, ap, ◌∙◌}
use Rattle.fractions.specs.Fractions.{lowest_terms}
use Rattle.fractions.proofs.lowest.Goals as goal

pub returns-then-g-eq0 : goal.returns-then-g-eq0
unfolding lowest_terms
returns-then-g-eq0 c =
    let a = c.args in
    let zero = sym c.gcd-g.ensures ∙ c.if-g-eq0.true in
    sym (ap (λ g. record { numerator = a.a / g; denominator = a.b / g }) zero
    ∙ (λ i. record { numerator = div-zero a.a i; denominator = div-zero a.b i }))

pub returns : goal.returns
unfolding lowest_terms
returns c =
    let a = c.args in
    ap (λ g. record { numerator = a.a / g; denominator = a.b / g }) c.gcd-g.ensures
