-- `unbounded_finds::collects::first_lender` meets its contract.
use mathlib.Core.Path.{ap, ◌∙◌}
use native.Mathlib.Omega.{arith}
use Rattle.std.specs.Option.{unwrap_or}
use Rattle.unbounded_finds.proofs.Firsts.{lender_first}
use Rattle.unbounded_finds.proofs.collects.first_lender.Goals as goal

pub returns : goal.returns
returns c =
    let s = c.args in
    c.unwrap_or.ensures ∙ ap (λ o. unwrap_or o s.n) c.lender_in.ensures
    ∙ lender_first s.n s.a.now s.b.now (omega arith) (omega arith) s.ms.now (omega arith)
