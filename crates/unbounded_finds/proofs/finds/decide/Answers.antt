-- `unbounded_finds::finds::decide` meets its contract: each way out is a verdict.
use mathlib.Core.Path.{sym, ap, ◌∙◌}
use mathlib.Core.Option.{some}
use native.Mathlib.Omega.{arith}
use Rattle.snapshot.specs.Verdict.{lent}
use Rattle.snapshot.specs.Marks.{lends}
use Rattle.snapshot.proofs.DoubleCollect.{verdict_clean, verdict_lent, verdict_again}
use Rattle.unbounded.specs.Registers.{ascending, differs}
use Rattle.unbounded_finds.specs.Finds.{decision_find}
use Rattle.unbounded_finds.proofs.finds.decide.Goals as goal

pub returns-then-first_moved-n : goal.returns-then-first_moved-n
returns-then-first_moved-n c =
    let a = c.args in
    let d = differs ascending a.a.now a.b.now in
    let first = c.first_moved.ensures in
    rw c.values.ensures
    (sym (ap (λ v. decision_find a.n a.end a.b.now (some v))
    (verdict_clean a.n d (lends d a.moved.now) (sym first ∙ c.if-first_moved-n.true))))

pub returns-then-n-j : goal.returns-then-n-j
returns-then-n-j c =
    let a = c.args in
    let d = differs ascending a.a.now a.b.now in
    let first = c.first_moved.ensures in
    let lender = c.first_lender-j.ensures in
    sym (ap (λ v. decision_find a.n a.end a.b.now (some v))
    (verdict_again a.n d (lends d a.moved.now) (λ q. c.if-first_moved-n.false (first ∙ q)) (omega arith)))

pub returns : goal.returns
returns c =
    let a = c.args in
    let d = differs ascending a.a.now a.b.now in
    let first = c.first_moved.ensures in
    let lender = c.first_lender-j.ensures in
    ap (λ i. decision_find a.n a.end a.b.now (some (lent i))) lender
    ∙ sym (ap (λ v. decision_find a.n a.end a.b.now (some v))
    (verdict_lent a.n d (lends d a.moved.now) (λ q. c.if-first_moved-n.false (first ∙ q)) (omega arith)))
