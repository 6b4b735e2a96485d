-- `figurelines::lay` meets its contract.
use borrow.Author.Rules.{rules}
use Rattle.figurelines.proofs.Texts.{nothing_laid, all_laid}
use Rattle.figurelines.proofs.lay.Goals as goal

pub returns-then-out-lt-LONGEST : goal.returns-then-out-lt-LONGEST
returns-then-out-lt-LONGEST c =
    let a = c.args in
    nothing_laid a.desks a.reckoning a.out.now c.if-out-lt-LONGEST.true

pub returns : goal.returns
returns c =
    let a = c.args in
    let laid = c.lay_reckoning.ensures in
    all_laid a.desks a.reckoning a.out.now c.if-out-lt-LONGEST.false (search rules)
