-- `gathering::put` meets its contract.
use mathlib.Core.Path.{ap}
use Rattle.gathering.specs.Answers.{page_answers}
use Rattle.gathering.proofs.Putting.{full_stays, one_more}
use Rattle.gathering.proofs.put.Goals as goal

pub returns-then-answers-count : goal.returns-then-answers-count
returns-then-answers-count c =
    let a = c.args in
    full_stays a.answers.now a.count _ c.if-answers-count.true _ (ap (page_answers a.o.day.count) c.in-Page.is)

pub returns : goal.returns
returns c =
    let a = c.args in
    one_more a.answers.now a.count _ c.if-answers-count.false _ (ap (page_answers a.o.day.count) c.in-Page.is)
