-- `runs::lacks_words` meets its contract.
use Rattle.runs.proofs.Halves.{high_lacks}
use Rattle.runs.proofs.lacks_words.Goals as goal

pub returns : goal.returns
returns c =
    let a = c.args in
    high_lacks a.turns a.each a.words c.if-words-low.false
