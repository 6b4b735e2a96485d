-- `unbounded_turns::records::end_of` meets its contract.
use mathlib.Core.Path.{sym}
use Rattle.unbounded.proofs.Reading.{end_reads, end_waits}
use Rattle.unbounded_turns.proofs.records.end_of.Goals as goal

pub returns-then-a : goal.returns-then-a
returns-then-a c =
    let s = c.args in let a = s.a in
    sym (end_reads a.n a.pos a.now s.end c.if-a.true)

pub returns-else-a : goal.returns-else-a
returns-else-a c =
    let s = c.args in let a = s.a in
    sym (end_waits a.n a.pos a.now s.end c.if-a.false)
