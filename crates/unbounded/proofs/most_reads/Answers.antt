-- `unbounded::most_reads` meets its contract: within 1 to 8 by the table's rule.
use borrow.Author.Tests.{le-ltb}
use Rattle.unbounded.proofs.Limits.{table_rule}
use Rattle.unbounded.proofs.most_reads.Goals as goal

pub returns : goal.returns
returns c =
    simp (le-ltb _ _ c.if-n-lt1.false, le-ltb _ _ c.if-n-gt8.false)
    (table_rule c.args.n c.if-n-lt1.false c.if-n-gt8.false)
