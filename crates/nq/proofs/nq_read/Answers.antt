-- `nq::nq_read` meets its contract.
use mathlib.Core.Path.{sym, subst}
use Rattle.numbers.specs.Replies.{Short}
use Rattle.nq.proofs.Shortness.{reading_short}
use Rattle.nq.proofs.nq_read.Goals as goal

pub record_of-requires : goal.record_of-requires
record_of-requires c = subst Short (sym c.read.ensures) (reading_short c.args.bytes.now)
