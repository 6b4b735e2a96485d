use Rattle.std.proofs.Common.{arith}
use Rattle.texts.proofs.Laying.{lays_then}
use Rattle.texts.proofs.Sheet.field.Goals as goal

pub returns-clause-laid : goal.returns-clause-laid
returns-clause-laid g c = lays_then (omega arith) c.bytes.ensures c.number.ensures.laid
