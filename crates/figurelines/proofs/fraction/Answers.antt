-- `figurelines::fraction` meets its contract.
use native.Mathlib.Omega.{arith}
use mathlib.Core.List.{append_assoc}
use Rattle.texts.proofs.Laying.{lays_then}
use Rattle.figurelines.proofs.fraction.Goals as goal

pub returns-clause-laid : goal.returns-clause-laid
returns-clause-laid c =
    let all = lays_then (omega arith) c.bytes.ensures c.pair.ensures.laid in
    simp append_assoc all
