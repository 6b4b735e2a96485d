use mathlib.Core.Path.{sym}
use Rattle.std.proofs.Common.{arith}
use Rattle.std.proofs.lemmas.List.{take_more}
use Rattle.texts.proofs.Laying.{lays_nothing, lays_then, lays_as}
use Rattle.texts.proofs.Sheet.bytes.Goals as goal

pub loop-b-init : goal.loop-b-init
loop-b-init c = lays_nothing _

pub loop-b-preserved : goal.loop-b-preserved
loop-b-preserved c =
    lays_as (sym (take_more c.args.text.now c.loop-b.b-index 0 c.loop-b-test.true))
    (lays_then (omega arith) c.loop-b.invariant c.byte.ensures)
