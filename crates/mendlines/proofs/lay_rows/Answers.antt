-- `mendlines::lay_rows` meets its contract.
use native.Mathlib.Omega.{arith}
use mathlib.Core.List.{[]}
use Rattle.texts.proofs.Laying.{lays_nothing, lays_more}
use Rattle.mendlines.specs.DropText.{row_text}
use Rattle.mendlines.proofs.lay_rows.Goals as goal

pub loop-row-init : goal.loop-row-init
loop-row-init c = (omega arith, lays_nothing _)

pub loop-row-preserved : goal.loop-row-preserved
loop-row-preserved c = (
  omega arith,
  lays_more row_text _ c.loop-row.row-index [] c.loop-row-test.true (omega arith) c.loop-row.invariant.1 c.lay_row.ensures.laid,
)
