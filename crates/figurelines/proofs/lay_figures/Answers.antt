-- `figurelines::lay_figures` meets its contract.
use native.Mathlib.Omega.{arith}
use Rattle.texts.proofs.Laying.{lays_then, lays_as}
use Rattle.figurelines.proofs.Texts.{figures_text_lem}
use Rattle.figurelines.proofs.lay_figures.Goals as goal

pub returns : goal.returns
returns c =
    let pages = lays_then (omega arith) c.field.ensures.laid c.field-2.ensures.laid in
    let mean = lays_then (omega arith) pages c.fraction.ensures.laid in
    let borrowed = lays_then (omega arith) mean c.fraction-2.ensures.laid in
    let largest = lays_then (omega arith) borrowed c.field-3.ensures.laid in
    lays_as (figures_text_lem c.args.f c.from.ensures c.from-2.ensures) (lays_then (omega arith) largest c.byte.ensures)
