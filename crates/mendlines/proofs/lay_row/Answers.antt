-- `mendlines::lay_row` meets its contract.
use native.Mathlib.Omega.{arith}
use Rattle.texts.proofs.Laying.{lays_then, lays_as}
use Rattle.mendlines.proofs.Texts.{drop_text_lem}
use Rattle.mendlines.proofs.lay_row.Goals as goal

pub returns-clause-laid : goal.returns-clause-laid
returns-clause-laid c =
    let first = lays_then (omega arith) c.field.ensures.laid c.field-2.ensures.laid in
    let number = lays_then (omega arith) first c.field-3.ensures.laid in
    lays_as (drop_text_lem _) (lays_then (omega arith) number c.byte.ensures)
