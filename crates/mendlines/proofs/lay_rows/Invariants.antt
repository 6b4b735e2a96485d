-- What the loop of `mendlines::lay_rows` keeps: the lines of the rows so far are laid.
use Prim.Native.Nat.{◌*◌, ◌≤◌}
use lib.ListN.{take}
use Rattle.texts.specs.Laying.{Lays}
use Rattle.mendlines.specs.DropText.{longest_drop, rows_text}
use Rattle.mendlines.proofs.lay_rows.Given as goal

abbrev pub invariant-loop-row : goal.invariant-loop-row
invariant-loop-row l = (l.sheet.at ≤ longest_drop * l.row-index) × Lays l.initial.sheet (rows_text (take l.row-index l.rows)) l.sheet
