-- `packed_stores::lay_task` meets its contract.
use native.Mathlib.Omega.{arith}
use mathlib.Core.Path.{◌≡◌, sym, ap, ◌∙◌}
use Rattle.packed.specs.Packing.{pack_task}
use Rattle.packed.proofs.Packing.{task_long}
use Rattle.packed_stores.proofs.Stored.{copied_over}
use Rattle.packed_stores.proofs.lay_task.Goals as goal
use Rattle.packed_stores.proofs.lay_task.Goals.{in-Idle, in-Scan, in-Update, in-Ready}

pub returns : goal.returns
returns c =
    let x = c.args in
    let words : c.match-k.words ≡ pack_task x.k =
    elim c.match-k.branch [
      | in-Idle w ↦ w.words-is ∙ ap pack_task (sym w.in-Idle.is)
      | in-Scan w ↦ w.words-is ∙ ap pack_task (sym w.in-Scan.is)
      | in-Update w ↦ w.words-is ∙ ap pack_task (sym w.in-Update.is)
      | in-Ready w ↦ w.words-is ∙ ap pack_task (sym w.in-Ready.is)
    ] in
    copied_over x.w.now c.copy_from_slice.new.self (pack_task x.k) 20 4 (c.copy_from_slice.ensures.after ∙ words) (task_long x.k) (omega arith)
