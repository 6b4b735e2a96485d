-- `packed_rows::looked_at` meets its contract.
use mathlib.Core.Path.{ap, ◌∙◌}
use Rattle.unbounded_surveys.specs.Surveys.{register_seen, task_seen, surveyed_by}
use Rattle.unbounded_surveys.proofs.Looks.{task_first}
use lib.ListN.{drop}
use Rattle.packed.specs.Packing.{unpack_task, unpack_record}
use Rattle.packed_rows.proofs.looked_at.Goals as goal

pub returns : goal.returns
unfolding unpack_record surveyed_by
returns c =
    let a = c.args in
    let found = c.task_seen-found.ensures ∙ ap (task_seen a.s) c.task_in.ensures in
    c.register_seen.ensures
    ∙ (λ i. register_seen (found i) (c.seq_in.ensures i) (c.at_in.ensures i) (c.last_in.ensures i))
    ∙ task_first a.s (unpack_task (drop 20 a.w.now)) _ _ _
