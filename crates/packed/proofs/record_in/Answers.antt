-- `packed::record_in` meets its contract.
use Rattle.packed.specs.Packing.{unpack_record}
use Rattle.packed.proofs.record_in.Goals as goal

pub returns : goal.returns
unfolding unpack_record
returns c =
    λ i. record {
      register = c.own_in.ensures i;
      task = c.task_in.ensures i;
      first = c.collect_at.ensures i;
      second = c.collect_at-2.ensures i;
      first_end = c.end_in.ensures i;
      view = c.view_in.ensures i;
      moved = c.marks_in.ensures i;
    }
