-- `packed_turns::go_on` meets its contract.
use Prim.Native.Nat.{◌+◌, ◌*◌}
use mathlib.Core.Path.{ap, ◌∙◌}
use mathlib.Core.List.{map}
use lib.ListN.{set}
use lib.Seq.{sets}
use Rattle.unbounded.specs.Turns.{end_after}
use Rattle.unbounded_tasks.specs.Tasks.{task_by}
use Rattle.packed.specs.Packing.{stored_at, pack_task, pack_mark, unpack_record}
use Rattle.packed_turns.proofs.Went.{went_on}
use Rattle.packed_turns.proofs.go_on.Goals as goal

pub returns : goal.returns
unfolding unpack_record
returns c =
    let x = c.args in
    let a = x.a in
    let task = c.task_after.ensures ∙ ap (λ f. task_by f x.k) c.nothing_found.ensures in
    let end = c.end_of-end.ensures ∙ ap (end_after a.n a.pos a.now) c.end_in.ensures in
    let laid = c.lay_task.ensures ∙ ap (λ k. sets x.w.now 20 (pack_task k)) task in
    let marked = c.lay_marks.ensures ∙ (λ i. sets (laid i) 361 (map pack_mark (c.marks_in-moved.ensures i))) in
    let ended = c.lay_end.ensures ∙ (λ i. set (marked i) 344 (end i)) in
    c.lay_place.ensures.w_after
    ∙ (λ i. stored_at a.n x.r (24 + 20 * c.place_in.ensures.value i) (ended i))
    ∙ went_on a c.requires.0 x.r c.lay_place.ensures.view_len x.w.now x.k c.requires.2
