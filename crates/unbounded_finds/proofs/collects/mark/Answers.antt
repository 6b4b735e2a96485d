-- `unbounded_finds::collects::mark` meets its contract: the processes that were passed are marked as the search marks them.
use mathlib.Core.Path.{sym, ap, ◌∙◌}
use mathlib.Core.Bool.{Bool, true, cond}
use mathlib.Core.List.{List}
use lib.ListN.{set}
use Rattle.snapshot.specs.Marks.{with_moved, mark_from}
use Rattle.unbounded.specs.Registers.{ascending, differs}
use Rattle.unbounded.proofs.Moved.{same_seqs, other_seqs}
use Rattle.snapshot.proofs.Marks.{marks_more}
use Rattle.unbounded_finds.proofs.collects.mark.Goals as goal
use Rattle.unbounded_finds.proofs.collects.mark.Goals.{then-a-j, else-a-j}

pub loop-j-preserved : goal.loop-j-preserved
unfolding with_moved
loop-j-preserved c =
    let a = c.args in
    let l = c.loop-j in
    let f = differs ascending a.a.now a.b.now in
    let y = mark_from f l.j 0 a.ms.now in
    let more = marks_more f l.j a.ms.now in
    let marked : Bool → List Bool = λ t. cond t (with_moved y l.j) y in
    elim c.if-a-j.branch [
      | then-a-j w ↦ w.ms-is ∙ ap (λ x. set x l.j true) l.invariant
          ∙ sym (more ∙ ap marked (other_seqs ascending a.a.now a.b.now l.j w.if-a-j.true))
      | else-a-j w ↦ w.ms-is ∙ l.invariant
          ∙ sym (more ∙ ap marked (same_seqs ascending a.a.now a.b.now l.j w.if-a-j.false))
    ]
