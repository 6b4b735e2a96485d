-- The read is stored part by part: the register in its collect, the end of the first, what is kept, then the marks.
use mathlib.Core.Path.{ap, ◌∙◌}
use Rattle.unbounded.specs.Turns.{end_after}
use Rattle.unbounded_turns.specs.Steps.{kept_by, marked_by}
use Rattle.unbounded_turns.proofs.Parts.{with_end}
use Rattle.unbounded_turns.proofs.Steps.{read_in_parts}
use Rattle.unbounded_turns.proofs.records.read_in.Goals as goal

pub returns : goal.returns
returns c =
    let s = c.args in
    let a = s.a in
    let collected = c.collect.ensures in
    let end = c.end_of-p.ensures ∙ ap (λ q. end_after a.n a.pos a.now q.first_end) collected in
    let kept = c.keep.ensures ∙ (λ t. kept_by a s.f s.k (with_end (end t) (collected t))) in
    c.mark.ensures ∙ ap (marked_by s.f) kept ∙ read_in_parts a s.r s.p.now s.f s.k
