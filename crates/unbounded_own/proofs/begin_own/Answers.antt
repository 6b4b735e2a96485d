-- The collects are cleared, then the view, the marks and the end of the first collect are stored, then the task.
use mathlib.Core.Path.{ap, ◌∙◌}
use lib.ListN.{replicate}
use Rattle.snapshot.specs.Lists.{over}
use Rattle.snapshot.specs.Values.{zero_value}
use Rattle.snapshot.specs.Marks.{none_moved}
use Rattle.unbounded_turns.specs.Steps.{with_task}
use Rattle.unbounded_turns.proofs.Parts.{with_end, with_marks, with_view}
use Rattle.unbounded_turns.proofs.Steps.{begun_in_parts}
use Rattle.unbounded_own.proofs.begin_own.Goals as goal

pub returns : goal.returns
returns c =
    let s = c.args in
    let cleared = c.clear_own.ensures in
    let view = c.over_values-p.ensures ∙ ap (λ q. over s.a.n (replicate 8 zero_value) q.view) cleared in
    (λ t. with_task s.k (with_end 0 (with_marks none_moved (with_view (view t) (cleared t)))))
    ∙ begun_in_parts s.a s.k s.p.now
