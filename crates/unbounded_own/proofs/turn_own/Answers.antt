-- A turn that ends its task stores the register, then begins none; any other is a read.
use mathlib.Core.Path.{sym, ap, ◌∙◌}
use Rattle.unbounded.specs.declared.Task.TheVariants.{Idle}
use Rattle.unbounded_turns.specs.Steps.{begun_by}
use Rattle.unbounded_turns.proofs.Parts.{with_register}
use Rattle.unbounded_turns.proofs.Steps.{state_ended, state_went_on}
use Rattle.unbounded_own.proofs.turn_own.Goals as goal

pub returns-then-ends : goal.returns-then-ends
returns-then-ends c =
    let s = c.args in
    let p = s.p.now in
    c.begin_own.ensures
    ∙ ap (λ r. begun_by s.a Idle (with_register r p)) c.written_over-p.ensures
    ∙ state_ended s.a s.r p s.f p.task (sym c.ends.ensures ∙ c.if-ends.true)

pub returns-else-ends : goal.returns-else-ends
returns-else-ends c =
    let s = c.args in
    let p = s.p.now in
    c.read_own.ensures ∙ state_went_on s.a s.r p s.f p.task (sym c.ends.ensures ∙ c.if-ends.false)
