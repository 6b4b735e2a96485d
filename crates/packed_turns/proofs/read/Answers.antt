-- `packed_turns::read` meets its contract.
use mathlib.Core.Path.{ap, ◌∙◌}
use Rattle.unbounded_turns.specs.Steps.{state_by}
use Rattle.packed.specs.Packing.{packed_over, unpack_record}
use Rattle.packed_turns.proofs.Went.{nothing_yet}
use Rattle.packed_turns.proofs.read.Goals as goal

pub returns : goal.returns
returns c =
    let x = c.args in
    let p = unpack_record x.w.now in
    let none = nothing_yet x.a x.r p c.if-a.false in
    record {
      value = c.nothing_found.ensures ∙ none;
      w_after = c.go_on.ensures ∙ ap (λ f. packed_over x.w.now (state_by x.a x.r p f x.k)) none;
    }
