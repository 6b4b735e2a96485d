-- `packed_turns::write` meets its contract.
use mathlib.Core.Path.{refl, ap, ◌∙◌}
use lib.Seq.{sets}
use Rattle.unbounded.specs.Registers.{zero_register}
use Rattle.unbounded.specs.Processes.{begin}
use Rattle.unbounded.specs.declared.Task.TheVariants.{Idle}
use Rattle.unbounded_finds.specs.Finds.{nothing_found}
use Rattle.unbounded_turns.specs.Steps.{begun_by, written_over}
use Rattle.unbounded_turns.proofs.Parts.{with_register}
use Rattle.packed.specs.Packing.{pack_register, packed_over, unpack_record}
use Rattle.packed_turns.proofs.Laid.{own_laid}
use Rattle.packed_turns.proofs.Ended.{write_ends}
use Rattle.packed_turns.proofs.write.Goals as goal

pub returns : goal.returns
unfolding unpack_record begun_by begin
returns c =
    let x = c.args in
    let ws = x.w.now in
    let p = unpack_record ws in
    let own = c.written_over-own in
    let view = c.view_in.ensures in
    let old = c.own_in.ensures in
    c.lay_own.ensures.w_after
    ∙ ap (λ l. sets l 0 (pack_register own.result)) c.begin.ensures
    ∙ own_laid ws (begun_by x.a Idle p) own.result refl c.lay_own.ensures.view_len
    ∙ ap (λ r. packed_over ws (with_register r (begun_by x.a Idle p)))
    (own.ensures ∙ (λ i. written_over x.a (old i) (view i) x.k))
    ∙ ap (packed_over ws) (write_ends x.a zero_register p (nothing_found 0) x.k c.requires.2)
