-- `packed_turns::decide` meets its contract.
use native.Mathlib.Omega.{arith}
use mathlib.Core.Path.{◌≡◌, sym, ap, ◌∙◌}
use lib.ListN.{length}
use lib.Seq.{sets}
use Rattle.unbounded_finds.specs.Finds.{find_of}
use Rattle.unbounded_turns.specs.Steps.{with_task, state_by}
use Rattle.unbounded_turns.proofs.Steps.{state_went_on}
use Rattle.packed.specs.Packing.{pack_task, packed_over, unpack_record}
use Rattle.packed_turns.proofs.Laid.{task_laid}
use Rattle.packed_turns.proofs.Ended.{scan_ends}
use Rattle.packed_turns.proofs.decide.Goals as goal

pub returns-then-ends : goal.returns-then-ends
returns-then-ends c =
    let x = c.args in
    let ws = x.w.now in
    let p = unpack_record ws in
    let found = c.find_page-f.ensures.value ∙ ap (find_of x.a x.r) c.record_in-p.ensures in
    let ended = sym c.ends.ensures ∙ c.if-ends.true in
    let f = c.find_page-f.result in
    record {
      value = found;
      w_after = c.begin.ensures
          ∙ ap (packed_over ws) (scan_ends x.a x.r p f x.k c.requires.2 ended)
          ∙ ap (λ f. packed_over ws (state_by x.a x.r p f x.k)) found;
    }

pub returns : goal.returns
returns c =
    let x = c.args in
    let ws = x.w.now in
    let p = c.record_in-p in
    let f = c.find_page-f.result in
    let q = c.read in
    let found = c.find_page-f.ensures.value ∙ ap (find_of x.a x.r) p.ensures in
    let goes_on = sym c.ends.ensures ∙ c.if-ends.false in
    let task = c.task_after in
    let view : length q.result.register.view ≡ 8 = omega arith in
    record {
      value = found;
      w_after = c.lay_task.ensures
          ∙ ap (λ l. sets l 20 (pack_task task.result)) c.lay_record.ensures
          ∙ task_laid ws q.result task.result view
          ∙ (λ i. packed_over ws (with_task (task.ensures i) (q.ensures i)))
          ∙ ap (packed_over ws) (state_went_on x.a x.r p.result f x.k goes_on)
          ∙ (λ i. packed_over ws (state_by x.a x.r (p.ensures i) (found i) x.k));
    }
