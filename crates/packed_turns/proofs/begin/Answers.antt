-- `packed_turns::begin` meets its contract.
use native.Mathlib.Omega.{arith}
use mathlib.Core.Path.{◌≡◌, ap, ◌∙◌}
use mathlib.Core.List.{map}
use lib.ListN.{take, set, replicate}
use lib.Seq.{sets}
use Rattle.snapshot.specs.Values.{zero_value}
use Rattle.snapshot.specs.Marks.{none_moved}
use Rattle.unbounded_turns.specs.Steps.{begun_by}
use Rattle.packed.specs.Packing.{pack_view, pack_mark}
use Rattle.packed_turns.proofs.Begun.{placed_to, begun_words}
use Rattle.packed_turns.proofs.begin.Goals as goal

pub returns : goal.returns
unfolding begun_by
returns c =
    let l = c.loop-i in
    let x = c.args in
    let n = x.a.n in
    let all : l.i ≡ n = omega arith in
    let marked = c.lay_marks.ensures ∙ ap (λ ws. sets ws 361 (map pack_mark none_moved)) c.lay_task.ensures in
    let ended = c.lay_end.ensures ∙ ap (λ ws. set ws 344 0) marked in
    let kept = c.lay_kept.ensures ∙ ap (λ ws. sets ws 345 (pack_view (take n (replicate 8 zero_value)))) ended in
    l.invariant ∙ (λ t. placed_to n (c.no_register-none.ensures t) (all t) (kept t))
    ∙ begun_words x.w.now n c.requires.small x.k
