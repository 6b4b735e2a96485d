-- `packed_stores::lay_record` meets its contract.
use native.Mathlib.Omega.{arith}
use mathlib.Core.Path.{◌≡◌, ap, ◌∙◌}
use mathlib.Core.List.{map}
use lib.ListN.{length, set}
use lib.Seq.{sets, take_all}
use Rattle.packed.specs.Packing.{pack_view, pack_task, pack_collect, pack_mark}
use Rattle.packed.proofs.Packing.{register_long}
use Rattle.packed_stores.proofs.Stored.{sets_record}
use Rattle.packed_stores.proofs.lay_record.Goals as goal

pub returns : goal.returns
returns c =
    let p = c.args.p in
    let own = c.lay_own.ensures in
    let first = c.lay_collect.ensures in
    let second = c.lay_collect-2.ensures in
    let long : length p.view ≡ 8 = omega arith in
    let after-task = c.lay_task.ensures ∙ ap (λ l. sets l 20 (pack_task p.task)) own.w_after in
    let after_first = first.w_after ∙ ap (λ l. sets l 24 (pack_collect p.first)) after-task in
    let after-second = second.w_after ∙ ap (λ l. sets l 184 (pack_collect p.second)) after_first in
    let after-end = c.lay_end.ensures ∙ ap (λ l. set l 344 p.first_end) after-second in
    let after-view = c.lay_kept.ensures
    ∙ (λ i. sets (after-end i) 345 (pack_view (take_all 8 p.view (omega (arith, long)) i))) in
    c.lay_marks.ensures ∙ ap (λ l. sets l 361 (map pack_mark p.moved)) after-view
    ∙ sets_record c.args.w.now p (register_long p.register own.view_len) first.rs_len second.rs_len long
