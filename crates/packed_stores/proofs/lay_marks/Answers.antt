-- `packed_stores::lay_marks` meets its contract.
use native.Mathlib.Omega.{arith}
use mathlib.Core.Path.{◌≡◌, ◌∙◌}
use mathlib.Core.List.{map}
use lib.ListN.{length, length-map}
use Rattle.std.proofs.Common.{rules, of_calls}
use Rattle.packed.specs.Packing.{pack_mark}
use Rattle.packed.proofs.Made.{mapped}
use Rattle.packed_stores.proofs.Stored.{copied_over}
use Rattle.packed_stores.proofs.lay_marks.Goals as goal

pub returns : goal.returns
returns c =
    let x = c.args in
    let long : length x.ms ≡ 8 = omega arith in
    copied_over x.w.now c.copy_from_slice.new.self (map pack_mark x.ms) 361 8
    (c.copy_from_slice.ensures.after
    ∙ mapped c.map.ensures.items long pack_mark (λ m r f called. (search of_calls, search (rules, of_calls))))
    (length-map x.ms pack_mark ∙ long) (omega arith)
