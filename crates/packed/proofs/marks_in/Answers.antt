-- `packed::marks_in` meets its contract.
use Prim.Native.Nat.{◌+◌, ◌*◌}
use native.Mathlib.Omega.{arith}
use mathlib.Core.Path.{◌≡◌}
use lib.Seq.{get_or-drop}
use Rattle.std.proofs.Common.{rules, of_calls}
use Rattle.packed.specs.Packing.{word_at, unpack_mark}
use Rattle.packed.proofs.Made.{made_unpacked}
use Rattle.packed.proofs.marks_in.Goals as goal

pub returns : goal.returns
returns c =
    let x = c.args in
    made_unpacked {k = 8} c.from_fn.ensures.items (λ ws. unpack_mark (word_at ws 0)) 1 361 x.w.now
    (λ i r f called.
    let e : 361 + 1 * i + 0 ≡ 361 + i = omega arith in
    (search of_calls, rw (get_or-drop, e) (search (rules, of_calls))))
