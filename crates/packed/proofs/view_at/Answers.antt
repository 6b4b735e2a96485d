-- `packed::view_at` meets its contract.
use Rattle.std.proofs.Common.{rules, of_calls}
use Rattle.packed.specs.Packing.{unpack_value}
use Rattle.packed.proofs.Made.{made_unpacked}
use Rattle.packed.proofs.view_at.Goals as goal

pub returns : goal.returns
returns c =
    let x = c.args in
    made_unpacked c.from_fn.ensures.items unpack_value 2 x.a x.w.now (λ i r f called. (search of_calls, search (rules, of_calls)))
