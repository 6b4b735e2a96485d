-- `packed_stores::lay_register` meets its contract.
use Prim.Native.Nat.{◌+◌, ◌-◌}
use native.Mathlib.Omega.{arith}
use mathlib.Core.Path.{refl, sym, ap, ◌∙◌}
use mathlib.Core.List.{[], ◌∷◌}
use lib.ListN.{set, take}
use lib.Seq.{sets}
use Rattle.packed.specs.Packing.{pack_view, stored_at}
use Rattle.packed.proofs.Words.{sets_next}
use Rattle.packed_stores.proofs.Stored.{copied_over}
use Rattle.packed_stores.proofs.lay_register.Goals as goal

pub returns-clause-w_after : goal.returns-clause-w_after
unfolding stored_at
returns-clause-w_after c =
    let x = c.args in
    let head = x.r.value.word ∷ x.r.value.last ∷ x.r.seq ∷ [] in
    let view = pack_view (take x.n x.r.view) in
    let copied = copied_over x.w.now c.copy_from_slice.new.self head x.a (x.a + 3 - x.a) c.copy_from_slice.ensures.after
    (omega arith) (omega arith) in
    ap (λ l. set l (x.a + 19) x.r.at)
    (c.lay_view.ensures ∙ ap (λ l. sets l (x.a + 3) view) copied ∙ sym (sets_next x.w.now x.a head view (x.a + 3) refl))
