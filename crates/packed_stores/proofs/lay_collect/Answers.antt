-- `packed_stores::lay_collect` meets its contract.
use Prim.Native.Nat.{◌+◌, ◌*◌}
use native.Mathlib.Numerals.{add-one}
use native.Mathlib.Omega.{arith}
use mathlib.Core.Path.{◌≡◌, sym, ap, ◌∙◌}
use lib.ListN.{length, get_or, take, length-append}
use lib.Seq.{sets}
use Rattle.unbounded.specs.Registers.{no_register}
use Rattle.packed.specs.Packing.{pack_register, pack_collect}
use Rattle.snapshot.proofs.Lists.{sets_then}
use Rattle.packed.proofs.Packing.{register_long}
use Rattle.packed_stores.proofs.Stored.{stored_whole, chained_more}
use Rattle.packed_stores.proofs.lay_collect.Goals as goal

pub loop-i-preserved : goal.loop-i-preserved
loop-i-preserved c =
    let x = c.args in
    let l = c.loop-i in
    let done = pack_collect (take l.i x.rs) in
    let next = pack_register (get_or x.rs l.i no_register) in
    let here : x.a + 20 * l.i ≡ x.a + length done = omega (arith, l.invariant.1) in
    let more = chained_more pack_register no_register x.rs l.i (omega arith)
    ∙ ap (λ k. pack_collect (take k x.rs)) (sym (add-one l.i)) in (
      c.lay_register.ensures.w_after
          ∙ stored_whole l.w (get_or x.rs l.i no_register) (x.a + 20 * l.i) c.lay_register.ensures.view_len
          ∙ (λ i. sets (l.invariant.0 i) (here i) next)
          ∙ sets_then x.w.now x.a done next
          ∙ ap (sets x.w.now x.a) more,
      sym (ap length more) ∙ length-append done next ∙ omega (arith, l.invariant.1, register_long (get_or x.rs l.i no_register) c.lay_register.ensures.view_len),
    )
