-- `packed_stores::lay_view` meets its contract.
use Prim.Native.Nat.{suc, ◌+◌, ◌*◌}
use native.Mathlib.Numerals.{add-one}
use native.Mathlib.Omega.{arith}
use mathlib.Core.Path.{◌≡◌, sym, ap, ◌∙◌}
use lib.ListN.{length, get_or, take, set}
use lib.Seq.{sets}
use Rattle.snapshot.specs.Values.{zero_value}
use Rattle.packed.specs.Packing.{pack_value, pack_view}
use Rattle.snapshot.proofs.Lists.{sets_then}
use Rattle.packed_stores.proofs.Stored.{chained_more, shown_long}
use Rattle.packed_stores.proofs.lay_view.Goals as goal

pub returns : goal.returns
returns c =
    let x = c.args in
    let all : c.loop-i.i ≡ x.n = omega arith in
    c.loop-i.invariant ∙ ap (λ k. sets x.w.now x.a (pack_view (take k x.v))) all

pub loop-i-preserved : goal.loop-i-preserved
loop-i-preserved c =
    let x = c.args in
    let l = c.loop-i in
    let v = get_or x.v l.i zero_value in
    let done = pack_view (take l.i x.v) in
    let place = x.a + 2 * l.i in
    let long = shown_long l.i x.v (omega arith) in
    let here : place ≡ x.a + length done = omega (arith, long) in
    let after : place + 1 ≡ suc place = omega arith in
    (λ i. set (set (l.invariant i) place v.word) (after i) v.last)
    ∙ ap (λ k. sets (sets x.w.now x.a done) k (pack_value v)) here
    ∙ sets_then x.w.now x.a done (pack_value v)
    ∙ ap (sets x.w.now x.a) (chained_more pack_value zero_value x.v l.i (omega arith))
    ∙ ap (λ k. sets x.w.now x.a (pack_view (take k x.v))) (sym (add-one l.i))
