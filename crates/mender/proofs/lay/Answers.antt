-- `mender::lay` meets its contract.
use Prim.Native.Nat.{◌+◌, ◌<◌}
use native.Mathlib.Omega.{arith}
use mathlib.Core.Path.{◌≡◌, sym, ap, ◌∙◌}
use mathlib.Core.List.{[], ◌∷◌, ◌++◌}
use lib.ListN.{length, take, set}
use lib.Seq.{sets, length-take-le}
use Rattle.std.proofs.lemmas.List.{take_more}
use Rattle.snapshot.proofs.Lists.{sets_then}
use Rattle.mender.proofs.Laying.{laid_within}
use Rattle.mender.proofs.lay.Goals as goal

pub loop-i-preserved : goal.loop-i-preserved
loop-i-preserved g c =
    let part = c.args.part.now in
    let room = c.args.room.now in
    let first = c.min-first.result in
    let i = c.loop-i.i in
    let x = c.index-part-i in
    let fits = c.min-fits.ensures in
    let below : i < length part = omega (arith, fits) in
    let done = take i part in
    let long = length-take-le i part (omega arith) in
    let here : first + i ≡ first + length done = omega (arith, long) in
    (λ t. set (c.loop-i.invariant t) (here t) x.result)
    ∙ sets_then room first done (x.result ∷ [])
    ∙ ap (sets room first) (ap (λ y. done ++ (y ∷ [])) x.is ∙ sym (take_more part i x.result below))

pub returns : goal.returns
returns g c =
    let a = c.args in
    let first = c.min-first in
    let fits = c.min-fits in
    let all : c.loop-i.i ≡ fits.result = omega arith in
    c.loop-i.invariant
    ∙ ap (λ k. sets a.room.now first.result (take k a.part.now)) all
    ∙ laid_within a.part.now a.room.now a.at first.result fits.result first.ensures fits.ensures
