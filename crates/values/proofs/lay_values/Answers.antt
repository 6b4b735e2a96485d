-- `values::lay_values` meets its contract: the values that were passed are laid into the list.
use mathlib.Core.Path.{◌≡◌, sym, subst}
use native.Mathlib.Omega.{arith}
use lib.ListN.{length, set, take}
use lib.Seq.{length-take-le}
use Prim.Native.Nat.{◌≤◌, ◌<◌, ◌+◌}
use Rattle.std.proofs.lemmas.List.{get_or-take}
use Rattle.snapshot.specs.declared.Value.{Value}
use Rattle.snapshot.specs.Values.{zero_value}
use Rattle.snapshot.proofs.Values.{LaidTo, laid_one, laid_all}
use Rattle.values.proofs.lay_values.Goals as goal

pub loop-j-preserved : goal.loop-j-preserved
loop-j-preserved c =
    let a = c.args in
    let l = c.loop-j in
    let all : length (take a.n a.values) ≡ a.n = length-take-le a.n a.values (omega arith) in
    let b : l.j < a.n = omega arith in
    subst (λ (v : Value). LaidTo a.n (l.j + 1) a.values a.page.now (set (set l.page l.j v.word) (a.n + l.j) v.last))
    (sym (get_or-take a.n a.values l.j zero_value b)) (laid_one a.n a.values a.page.now c.requires.1 l.j l.page b l.invariant)

pub returns : goal.returns
returns c =
    let a = c.args in
    let l = c.loop-j in
    let few : a.n ≤ length a.values = omega arith in
    let all : l.j ≡ a.n = let q = length-take-le a.n a.values few in omega arith in
    laid_all a.n a.values a.page.now c.requires.1 l.page few
    (subst (λ k. LaidTo a.n k a.values a.page.now l.page) all l.invariant)
