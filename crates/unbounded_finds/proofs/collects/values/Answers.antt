-- `unbounded_finds::collects::values` meets its contract: the values that were passed are laid over zeros.
use mathlib.Core.Path.{◌≡◌, ap, ◌∙◌}
use native.Mathlib.Omega.{arith}
use lib.ListN.{get_or, set, replicate, take}
use lib.Seq.{length-take-le}
use Rattle.std.proofs.lemmas.List.{get_or-take}
use Rattle.snapshot.specs.Lists.{over}
use Rattle.snapshot.specs.Values.{zero_value}
use Rattle.snapshot.proofs.Lists.{over_more}
use Rattle.unbounded.specs.Registers.{no_register, ascending, page_of, value}
use Rattle.unbounded.proofs.Places.{page_of_long, page_of_at}
use Rattle.unbounded_finds.proofs.collects.values.Goals as goal

pub loop-j-preserved : goal.loop-j-preserved
loop-j-preserved c =
    let n = c.args.n in
    let rs = c.args.rs.now in
    let l = c.loop-j in
    let s = page_of ascending n rs in
    let long = length-take-le n rs (omega arith) in
    let e = replicate 8 zero_value in
    ap (λ x. set x l.j (value (get_or (take n rs) l.j no_register))) l.invariant
    ∙ ap (λ r. set (over l.j s e) l.j (value r)) (get_or-take n rs l.j no_register (omega arith))
    ∙ ap (λ v. set (over l.j s e) l.j v) (page_of_at ascending n rs l.j (omega arith))
    ∙ over_more l.j s e zero_value (let q = page_of_long ascending n rs in omega arith) (omega arith)

pub returns : goal.returns
returns c =
    let n = c.args.n in
    let rs = c.args.rs.now in
    let l = c.loop-j in
    let long = length-take-le n rs (omega arith) in
    let all : l.j ≡ n = omega arith in
    l.invariant ∙ ap (λ k. over k (page_of ascending n rs) (replicate 8 zero_value)) all
