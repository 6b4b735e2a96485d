-- `book::notes::next_of` meets its contract.
use Prim.Native.Nat.{◌-◌}
use mathlib.Core.Path.{sym, ◌∙◌}
use native.Mathlib.Omega.{arith}
use lib.ListN.{take, drop, length-take}
use Rattle.dayfile.proofs.Reader.{found_consumes}
use Rattle.book.specs.Passes.{next_after}
use Rattle.book.proofs.notes.next_of.Goals as goal

pub returns : goal.returns
unfolding next_after
returns c =
    let s = c.args.s in
    let part = take (s.end - s.at) (drop s.at c.args.bytes.now) in
    let is = sym c.read.ensures in
    let long = length-take (s.end - s.at) (drop s.at c.args.bytes.now) in
    let low = c.requires.0 in
    (c.read.ensures, λ r k q. let w = found_consumes part r k (is ∙ q) in (omega arith, omega arith))
