-- `laps::records::next_of` meets its contract: what is read takes no more bytes than were lent.
use Prim.Native.Nat.{◌-◌}
use mathlib.Core.Path.{sym, ◌∙◌}
use native.Mathlib.Omega.{arith}
use lib.ListN.{drop, length-take}
use Rattle.dayfile.proofs.Reader.{found_consumes, refused_some}
use Rattle.streams.specs.Input.{input_left}
use Rattle.laps.specs.Progress.{next_in}
use Rattle.laps.proofs.records.next_of.Goals as goal

pub returns : goal.returns
unfolding next_in
returns c =
    let a = c.args in
    let i = a.at.input in
    let part = input_left i a.bytes.now in
    let is = sym c.read.ensures in
    let long = length-take (i.end - i.at) (drop i.at a.bytes.now) in
    let low = c.requires.start in (
      c.read.ensures,
      record {
        found = λ r k q. let w = found_consumes part r k (is ∙ q) in (omega arith, omega arith);
        refused = λ k q. let w = refused_some part k (is ∙ q) in omega arith;
      },
    )
