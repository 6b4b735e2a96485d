-- `gathering::lap` meets its contract.
use Prim.Native.Nat.{◌<◌}
use native.Mathlib.Omega.{arith}
use mathlib.Core.Path.{sym, ap, ◌∙◌}
use lib.ListN.{length, drop, length-drop}
use Rattle.dayfile.proofs.Reader.{found_consumes}
use Rattle.dayfile.specs.Reader.{reading}
use Rattle.snapshot.proofs.Lists.{from_at}
use Rattle.gathering.proofs.lap.Goals as goal

pub past-requires : goal.past-requires
past-requires c r k q =
    let bytes = c.args.bytes.now in
    let at = c.args.s.at in
    let took = found_consumes (drop at bytes) r k (sym (c.read-x.ensures ∙ ap reading (from_at at bytes)) ∙ q) in
    let long = length-drop at bytes in
    let small : length bytes < 18446744073709551616 = omega (arith, c.well_formed) in
    let inside = c.requires.0 in
    omega (arith, took, long, small, inside)
