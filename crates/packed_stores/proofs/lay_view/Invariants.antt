-- What the loop of `packed_stores::lay_view` keeps.
use mathlib.Core.Path.{◌≡◌}
use lib.ListN.{take}
use lib.Seq.{sets}
use Rattle.packed.specs.Packing.{pack_view}
use Rattle.packed_stores.proofs.lay_view.Given as goal

abbrev pub invariant-loop-i : goal.invariant-loop-i
invariant-loop-i l = l.w ≡ sets l.initial.w l.a (pack_view (take l.i l.fn.v))
