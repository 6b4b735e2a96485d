-- What the loop of `packed_stores::lay_collect` keeps.
use Prim.Native.Nat.{◌*◌}
use mathlib.Core.Path.{◌≡◌}
use lib.ListN.{length, take}
use lib.Seq.{sets}
use Rattle.packed.specs.Packing.{pack_collect}
use Rattle.packed_stores.proofs.lay_collect.Given as goal

abbrev pub invariant-loop-i : goal.invariant-loop-i
invariant-loop-i l = (l.w ≡ sets l.initial.w l.a (pack_collect (take l.i l.fn.rs))) × (length (pack_collect (take l.i l.fn.rs)) ≡ 20 * l.i)
