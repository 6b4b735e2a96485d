use Prim.Native.Nat.{◌+◌, ◌*◌, ◌≤◌}
use mathlib.Core.List.{map, ◌++◌}
use lib.ListN.{length, take}
use Rattle.texts.specs.Laying.{spaced, Lays}
use Rattle.texts.proofs.Sheet.list.Given as goal

-- the text and the numbers so far are laid
abbrev pub invariant-loop-n : goal.invariant-loop-n
invariant-loop-n g l = (l.self.at ≤ l.fn.self.at + length l.text + (g.N.Number.MOST + 1) * l.n-index) × Lays l.fn.self (l.text ++ spaced (map g.N.Number.numeral (take l.n-index l.ns))) l.self
