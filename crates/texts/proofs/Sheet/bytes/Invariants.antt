use lib.ListN.{take}
use Rattle.texts.specs.Laying.{Lays}
use Rattle.texts.proofs.Sheet.bytes.Given as goal

-- the bytes so far are laid
abbrev pub invariant-loop-b : goal.invariant-loop-b
invariant-loop-b l = Lays l.fn.self (take l.b-index l.text) l.self
