-- What the loop of `mender::pass` keeps.
use mathlib.Core.Path.{◌≡◌}
use lib.ListN.{length}
use Rattle.mender.specs.Passes.{Steady, stage, IsPass}
use Rattle.mender.proofs.pass.Given as goal

abbrev pub invariant-loop-i : goal.invariant-loop-i
invariant-loop-i l = IsPass l.bytes l._i (stage l.initial.p l.initial.t l.initial.page l.initial.room l.initial.rows) (stage l.p l.t l.page l.room l.rows)
    × Steady l.p
    × (length l.t ≡ 8)
    × (length l.page ≡ length l.initial.page)
    × (length l.room ≡ length l.initial.room)
    × (length l.rows ≡ length l.initial.rows)
