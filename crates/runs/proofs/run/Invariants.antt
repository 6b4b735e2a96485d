-- What is left to come of a run leads to the whole of it, and what is lent keeps its length.
use Prim.Native.Nat.{◌-◌}
use mathlib.Core.Path.{◌≡◌}
use lib.ListN.{length}
use Rattle.runs.proofs.Looped.{whole_from, Goes}
use Rattle.runs.proofs.run.Given as goal

abbrev pub invariant-loop-plan : goal.invariant-loop-plan
invariant-loop-plan g l =
    let give = g.M.Turns.give in
    let told = g.M.Turns.told in
    Goes give told l.plan l.list (whole_from give told l.plan l.list l.initial.at.day l.initial.t l.initial.answers l.initial.pages)
    l.at l.t l.answers l.pages
    × (length l.t ≡ length l.initial.t)
    × (length l.answers ≡ length l.initial.answers)
    × (length l.pages ≡ length l.initial.pages)

abbrev pub decreases-loop-plan : goal.decreases-loop-plan
decreases-loop-plan g l = l.plan.turns - l.at.turns
