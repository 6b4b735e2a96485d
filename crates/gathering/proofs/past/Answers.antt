-- `gathering::past` meets its contract.
use mathlib.Core.Path.{sym, ap}
use Rattle.gathering.specs.Laps.{progress_past}
use Rattle.gathering.proofs.past.Goals as goal

pub returns-in-Found : goal.returns-in-Found
unfolding progress_past
returns-in-Found c =
    let a = c.args in
    sym (ap (λ x. progress_past a.s x a.day a.count) c.in-Found.is)

pub returns-in-End : goal.returns-in-End
unfolding progress_past
returns-in-End c =
    let a = c.args in
    sym (ap (λ x. progress_past a.s x a.day a.count) c.in-End.is)

pub returns-in-Refused : goal.returns-in-Refused
unfolding progress_past
returns-in-Refused c =
    let a = c.args in
    sym (ap (λ x. progress_past a.s x a.day a.count) c.in-Refused.is)
