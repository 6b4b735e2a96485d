-- What the loop of `figures::sum_up` keeps.
use mathlib.Core.Path.{◌≡◌}
use mathlib.Core.List.{map}
use lib.ListN.{drop}
use Rattle.figures.specs.Figures.{answer_in}
use Rattle.figures.specs.Sums.{no_sums, sums_from, SumsOf}
use Rattle.figures.proofs.sum_up.Given as goal

abbrev pub invariant-loop-answer : goal.invariant-loop-answer
invariant-loop-answer l = SumsOf l.answer-index l.s
    × (sums_from l.desks l.s (map answer_in (drop l.answer-index l.answers)) ≡ sums_from l.desks no_sums (map answer_in l.answers))
