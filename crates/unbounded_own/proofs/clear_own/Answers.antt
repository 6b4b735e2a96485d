-- The first places of both collects are cleared.
use mathlib.Core.Path.{ap, ◌∙◌}
use mathlib.Core.List.{◌++◌}
use lib.ListN.{drop}
use Rattle.unbounded_turns.specs.Steps.{cleared_both}
use Rattle.unbounded_turns.proofs.Parts.{with_first, with_second}
use Rattle.unbounded_own.proofs.Clearing.{cleared_is}
use Rattle.unbounded_own.proofs.clear_own.Goals as goal

pub returns : goal.returns
unfolding cleared_both
returns c =
    let n = c.args.n in
    let p = c.args.p.now in
    let first = ap (λ x. x ++ drop n p.first) c.clear.ensures ∙ cleared_is n p.first in
    let second = ap (λ x. x ++ drop n p.second) c.clear-2.ensures ∙ cleared_is n p.second in
    λ t. with_second (second t) (with_first (first t) p)
