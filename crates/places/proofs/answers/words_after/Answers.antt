-- `places::answers::words_after` meets its contract.
use mathlib.Core.Path.{sym, ap, ◌∙◌}
use Rattle.places.specs.Answers.{words_after}
use Rattle.places.proofs.Kept.{kept_all, kept_called}
use borrow.Author.Rules.{rules}
use Rattle.places.proofs.answers.words_after.Goals as goal

pub returns-in_default : goal.returns-in_default
returns-in_default c = let a = c.args in kept_all a.words a.r a.a c.in_default.not-Called

pub returns-in_default-r : goal.returns-in_default-r
unfolding words_after
returns-in_default-r c =
    let a = c.args in
    kept_called a.words a.r c.in_default-r.not-Update ∙ ap (words_after a.words a.r) (sym c.in-Called.is)

pub returns : goal.returns
unfolding words_after
returns c = search rules
