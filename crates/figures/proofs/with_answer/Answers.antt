-- `figures::with_answer` meets its contract.
use native.Mathlib.Omega.{arith}
use mathlib.Core.Path.{sym, ap, ◌∙◌}
use mathlib.Core.Bool.{cond}
use lib.ListN.{get_or}
use borrow.Author.Tests.{eq-eqb, ne_eqb}
use Rattle.figures.specs.Sums.{with_page, with_answer}
use Rattle.figures.proofs.with_answer.Goals as goal

pub returns-then-answer-desks : goal.returns-then-answer-desks
unfolding with_answer
returns-then-answer-desks c =
    let a = c.args in
    record {
      value = sym (ap (λ b. cond b (with_page a.s (get_or a.answer.now 1 0) (get_or a.answer.now 2 0)) a.s) (ne_eqb _ _ c.if-answer-desks.true));
      grown = record { pages = omega arith; turns = omega arith; borrowed = omega arith };
    }

pub returns : goal.returns
unfolding with_answer
returns c =
    let a = c.args in
    let page = c.with_page.ensures in
    record {
      value = page.value ∙ sym (ap (λ b. cond b (with_page a.s (get_or a.answer.now 1 0) (get_or a.answer.now 2 0)) a.s)
          (eq-eqb _ _ c.if-answer-desks.false));
      grown = page.grown;
    }
