-- `figures::reckon` meets its contract.
use Prim.Native.Nat.{ℕ, ◌≤◌}
use mathlib.Core.Path.{◌≡◌, refl, sym, ap, ◌∙◌}
use mathlib.Core.List.{List, map}
use mathlib.Core.Bool.{true, false}
use lib.Dec.{ltb}
use lib.ListN.{length, length-map}
use borrow.Author.Tests.{lt-ltb, le-ltb, eq-eqb, ne_eqb}
use Rattle.std.specs.Prelude.{Ok}
use Rattle.figures.specs.Figures.{answer_in}
use Rattle.figures.proofs.Summed.{pages_counted, figures_come, reckoned_by_lem}
use Rattle.figures.proofs.reckon.Goals as goal

few-answers : (rows : List (List ℕ)) → length rows ≤ 65535 → ltb 65535 (length (map answer_in rows)) ≡ false
few-answers rows few = ap (ltb 65535) (length-map rows answer_in) ∙ le-ltb 65535 _ few

pub returns-then-desks-lt1 : goal.returns-then-desks-lt1
returns-then-desks-lt1 c = reckoned_by_lem _ _ true _ _ _ (lt-ltb _ 1 c.if-desks-lt1.true) refl refl refl

pub returns-then-desks-gt8 : goal.returns-then-desks-gt8
returns-then-desks-gt8 c = reckoned_by_lem _ _ false true _ _ (le-ltb _ 1 c.if-desks-lt1.false) (lt-ltb 8 _ c.if-desks-gt8.true) refl refl

pub returns-then-answers-gt-MOST : goal.returns-then-answers-gt-MOST
returns-then-answers-gt-MOST c =
    let a = c.args in
    reckoned_by_lem _ _ false false true _ (le-ltb _ 1 c.if-desks-lt1.false) (le-ltb 8 _ c.if-desks-gt8.false)
    (ap (ltb 65535) (length-map a.answers.now answer_in) ∙ lt-ltb 65535 _ c.if-answers-gt-MOST.true) refl

pub returns-then-s-eq0 : goal.returns-then-s-eq0
returns-then-s-eq0 c =
    let a = c.args in
    let xs = map answer_in a.answers.now in
    reckoned_by_lem a.desks xs false false false true (le-ltb _ 1 c.if-desks-lt1.false)
    (le-ltb 8 _ c.if-desks-gt8.false) (few-answers a.answers.now c.if-answers-gt-MOST.false)
    (eq-eqb _ 0 (sym (pages_counted a.desks _ xs c.sum_up-s.ensures) ∙ c.if-s-eq0.true))

pub returns : goal.returns
returns c =
    let a = c.args in
    let xs = map answer_in a.answers.now in
    let sums = c.sum_up-s.ensures in
    ap Ok (figures_come a.desks _ xs sums _ _ c.lowest.ensures c.lowest-2.ensures)
    ∙ reckoned_by_lem a.desks xs false false false false (le-ltb _ 1 c.if-desks-lt1.false)
    (le-ltb 8 _ c.if-desks-gt8.false) (few-answers a.answers.now c.if-answers-gt-MOST.false)
    (ne_eqb _ 0 (λ z. c.if-s-eq0.false (pages_counted a.desks _ xs sums ∙ z)))
