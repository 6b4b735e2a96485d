-- Each write takes the first of what is left, or nothing; in the end all are taken.
use Rattle.std.proofs.Common.{◌∙◌, ap, sym, subst, rules, arith, true, false}
use lib.ListN.{length-drop}
use borrow.Author.Tests.{eq-eqb, ne_eqb}
use Rattle.std.proofs.lemmas.List.{take_all}
use Rattle.streams.proofs.Transfers.{Leaves, leaves_less, leaves_same, sent_not, sent_so}
use Rattle.streams.proofs.output.write_to.Goals as goal
use Rattle.streams.proofs.output.write_to.Goals.{in-Ok, in-Err-Interrupted}

pub returns-in-Err-Failed : goal.returns-in-Err-Failed
returns-in-Err-Failed g c = sent_not c.args.out.now c.loop.rest.now c.loop.invariant

pub loop-preserved : goal.loop-preserved
loop-preserved g c =
    let bs = c.args.out.now in
    let l = c.loop in
    elim c.match-write_some.branch [
      | in-Ok w ↦
          leaves_less bs l.rest.now l.invariant w.in-Ok.k c.match-write_some.rest.now
          (ap (λ r. r.now) w.rest-is ∙ take_all _ _ (omega (arith, length-drop w.in-Ok.k l.rest.now)))
      | in-Err-Interrupted w ↦ subst (λ r. Leaves bs r.now) (sym w.rest-is) (leaves_same bs l.rest.now l.invariant)
    ]

pub returns-then-is_empty-2 : goal.returns-then-is_empty-2
returns-then-is_empty-2 g c = sent_so c.args.out.now c.loop.rest.now c.loop.invariant true (sym (eq-eqb _ 0 (search rules)))

pub returns-else-is_empty-2 : goal.returns-else-is_empty-2
returns-else-is_empty-2 g c = sent_so c.args.out.now c.loop.rest.now c.loop.invariant false (sym (ne_eqb _ 0 (search rules)))
