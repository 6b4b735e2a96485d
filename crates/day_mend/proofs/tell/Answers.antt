-- The lines of the rows lie at the front, and are written from there.
use Rattle.std.proofs.Common.{sym, subst, rules, arith}
use Rattle.std.proofs.Math.Seq.{length-take-le}
use Rattle.streams.specs.System.{IsSent}
use Rattle.texts.proofs.Laying.{laid_start}
use Rattle.day_mend.proofs.Passed.{told_by}
use Rattle.day_mend.proofs.tell.Goals as goal

pub slice_bounds-write_to-end : goal.slice_bounds-write_to-end
slice_bounds-write_to-end c = (laid_start c.lay_rows-n.ensures).1

pub slice_bounds-write_to-end-2 : goal.slice_bounds-write_to-end-2
slice_bounds-write_to-end-2 c =
    let room = length-take-le c.lay_rows-n.result c.lay_rows-n.new.out (laid_start c.lay_rows-n.ensures).1 in
    omega (arith, room)

pub returns : goal.returns
returns c =
    told_by c.args.telling _ c.is_ok.result (search rules)
    (subst (λ ls. IsSent ls c.is_ok.result) (laid_start c.lay_rows-n.ensures).0
    (subst (IsSent _) (sym c.is_ok.ensures.value) c.write_to-sent.ensures))
