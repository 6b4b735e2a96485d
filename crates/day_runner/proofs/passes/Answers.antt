-- One pass more.
use Rattle.std.proofs.Common.{rules}
use Rattle.day_runner.proofs.Passing.{made_more}
use Rattle.day_runner.proofs.passes.Goals as goal

pub loop-preserved : goal.loop-preserved
loop-preserved c =
    let l = c.loop in
    let p = c.pass-ran in
    record {
      rests = p.ensures.rests;
      made = made_more l.counter _ _ (search rules) l.invariant.made p.ensures.pass;
    }
