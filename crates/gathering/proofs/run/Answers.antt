-- `gathering::run` meets its contract.
use native.Mathlib.Omega.{arith}
use mathlib.Core.Path.{◌≡◌, ◌∙◌}
use lib.ListN.{length}
use borrow.Author.Tests.{not-true}
use Rattle.gathering.proofs.Passing.{lap_keeps}
use Rattle.gathering.proofs.run.Goals as goal

pub loop-s-smaller : goal.loop-s-smaller
loop-s-smaller c =
    let l = c.loop-s in
    (lap_keeps l.s _ l.t l.page l.answers (not-true _ c.loop-s-test.true) l.invariant.0 c.lap-s.ensures).less

pub loop-s-preserved : goal.loop-s-preserved
loop-s-preserved c =
    let l = c.loop-s in
    let lap = c.lap-s in
    let k = lap_keeps l.s _ l.t l.page l.answers (not-true _ c.loop-s-test.true) l.invariant.0 c.lap-s.ensures in
    let t-long : length lap.new.t ≡ length l.t = omega arith in
    let page-long : length lap.new.page ≡ length l.page = omega arith in
    let answers-long : length lap.new.answers ≡ length l.answers = omega arith in (
      k.within,
      t-long ∙ l.invariant.1,
      lap.ensures.after.long,
      page-long ∙ l.invariant.3,
      answers-long ∙ l.invariant.4,
      k.gathers ∙ l.invariant.5,
      k.ends ∙ l.invariant.6,
    )
