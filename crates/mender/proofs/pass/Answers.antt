-- `mender::pass` meets its contract.
use native.Mathlib.Omega.{arith}
use mathlib.Core.Path.{◌≡◌, ◌∙◌}
use lib.ListN.{length}
use Rattle.mender.proofs.Passing.{pass_then, pass_steady}
use Rattle.mender.proofs.pass.Goals as goal

pub loop-i-preserved : goal.loop-i-preserved
loop-i-preserved c =
    let l = c.loop-i in
    let lap = c.lap-p in
    let t-long : length lap.new.t ≡ length l.t = omega arith in
    let page-long : length lap.new.page ≡ length l.page = omega arith in
    let room-long : length lap.new.room ≡ length l.room = omega arith in
    let rows_long : length lap.new.rows ≡ length l.rows = omega arith in (
      pass_then l.invariant.0 lap.ensures,
      pass_steady lap.ensures l.invariant.1,
      t-long ∙ l.invariant.2,
      page-long ∙ l.invariant.3,
      room-long ∙ l.invariant.4,
      rows_long ∙ l.invariant.5,
    )
