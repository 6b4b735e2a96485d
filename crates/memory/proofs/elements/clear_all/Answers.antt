use native.Mathlib.Omega.{arith}
use mathlib.Core.Path.{ap, ◌∙◌}
use lib.ListN.{set}
use Rattle.unbounded.specs.Processes.{zero_process}
use Rattle.memory.proofs.Cleared.{cleared_more, cleared_all}
use Rattle.memory.proofs.elements.clear_all.Goals as goal

pub loop-r-preserved : goal.loop-r-preserved
loop-r-preserved g c =
    let l = c.loop-r in
    ap (set l.t l.r-index) c.clear.ensures
    ∙ cleared_more (g.R.Record.form.fresh zero_process) c.args.t.now l.t l.r-index c.loop-r-test.true l.invariant

pub returns : goal.returns
returns g c =
    let l = c.loop-r in
    let within = l.auto.r-index-end in
    let past = c.loop-r-test.false in
    l.invariant ∙ cleared_all (g.R.Record.form.fresh zero_process) c.args.t.now l.r-index (omega arith)
