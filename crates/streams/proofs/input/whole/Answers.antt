-- One read more.
use Rattle.std.proofs.Common.{rules}
use Rattle.streams.proofs.Whole.{one_more}
use Rattle.streams.proofs.input.whole.Goals as goal

pub loop-preserved : goal.loop-preserved
loop-preserved g c =
    let l = c.loop in
    let read = c.read_at-got in
    one_more l.input l.bytes l.counter l.invariant (search rules) (search rules) read.new.bytes read.auto.bytes
    read.ensures.bytes_unchanged read.result read.ensures.at_most c.input_by-input.result c.input_by-input.ensures
