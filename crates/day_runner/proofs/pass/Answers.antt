-- Whatever the read gave there is room for its lines, and the pass is a pass of the specification.
use Rattle.std.proofs.Common.{take, sym, subst, rules}
use Rattle.streams.specs.System.{IsSent}
use Rattle.streams.specs.Input.{Within}
use Rattle.day_runner.proofs.Passing.{refilled_can_lay, lay_in, pass_is, pass_rests}
use Rattle.day_runner.proofs.pass.Goals as goal

pub run-ran-requires : goal.run-ran-requires
run-ran-requires c =
    let refill = c.refill-input in
    let within = subst (Within refill.result) (search rules) refill.ensures.0 in
    lay_in (refilled_can_lay c.args.r.progress 6138 278528 16 c.requires.0 refill.result within
    c.refilled-ready.result.progress c.refilled-ready.ensures.0) _ _ _ (search rules) (search rules) (search rules)

pub returns-clause-rests : goal.returns-clause-rests
returns-clause-rests c =
    let b = c.args.b.now in
    let refill = c.refill-input in
    let ready = c.refilled-ready in
    let run = c.run-ran in
    let end = c.flushed in
    pass_rests c.args.r ready.result run.result end.result refill.result b.bytes refill.new.bytes b.page b.out run.new.page
    run.new.out c.is_ok.result c.requires.0 c.requires.1 (search rules) ready.ensures.0
    run.ensures.can_lay run.ensures.out_after end.ensures.0

pub returns-clause-pass : goal.returns-clause-pass
returns-clause-pass c =
    let b = c.args.b.now in
    let refill = c.refill-input in
    let ready = c.refilled-ready in
    let run = c.run-ran in
    let end = c.flushed in
    pass_is c.args.r ready.result run.result end.result refill.result b.bytes refill.new.bytes b.page b.out run.new.page
    run.new.out c.is_ok.result refill.ensures.1 ready.ensures.0 ready.ensures.1 run.ensures.out_after
    (subst (IsSent (take run.result.progress.written run.new.out)) (sym c.is_ok.ensures.value) c.write_out-sent.ensures) end.ensures.0
    end.ensures.1
