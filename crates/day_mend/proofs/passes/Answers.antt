-- What a pass hands on is ahead of the rest; at the end of the file, or where standard output did not take it, that is all.
use Rattle.std.proofs.Common.{rules}
use Rattle.snapshot.specs.Requests.{blank_day}
use Rattle.dayfile.specs.Pieces.{pieces}
use Rattle.packed_days.specs.Boxes.{box_in}
use Rattle.mending.specs.Mending.{judged}
use Rattle.day_mend.proofs.Passed.{goes_ahead, all_stopped, all_passed}
use Rattle.day_mend.proofs.passes.Goals as goal
use Rattle.day_mend.proofs.passes.Goals.{then-loop-s-test+else-s-bytes, else-loop-s-test}

pub loop-s-preserved : goal.loop-s-preserved
loop-s-preserved c =
    let a = c.args in
    let bytes = a.bytes.now in
    let l = c.loop-s in
    let p = c.pass_on-s in
    record {
      eight = search rules;
      long = p.ensures.long;
      ahead = goes_ahead bytes (judged (box_in blank_day a.t.now a.page.now) (pieces bytes)) l.s l.t l.page l.invariant.ahead
          c.loop-s-test.true p.result _ _ p.ensures;
    }

pub returns : goal.returns
returns c =
    let a = c.args in
    let bytes = a.bytes.now in
    let l = c.loop-s in
    let all = judged (box_in blank_day a.t.now a.page.now) (pieces bytes) in
    elim c.loop-s-test.branch [
      | then-loop-s-test+else-s-bytes w ↦
          all_passed bytes all l.s l.t l.page l.invariant.ahead w.loop-s-test.true w.if-s-bytes.false
      | else-loop-s-test w ↦ all_stopped bytes all l.s l.t l.page l.invariant.ahead w.loop-s-test.false
    ]
