-- `mender::run` meets its contract.
use mathlib.Core.Path.{subst}
use lib.ListN.{length, replicate}
use Rattle.packed_days.proofs.Blank.{blank_words}
use Rattle.mender.specs.Passes.{stage, IsPassUpTo}
use Rattle.mender.proofs.Rooms.{whole_run}
use Rattle.mender.proofs.run.Goals as goal

pub returns : goal.returns
returns c =
    let a = c.args in
    let p = c.pass in
    let w = whole_run a.bytes.now a.room.now _ a.rows.now _ p.result _ _
    (subst (λ s. IsPassUpTo a.bytes.now (length a.bytes.now) (stage s blank_words (replicate 16 0) a.room.now a.rows.now)
    (stage p.result p.new.t p.new.page p.new.room p.new.rows))
    c.start.ensures p.ensures) in
    record {
      run = w.0;
      room_after = w.1;
      rows_after = w.2;
    }
