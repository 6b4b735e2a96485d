-- `mender::mend` meets its contract.
use mathlib.Core.Path.{sym, ap₂, ◌∙◌}
use borrow.Author.Tests.{not-true}
use Rattle.std.specs.Prelude.{Result, Ok}
use Rattle.snapshot.specs.declared.Refusal.{Refusal}
use Rattle.mender.specs.declared.Mended.{Mended}
use Rattle.mender.proofs.Rooms.{written_all}
use Rattle.mender.proofs.mend.Goals as goal

pub returns : goal.returns
returns c =
    let r = c.run-done in
    let a = c.args in
    let w = written_all a.bytes.now a.room.now a.rows.now (not-true _ (sym c.has_room.ensures ∙ c.if-not-has_room.false)) in
    record {
      value = ap₂ {C = Result Mended Refusal} (λ k d. Ok (record { kept = k; drops = d })) r.ensures.run.kept r.ensures.run.drops ∙ sym w.0;
      room_after = r.ensures.room_after ∙ sym w.1;
      rows_after = r.ensures.rows_after ∙ sym w.2;
    }
