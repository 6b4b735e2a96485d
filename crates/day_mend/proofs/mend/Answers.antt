-- The parts of a file are judged from the box of a blank day on.
use Rattle.std.proofs.Common.{true, subst}
use Rattle.dayfile.specs.Pieces.{pieces}
use Rattle.packed_days.proofs.Blank.{blank_box_lem}
use Rattle.mending.specs.Mending.{judged, parts_of}
use Rattle.day_mend.specs.Runs.{Writes}
use Rattle.day_mend.proofs.mend.Goals as goal

pub returns : goal.returns
unfolding parts_of
returns c =
    let bytes = c.args.bytes.now in
    let p = c.passes in
    subst (λ b. Writes 0 true (judged b (pieces bytes)) p.result.went p.result.told) blank_box_lem p.ensures
