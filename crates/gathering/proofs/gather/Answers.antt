-- `gathering::gather` meets its contract.
use mathlib.Core.Path.{ap, ◌∙◌}
use Rattle.days.specs.Happenings.{file_on, day_of}
use Rattle.gathering.specs.Answers.{answers_in, ended_by}
use Rattle.gathering.specs.Gathered.{sums_with_all}
use Rattle.gathering.specs.Laps.{gathered}
use Rattle.packed_days.proofs.Blank.{blank_box_lem}
use Rattle.gathering.proofs.gather.Goals as goal

pub returns : goal.returns
unfolding day_of
returns c =
    let a = c.args in
    let run = c.run.ensures in
    let file = ap (λ b. file_on b a.bytes.now) blank_box_lem in
    record {
      count_after = run.count_after ∙ ap (λ hs. sums_with_all (gathered a.answers.now a.count) (answers_in hs)) file;
      refusal_value = run.refusal_value ∙ ap ended_by file;
    }
