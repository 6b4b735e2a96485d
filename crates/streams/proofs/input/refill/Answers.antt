-- What one read gives stands behind what was left.
use Rattle.std.proofs.Common.{◌∙◌, rules}
use Rattle.streams.proofs.Refilling.{refill_is, kept_is}
use Rattle.streams.proofs.input.refill.Goals as goal

pub returns : goal.returns
returns g c =
    let a = c.args in
    let within = c.requires.0 in
    let read = c.read_at-got in
    let long = read.auto.bytes ∙ c.copy_within.ensures.len in
    refill_is a.from a.bytes.now read.new.bytes within long
    (kept_is a.from a.bytes.now read.new.bytes within long c.copy_within.new.self c.copy_within.ensures.after read.ensures.bytes_unchanged)
    read.result (search rules) c.input_by.result c.input_by.ensures
