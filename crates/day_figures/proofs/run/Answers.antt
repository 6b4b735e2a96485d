-- The answers fit in their list, and what is laid is the line of all of them.
use Rattle.std.proofs.Common.{◌≡◌, ◌<◌, ◌≤◌, is_ok, length, subst, arith, rules}
use Rattle.streams.specs.System.{IsSent}
use Rattle.texts.proofs.Laying.{laid_start, laid_as}
use Rattle.quarters.specs.Days.{AllDays}
use Rattle.day_figures.proofs.Lines.{quarter_fits, line_is}
use Rattle.day_figures.proofs.run.Goals as goal

pub lay-end-requires : goal.lay-end-requires
lay-end-requires c =
    let read = c.read_days-gathered.ensures in
    let many : 65535 < length c.args.answers.now = search rules in
    (quarter_fits 0 read.days _ _ _ read.quarter many, search rules)

pub shared_ref_as_front-write_out : goal.shared_ref_as_front-write_out
shared_ref_as_front-write_out c =
    let room = (laid_start c.lay-end.ensures).1 in
    let wide : length c.lay-end.new.out ≡ 272 = search rules in
    omega (arith, room, wide)

pub returns : goal.returns
returns c =
    let read = c.read_days-gathered.ensures in
    let many : 65535 < length c.args.answers.now = search rules in
    let size : length c.args.bytes.now ≡ 2097153 = search rules in
    let laid = laid_as (line_is c.args.desks read.days _ _ _ read.quarter many) c.lay-end.ensures in
    record {
      days = read.days;
      each = read.each;
      tried = subst (λ k. AllDays k read.days) size read.tried;
      end = c.lay-end.result;
      laid = laid;
      sent = subst (λ t. IsSent t (is_ok c.write_out.result)) (laid_start laid).0 c.write_out.ensures;
    }
