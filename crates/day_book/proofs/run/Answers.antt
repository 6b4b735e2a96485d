-- What was read, what was laid of it, and whether it was taken.
use Rattle.std.proofs.Common.{◌≡◌, is_ok, length, subst, arith, rules}
use Rattle.streams.specs.System.{IsSent}
use Rattle.streams.specs.Input.{incoming}
use Rattle.texts.specs.Laying.{Laid}
use Rattle.texts.proofs.Laying.{laid_start}
use Rattle.day_book.specs.Runs.{written_of}
use Rattle.day_book.proofs.run.Goals as goal

pub shared_ref_as_front-write_out : goal.shared_ref_as_front-write_out
shared_ref_as_front-write_out c =
    let room = (laid_start c.lay_input-n.ensures).1 in
    let wide : length c.lay_input-n.new.out ≡ 2643517 = search rules in
    omega (arith, room, wide)

pub returns : goal.returns
returns c =
    let a = c.args in
    let i = incoming c.whole-input.result c.whole-input.new.bytes in
    let many : length a.places.now ≡ 21845 = search rules in
    let laid = subst (λ k. Laid a.out.now 0 (written_of k i) c.lay_input-n.new.out c.lay_input-n.result) many c.lay_input-n.ensures in
    record {
      input = c.whole-input.result;
      whole = c.whole-input.ensures;
      end = c.lay_input-n.result;
      laid = laid;
      sent = subst (λ t. IsSent t (is_ok c.write_out.result)) (laid_start laid).0 c.write_out.ensures;
    }
