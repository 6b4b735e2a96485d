-- There is room for what the pass comes to, and it is handed on.
use Rattle.std.proofs.Common.{rules, arith}
use Rattle.day_mend.proofs.Passed.{room_enough, passed}
use Rattle.day_mend.proofs.pass_on.Goals as goal

pub write_pass-wrote-requires : goal.write_pass-wrote-requires
write_pass-wrote-requires c =
    let a = c.args in
    let b = a.buffers.now in
    let e = room_enough a.bytes.now a.s a.t.now a.page.now b.kept b.rows c.pass-p.result _ _ _ _ c.requires.more
    c.pass-p.ensures (search rules) (search rules) in
    (omega (arith, e.0), omega (arith, e.1))

pub returns : goal.returns
returns c =
    let a = c.args in
    let b = a.buffers.now in
    passed a.bytes.now a.s a.t.now a.page.now b.kept b.rows c.pass-p.result _ _ _ _ c.requires.more c.pass-p.ensures
    (search rules) (search rules) _ _ c.write_pass-wrote.ensures
