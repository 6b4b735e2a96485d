-- `mender::lap` meets its contract.
use native.Mathlib.Omega.{arith}
use Rattle.mender.proofs.Passing.{piece_fits, keeps_piece, drops_piece}
use Rattle.mender.proofs.lap.Goals as goal

pub overflow_add-end : goal.overflow_add-end
overflow_add-end c = let f = piece_fits c.judge-j.ensures c.requires.0.more in omega arith

pub slice_bounds-lay-end : goal.slice_bounds-lay-end
slice_bounds-lay-end c = let f = piece_fits c.judge-j.ensures c.requires.0.more in omega arith

pub returns-then-j-eq0 : goal.returns-then-j-eq0
returns-then-j-eq0 c =
    let a = c.args in
    keeps_piece a.bytes.now a.s a.t.now a.page.now a.room.now a.rows.now c.judge-j.result _ _ c.judge-j.ensures
    c.requires.0.more c.if-j-eq0.true _ c.lay.ensures

pub returns : goal.returns
returns c =
    let a = c.args in
    drops_piece a.bytes.now a.s a.t.now a.page.now a.room.now a.rows.now c.judge-j.result _ _ c.judge-j.ensures
    c.requires.0.more c.if-j-eq0.false _ c.lay-2.ensures
