-- `mender::has_room` meets its contract.
use native.Mathlib.Omega.{arith}
use mathlib.Core.Path.{sym, ap}
use mathlib.Core.Bool.{not}
use Rattle.mender.proofs.Rooms.{room_sure, bytes_fit, bytes_lack}
use Rattle.mender.proofs.has_room.Goals as goal

pub returns-then-bytes-rows : goal.returns-then-bytes-rows
returns-then-bytes-rows c =
    let a = c.args in
    sym (ap not (room_sure a.bytes.now a.places a.rows (omega arith) (omega arith)))

pub returns-then-counted-places : goal.returns-then-counted-places
returns-then-counted-places c =
    let a = c.args in
    bytes_fit a.bytes.now a.places a.rows c.run-counted.result c.run-counted.ensures.run (omega arith)

pub returns-else-counted-places : goal.returns-else-counted-places
returns-else-counted-places c =
    let a = c.args in
    bytes_lack a.bytes.now a.places a.rows c.run-counted.result c.run-counted.ensures.run (omega arith)
