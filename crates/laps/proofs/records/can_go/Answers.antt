-- There is a lap where there is room for a line, and a record lies whole in the input or no more will come.
use Rattle.std.proofs.Common.{◌+◌, ◌-◌, sym, arith}
use mathlib.Core.Bool.{and-false}
use borrow.Author.Tests.{le-leb, lt-leb}
use Rattle.laps.specs.Progress.{can_go}
use Rattle.laps.proofs.records.can_go.Goals as goal

pub returns-then-at : goal.returns-then-at
unfolding can_go
returns-then-at c = rw (c.if-at.true, and-false)

pub returns-then-room-at : goal.returns-then-room-at
unfolding can_go
returns-then-room-at c =
    let a = c.args in
    let l = c.if-room-at.true in
    rw (lt-leb (a.at.written + 272) a.room (omega arith))

pub returns-then-room-at-lt-LONGEST : goal.returns-then-room-at-lt-LONGEST
unfolding can_go
returns-then-room-at-lt-LONGEST c =
    let a = c.args in
    let l = c.if-room-at-lt-LONGEST.true in
    let m = c.if-room-at.false in
    rw (lt-leb (a.at.written + 272) a.room (omega arith))

pub returns-then-input : goal.returns-then-input
unfolding can_go
returns-then-input c =
    let a = c.args in
    let l = c.if-room-at-lt-LONGEST.false in
    let m = c.if-room-at.false in
    rw (le-leb (a.at.written + 272) a.room (omega arith), c.if-at.false, c.if-input.true)

pub returns-then-input-2 : goal.returns-then-input-2
unfolding can_go
returns-then-input-2 c =
    let a = c.args in
    let l = c.if-room-at-lt-LONGEST.false in
    let m = c.if-room-at.false in
    let k = c.if-input-2.true in
    let room = le-leb (a.at.written + 272) a.room (omega arith) in
    let none = lt-leb 10 (a.at.input.end - a.at.input.at) (omega arith) in
    rw (room, c.if-at.false, c.if-input.false, none)

pub returns : goal.returns
unfolding can_go
returns c =
    let a = c.args in
    let l = c.if-room-at-lt-LONGEST.false in
    let m = c.if-room-at.false in
    let room = le-leb (a.at.written + 272) a.room (omega arith) in
    sym (rw (room, c.if-at.false, c.if-input.false))
