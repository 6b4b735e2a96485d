-- `booklines::lay_book` meets its contract.
use native.Mathlib.Omega.{arith}
use mathlib.Core.Path.{sym, ◌∙◌}
use mathlib.Core.List.{[]}
use lib.Seq.{length-take-le}
use borrow.Author.Rules.{rules}
use Rattle.texts.proofs.Laying.{lays_then, laid_as, none_laid}
use Rattle.daytext.proofs.Lengths.{end}
use Rattle.booklines.proofs.Laying.{line_laid, room_true, book_laid, book_unlaid}
use Rattle.booklines.proofs.lay_book.Goals as goal

pub returns-then-not-has_room : goal.returns-then-not-has_room
returns-then-not-has_room c =
    let test = c.has_room.ensures in
    let a = c.args in
    none_laid a.out.now (book_unlaid a.book.now a.count a.n _ (sym test ∙ c.if-not-has_room.true))

pub slice_bounds-lay_places-end : goal.slice_bounds-lay_places-end
slice_bounds-lay_places-end c =
    let room = room_true _ _ _ _ (sym c.has_room.ensures ∙ c.if-not-has_room.false) in
    sym (length-take-le c.args.count c.args.book.now room.0)

pub lay_places-requires : goal.lay_places-requires
lay_places-requires c =
    let room = room_true _ _ _ _ (sym c.has_room.ensures ∙ c.if-not-has_room.false) in
    let long = length-take-le c.args.count c.args.book.now room.0 in
    (room.2, omega (arith, long, room.3))

pub overflow_cast-event : goal.overflow_cast-event
overflow_cast-event c =
    let room = room_true _ _ _ _ (sym c.has_room.ensures ∙ c.if-not-has_room.false) in
    omega (arith, room.1)

pub returns : goal.returns
returns c =
    let a = c.args in
    let test = sym c.has_room.ensures ∙ c.if-not-has_room.false in
    let room = room_true _ _ _ _ test in
    let long = length-take-le a.count a.book.now room.0 in
    let places = c.lay_places.ensures in
    let same = places.laid.buffer.same_length in
    let last =
    line_laid end [] (omega arith) (omega (arith, long, room.3, places.upper_bound, same)) c.lay.ensures.same_buffer c.lay.ensures.value
    c.lay.ensures.out_after in
    let all = lays_then (omega arith) places.laid last.0 in
    laid_as (sym (book_laid a.book.now a.count a.n _ test)) (search rules)
