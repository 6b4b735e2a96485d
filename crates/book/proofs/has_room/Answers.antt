-- A book that no day fills needs no count, and none of its places is lent to be counted with.
use native.Mathlib.Omega.{arith}
use mathlib.Core.Path.{sym, ap}
use lib.Dec.{leb}
use lib.ListN.{length}
use borrow.Author.Tests.{le-leb}
use Rattle.book.proofs.Written.{counted}
use Rattle.book.proofs.Fits.{book_fits}
use Rattle.book.proofs.has_room.Goals as goal

pub returns-then-room-ge-MOST-clause-value : goal.returns-then-room-ge-MOST-clause-value
returns-then-room-ge-MOST-clause-value c =
    let a = c.args in
    let few = book_fits a.bytes.now in
    sym (le-leb _ (length a.book.now) (omega (arith, few)))

pub returns-clause-value : goal.returns-clause-value
returns-clause-value c =
    let a = c.args in
    let p = c.pass-counted in
    ap (λ k. leb k (length a.book.now)) (counted a.bytes.now p.result _ _ p.ensures)
