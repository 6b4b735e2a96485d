-- `book::notes::noted` meets its contract.
use Rattle.book.proofs.Past.{past_found, past_ended}
use Rattle.book.proofs.notes.noted.Goals as goal

pub returns-in_default : goal.returns-in_default
returns-in_default c =
    let a = c.args in
    let q = past_ended a.s a.x a.o _ _ c.in_default.not-Found in
    record { value = q.0; book_after = q.1 }

pub returns : goal.returns
returns c =
    let a = c.args in
    let f = c.finished.ensures in
    let q = past_found a.s a.x a.o _ _ _ _ c.in-Found.is _ f.value _ c.words_after.ensures _ f.book_after in
    record { value = q.0; book_after = q.1 }
