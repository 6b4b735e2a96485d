-- The text of the book is laid where its places were written, and else nothing.
use Rattle.std.proofs.Common.{sym, ◌∙◌}
use Rattle.texts.proofs.Laying.{laid_as, none_laid}
use Rattle.day_book.proofs.Inputs.{written_laid, refused_unlaid}
use Rattle.day_book.proofs.lay.Goals as goal

pub returns-in-Ok : goal.returns-in-Ok
returns-in-Ok c =
    let a = c.args in
    let wrote = c.write-booking.ensures in
    laid_as (written_laid a.bytes.now a.places.now _ c.requires _ (sym wrote.value ∙ c.in-Ok.is) _ wrote.book_after)
    c.lay_book.ensures

pub returns-in-Err : goal.returns-in-Err
returns-in-Err c =
    let a = c.args in
    none_laid a.out.now (refused_unlaid a.bytes.now a.places.now _ (sym c.write-booking.ensures.value ∙ c.in-Err.is))
