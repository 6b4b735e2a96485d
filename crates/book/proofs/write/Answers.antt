-- A book that has room is written by the pass.
use mathlib.Core.Path.{sym, subst, ◌∙◌}
use lib.ListN.{replicate}
use Rattle.book.specs.Passes.{Passed}
use Rattle.book.proofs.Written.{writes}
use Rattle.book.proofs.write.Goals as goal

pub returns : goal.returns
returns c =
    let a = c.args in
    let h = c.has_room in
    let p = c.pass-written in
    let w = writes a.bytes.now p.result a.book.now p.new.book
    (subst (λ b. Passed p.result a.bytes.now (replicate 16 0) b p.new.book) h.ensures.book_unchanged p.ensures)
    (sym h.ensures.value ∙ c.if-not-has_room.false) in
    record { value = w.0; book_after = w.1 }
