-- `laying::body` meets its contract: each arm's parts, as they are laid, are its line's text.
use native.Mathlib.Omega.{arith}
use mathlib.Core.List.{append_assoc, append-nil}
use Rattle.daytext.specs.Lines.{body_of}
use Rattle.texts.proofs.Laying.{lays_then}
use Rattle.laying.proofs.body.Goals as goal

pub returns-in-Opened-clause-laid : goal.returns-in-Opened-clause-laid
unfolding body_of
returns-in-Opened-clause-laid c = rw c.in-Opened.is (simp append-nil c.field.ensures.laid)

pub returns-in-Update-clause-laid : goal.returns-in-Update-clause-laid
unfolding body_of
returns-in-Update-clause-laid c =
    let all = lays_then (omega arith) c.pair.ensures.laid c.field-in-Update.ensures.laid in
    let text = simp append_assoc at all in
    rw c.in-Update.is (simp append-nil text)

pub returns-in-Scan-clause-laid : goal.returns-in-Scan-clause-laid
unfolding body_of
returns-in-Scan-clause-laid c = rw c.in-Scan.is (simp append-nil c.pair-in-Scan.ensures.laid)

pub returns-in-Read-clause-laid : goal.returns-in-Read-clause-laid
unfolding body_of
returns-in-Read-clause-laid c = rw c.in-Read.is (simp append-nil c.pair-in-Read.ensures.laid)

pub returns-in-Written-clause-laid : goal.returns-in-Written-clause-laid
unfolding body_of
returns-in-Written-clause-laid c =
    let all = lays_then (omega arith) c.pair-in-Written.ensures.laid c.field-in-Written.ensures.laid in
    let text = simp append_assoc at all in
    rw c.in-Written.is (simp append-nil text)

pub returns-in-BookPage-clause-laid : goal.returns-in-BookPage-clause-laid
unfolding body_of
returns-in-BookPage-clause-laid c = rw c.in-BookPage.is c.book_page.ensures.laid

pub returns-in-Refused-clause-laid : goal.returns-in-Refused-clause-laid
unfolding body_of
returns-in-Refused-clause-laid c = rw c.in-Refused.is (simp append-nil c.field-in-Refused.ensures.laid)

pub returns-in-End-clause-laid : goal.returns-in-End-clause-laid
unfolding body_of
returns-in-End-clause-laid c = rw c.in-End.is (simp append-nil c.field-in-End.ensures.laid)
