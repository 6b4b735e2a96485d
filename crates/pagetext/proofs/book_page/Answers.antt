-- `pagetext::book_page` meets its contract: the parts, as they are laid, are the line's text.
use mathlib.Core.List.{append_assoc}
use native.Mathlib.Omega.{arith}
use Rattle.daytext.specs.Lines.{body_of}
use Rattle.texts.proofs.Laying.{lays_then}
use Rattle.pagetext.proofs.book_page.Goals as goal

pub returns-clause-laid : goal.returns-clause-laid
unfolding body_of
returns-clause-laid c =
    let all = lays_then (omega arith) c.pair.ensures.laid c.list.ensures.laid in
    simp append_assoc at all
