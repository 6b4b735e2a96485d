-- `places::answers::finished` meets its contract.
use mathlib.Core.Path.{ap, ◌∙◌}
use mathlib.Core.List.{[], ◌∷◌}
use lib.ListN.{take}
use Rattle.places.specs.Places.{eight}
use Rattle.places.proofs.Kept.{page_put, entry_put, nothing_put}
use Rattle.places.proofs.answers.finished.Goals as goal
use Rattle.places.proofs.answers.finished.Goals.{in-Page, in-Written}

pub returns-in_default : goal.returns-in_default
returns-in_default c =
    let a = c.args in
    let e = nothing_put a.words a.count a.r a.o.day.event (take a.o.day.count a.page.now) a.book.now a.o.answer
    c.in_default.not-Page c.in_default.not-Written in
    record { value = e.0; book_after = e.1 }

pub returns : goal.returns
returns c =
    let a = c.args in
    let process = c.number_in-process in
    let shown = take a.o.day.count a.page.now in
    elim c.match-o.branch [
      | in-Page w ↦
          let e = page_put a.words a.count a.r a.o.day.event shown a.book.now a.o.answer process.result process.ensures
          c.match-o.place c.put.new.book c.put.ensures _ _ _ w.in-Page.is (w.place-is ∙ w.page-place.ensures) in
          record { value = e.0; book_after = e.1 }
      | in-Written w ↦
          let e = entry_put a.words a.count a.r a.o.day.event shown a.book.now a.o.answer process.result process.ensures
          c.match-o.place c.put.new.book c.put.ensures _ w.in-Written.is
          (w.place-is ∙ w.entry-place.ensures ∙ ap (λ x. a.o.day.event ∷ 2 ∷ process.result ∷ eight (x ∷ [])) w.word_of.ensures) in
          record { value = e.0; book_after = e.1 }
    ]
