-- A lap asks the record that stands next and notes what it finishes, which leaves the rest of the file to do.
use Prim.Native.Nat.{◌≤◌, ◌<◌}
use native.Mathlib.Omega.{arith}
use mathlib.Core.Path.{◌≡◌, sym, ap, subst, ◌∙◌}
use mathlib.Core.List.{◌++◌}
use lib.ListN.{take, drop, length-append, length-drop}
use Rattle.std.proofs.lemmas.List.{length-take-le}
use borrow.Author.Tests.{not-true}
use Rattle.snapshot.specs.Values.{words_in}
use Rattle.days.specs.Asking.{request_of, asked_outcome, asked_table, asked_page}
use Rattle.days.proofs.Kept.{lent_to_le}
use Rattle.book.specs.Passes.{notes_past, book_past}
use Rattle.book.proofs.Passing.{Lap, Ready, outcome_from, laps_left, next_lap}
use Rattle.book.proofs.Passing.{lap_ready, lap_fewer, lap_done}
use Rattle.book.proofs.notes.run.Goals as goal

pub slice_bounds-table-end : goal.slice_bounds-table-end
slice_bounds-table-end c =
    let few = subst (λ k. k ≤ 8) (sym c.lent_for-n.ensures) (lent_to_le c.loop-notes.notes.day (request_of c.next_of-x.result)) in
    omega (arith, few)

pub slice_bounds-asked-end : goal.slice_bounds-asked-end
slice_bounds-asked-end c =
    let few = subst (λ k. k ≤ 8) (sym c.lent_for-n.ensures) (lent_to_le c.loop-notes.notes.day (request_of c.next_of-x.result)) in
    sym (length-take-le c.lent_for-n.result c.loop-notes.table (omega (arith, few)))

pub loop-notes-smaller : goal.loop-notes-smaller
loop-notes-smaller c =
    let l = c.loop-notes in
    let t : Lap = record { notes = l.notes; table = l.table; page = l.page; book = l.book } in
    let x = c.next_of-x.result in
    let go = not-true l.notes.ended c.loop-notes-test.true in
    let n = c.lent_for-n.ensures in
    let o = c.asked-o.ensures.value ∙ ap (λ k. asked_outcome l.notes.day (take k l.table) l.page x) n in
    subst (λ s. laps_left s < laps_left l.notes) (sym (c.noted-notes.ensures.value ∙ ap (notes_past l.notes x) o))
    (lap_fewer t c.args.bytes.now l.invariant.0 x c.next_of-x.ensures.1 go)

pub loop-notes-preserved : goal.loop-notes-preserved
loop-notes-preserved c =
    let l = c.loop-notes in
    let t : Lap = record { notes = l.notes; table = l.table; page = l.page; book = l.book } in
    let x = c.next_of-x.result in
    let go = not-true l.notes.ended c.loop-notes-test.true in
    let n = c.lent_for-n.ensures in
    let o = c.asked-o.ensures.value ∙ ap (λ k. asked_outcome l.notes.day (take k l.table) l.page x) n in
    let records = c.asked-o.ensures.ps_after ∙ ap (λ k. asked_table l.notes.day (take k l.table) l.page x) n in
    let page = c.asked-o.ensures.page_after ∙ ap (λ k. asked_page l.notes.day (take k l.table) l.page x) n in
    let past = c.noted-notes.ensures.value ∙ ap (notes_past l.notes x) o in
    let book = c.noted-notes.ensures.book_after
    ∙ (λ i. book_past l.notes x (o i) (words_in (o i).day.count (page i)) l.book) in
    let new : Lap =
    record {
      notes = c.noted-notes.result;
      table = c.asked-o.new.ps ++ drop c.lent_for-n.result l.table;
      page = c.asked-o.new.page;
      book = c.noted-notes.new.book;
    } in
    let same : new ≡ next_lap t x =
    λ i. record { notes = past i; table = records i ++ drop (n i) l.table; page = page i; book = book i } in
    let few = subst (λ k. k ≤ 8) (sym c.lent_for-n.ensures) (lent_to_le l.notes.day (request_of x)) in
    let front = c.asked-o.auto.ps ∙ length-take-le c.lent_for-n.result l.table (omega (arith, few)) in (
      subst (λ z. Ready z c.args.bytes.now) (sym same) (lap_ready t c.args.bytes.now l.invariant.0 x c.next_of-x.ensures.1),
      l.invariant.1 ∙ lap_done t c.args.bytes.now l.invariant.0 x c.next_of-x.ensures.0 go
          ∙ ap (λ z. outcome_from z c.args.bytes.now) (sym same),
      simp (length-append, length-drop) (omega (arith, front, few)),
    )
