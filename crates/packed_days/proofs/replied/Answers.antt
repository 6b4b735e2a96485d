-- `packed_days::replied` meets its contract.
use mathlib.Core.Path.{refl, sym, ◌∙◌}
use lib.ListN.{take}
use Rattle.days.specs.Asking.{request_of}
use Rattle.packed_days.proofs.After.{asked_after, unread_after, replied_by, lent_fits, by_numbers}
use Rattle.packed_days.proofs.replied.Goals as goal

pub slice_bounds-asked-end : goal.slice_bounds-asked-end
slice_bounds-asked-end c =
    let a = c.args in
    (lent_fits a.day (request_of a.x) a.t.now _ c.requires.0 c.lent_for-n.ensures).0

pub slice_bounds-asked-end-2 : goal.slice_bounds-asked-end-2
slice_bounds-asked-end-2 c =
    let a = c.args in
    (lent_fits a.day (request_of a.x) a.t.now _ c.requires.0 c.lent_for-n.ensures).1

pub returns-in_default : goal.returns-in_default
returns-in_default c =
    let a = c.args in
    replied_by (unread_after a.day a.t.now a.page.now c.requires.1 a.x (sym c.request_in.ensures ∙ c.in_default.is) _
    c.unasked.ensures) _ c.from.ensures

pub returns : goal.returns
returns c =
    let a = c.args in
    let asked = c.asked.ensures in
    let by = by_numbers a.day (take c.lent_for-n.result a.t.now) a.page.now c.in-Some.request _
    c.request_numbers-q.ensures in
    replied_by (asked_after a.day a.t.now a.page.now c.requires.1 a.x _
    (sym c.request_in.ensures ∙ c.in-Some.is) _
    c.lent_for-n.ensures _ refl _ (asked.table_after ∙ by.1) _ (asked.page_after ∙ by.2)) _ (asked.value ∙ by.0)
