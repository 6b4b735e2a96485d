-- `packed_days::asked` meets its contract.
use mathlib.Core.Path.{sym, ◌∙◌}
use Rattle.days.specs.Asking.{request_of}
use Rattle.packed_days.proofs.After.{asked_after, unread_after, lent_fits}
use Rattle.packed_days.proofs.asked.Goals as goal

pub slice_bounds-step-end : goal.slice_bounds-step-end
slice_bounds-step-end c =
    let a = c.args in
    (lent_fits a.day (request_of a.x) a.t.now _ c.requires.0 c.lent_for-n.ensures).0

pub slice_bounds-step-end-2 : goal.slice_bounds-step-end-2
slice_bounds-step-end-2 c =
    let a = c.args in
    (lent_fits a.day (request_of a.x) a.t.now _ c.requires.0 c.lent_for-n.ensures).1

pub returns-in_default : goal.returns-in_default
returns-in_default c =
    let a = c.args in
    let both = unread_after a.day a.t.now a.page.now c.requires.1 a.x (sym c.request_in.ensures ∙ c.in_default.is) _ c.unasked.ensures in
    record { value = both.0; after = both.1 }

pub returns : goal.returns
returns c =
    let a = c.args in
    let step = c.step.ensures in
    let both =
    asked_after a.day a.t.now a.page.now c.requires.1 a.x _ (sym c.request_in.ensures ∙ c.in-Some.is) _
    c.lent_for-n.ensures _ step.value _ step.t_after _ step.page_after in
    record { value = both.0; after = both.1 }
