-- A call, with no page list: refused as planned, or done.
use mathlib.Core.Path.{refl, sym, ap, subst, ◌∙◌}
use mathlib.Core.List.{[]}
use Rattle.requests.specs.Requests.{item_of}
use Rattle.admission.specs.Checks.{as_option}
use Rattle.process_records.specs.Forms.{kept}
use Rattle.memory.specs.Tables.{RefusedBy}
use Rattle.memory.proofs.Accepted.{call_item}
use Rattle.memory.proofs.Left.{left_refused, left_accepted}
use Rattle.memory.proofs.any_table.ask_call.Goals as goal

pub plan-requires : goal.plan-requires
plan-requires g c = call_item c.args.x c.requires

pub returns-in-Err : goal.returns-in-Err
returns-in-Err g c =
    let a = c.args in
    let form = g.R.Record.form in
    let planned = subst (λ w. RefusedBy a.day (kept form a.t.now) a.x w (as_option c.plan.result)) c.no_words.ensures c.plan.ensures in
    let left = left_refused form a.day a.t.now a.x (item_of [] a.x) c.in-Err.refusal
    (sym (planned [] refl) ∙ ap as_option c.in-Err.is) in
    record { value = c.refused.ensures ∙ left.0; t_after = left.1 }

pub call-requires : goal.call-requires
call-requires g c =
    let a = c.args in
    let form = g.R.Record.form in
    let planned = subst (λ w. RefusedBy a.day (kept form a.t.now) a.x w (as_option c.plan.result)) c.no_words.ensures c.plan.ensures in
    (c.requires, sym (planned [] refl) ∙ ap as_option c.in_default.is)

pub returns : goal.returns
returns g c =
    let a = c.args in
    let form = g.R.Record.form in
    let planned = subst (λ w. RefusedBy a.day (kept form a.t.now) a.x w (as_option c.plan.result)) c.no_words.ensures c.plan.ensures in
    let left = left_accepted form a.day a.t.now [] a.x (sym (planned [] refl) ∙ ap as_option c.in_default.is)
    c.call.ensures.value c.call.ensures.t_after in
    record { value = left.0; t_after = left.1 }
