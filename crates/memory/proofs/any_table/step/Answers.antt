-- An opening goes to `open`. Any other request is planned, and is refused, called or turned.
use mathlib.Core.Path.{refl, sym, ap, subst, ◌∙◌}
use mathlib.Core.Bool.{not}
use lib.Dec.{T}
use Rattle.requests.specs.Requests.{item_of}
use Rattle.admission.specs.Checks.{as_option}
use Rattle.memory.specs.Tables.{state_of, outcome_of, refusal_in, accepted_in}
use Rattle.memory.specs.Left.{stepped_on}
use Rattle.process_records.specs.Forms.{kept, left_by}
use Rattle.memory.proofs.Accepted.{stepped_accepted, call_same, after_opening, after_call, after_turn, after_refusal}
use Rattle.memory.proofs.Left.{left_opening, left_refused, left_accepted}
use Rattle.memory.proofs.any_table.step.Goals as goal

pub returns-then-is_opening : goal.returns-then-is_opening
returns-then-is_opening g c =
    let form = g.R.Record.form in
    let a = c.args in
    let t = a.t.now in
    let page = a.page.now in
    let opening = subst T (sym (sym c.is_opening.ensures ∙ c.if-is_opening.true)) tt in
    let left = left_opening form a.day t page a.x _ c.number_in.ensures opening (c.open.ensures.value, c.open.ensures.t_after) in
    record { value = left.0; t_after = left.1; page_after = after_opening page (stepped_on form a.day t a.x page) a.x opening }

pub returns-in-Err : goal.returns-in-Err
returns-in-Err g c =
    let form = g.R.Record.form in
    let a = c.args in
    let t = a.t.now in
    let page = a.page.now in
    let left = left_refused form a.day t a.x (item_of page a.x) c.in-Err.refusal (sym (c.plan.ensures page refl) ∙ ap as_option c.in-Err.is) in
    record {
      value = c.refused.ensures ∙ left.0;
      t_after = left.1;
      page_after = after_refusal page (stepped_on form a.day t a.x page) a.x left.2;
    }

pub call-requires : goal.call-requires
call-requires g c =
    let form = g.R.Record.form in
    let a = c.args in
    let page = a.page.now in
    let passed = sym (c.plan.ensures page refl) ∙ ap as_option c.in_default.is in
    let call = (subst T (sym (sym c.is_call.ensures ∙ c.if-is_call.true)) tt) in
    (call, ap (refusal_in (state_of a.day (kept form a.t.now))) (call_same page a.x call) ∙ passed)

pub returns-then-is_call : goal.returns-then-is_call
returns-then-is_call g c =
    let form = g.R.Record.form in
    let a = c.args in
    let t = a.t.now in
    let page = a.page.now in
    let passed = sym (c.plan.ensures page refl) ∙ ap as_option c.in_default.is in
    let calls = subst T (sym (sym c.is_call.ensures ∙ c.if-is_call.true)) tt in
    let even = ap (accepted_in (state_of a.day (kept form t))) (call_same page a.x calls) in
    let said = c.call.ensures in
    let left = left_accepted form a.day t page a.x passed (said.value ∙ ap outcome_of even)
    (said.t_after ∙ ap (λ r. left_by form t a.x r.state.table) even) in
    record { value = left.0; t_after = left.1; page_after = after_call page (stepped_on form a.day t a.x page) a.x calls }

pub returns : goal.returns
returns g c =
    let form = g.R.Record.form in
    let a = c.args in
    let t = a.t.now in
    let page = a.page.now in
    let passed = sym (c.plan.ensures page refl) ∙ ap as_option c.in_default.is in
    let later = subst (λ b. T (not b)) (sym (sym c.is_opening.ensures ∙ c.if-is_opening.false)) tt in
    let turns = subst (λ b. T (not b)) (sym (sym c.is_call.ensures ∙ c.if-is_call.false)) tt in
    let said = c.turn_on.ensures in
    let left = left_accepted form a.day t page a.x passed said.value said.t_after in
    record {
      value = left.0;
      t_after = left.1;
      page_after = said.page_after ∙ ap (λ r. r.page) (stepped_accepted (state_of a.day (kept form t)) (item_of page a.x) passed)
          ∙ after_turn page (stepped_on form a.day t a.x page) a.x later turns;
    }
