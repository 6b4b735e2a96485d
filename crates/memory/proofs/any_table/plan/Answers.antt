-- The first refusals are asked with a survey of the whole table, the last with the task of the record.
use native.Mathlib.Omega.{arith}
use mathlib.Core.Path.{sym, ap, ◌∙◌}
use mathlib.Core.List.{foldl}
use Rattle.admission.specs.Checks.{as_option, last_refusal}
use Rattle.std.proofs.lemmas.Result.{err_from_is_err_and}
use Rattle.unbounded.specs.Processes.{is_idle}
use Rattle.unbounded_surveys.specs.Surveys.{surveyed_by}
use Rattle.process_records.specs.Forms.{kept}
use Rattle.process_records.proofs.Kept.{kept_long, task_is}
use Rattle.memory.proofs.Accepted.{plan_refuses, plan_inside, plan_last}
use Rattle.memory.proofs.Left.{first_found}
use Rattle.memory.proofs.any_table.plan.Goals as goal

pub returns-in_err-first_check : goal.returns-in_err-first_check
returns-in_err-first_check g c =
    let form = g.R.Record.form in
    let a = c.args in
    let t = a.t.now in
    let first = first_found form a.day t a.x a.words c.survey_of-before.ensures c.survey-s.ensures c.first_check.ensures in
    let p = err_from_is_err_and c.from_residual.result c.from_residual.ensures.1 in
    rw (p.1, p.2) (plan_refuses a.day (kept form t) a.x c.requires a.words c.in_err-first_check.field-0.0
    (sym first ∙ ap as_option c.in_err-first_check.was))

pub returns : goal.returns
returns g c page q =
    let form = g.R.Record.form in
    let a = c.args in
    let t = a.t.now in
    let ps = kept form t in
    let first = first_found form a.day t a.x a.words c.survey_of-before.ensures c.survey-s.ensures c.first_check.ensures in
    let passed = sym first ∙ ap as_option c.in_ok-first_check.was in
    let found = c.survey-s.ensures ∙ ap (λ v. foldl surveyed_by v ps) c.survey_of-before.ensures in
    let l = plan_inside a.day ps a.x c.requires a.words passed in
    let long = kept_long form t in
    let i = c.index_in-i in
    let task = c.task-task.ensures ∙ ap (λ r. (form.read r).task) c.index-t-i.is in
    let idle = c.is_idle.ensures ∙ ap is_idle (task_is form t i.result _ c.task-task.result c.index-t-i.result i.ensures (omega arith) task) in
    c.last_check.ensures
    ∙ (λ j. last_refusal (found j) a.x (idle j))
    ∙ plan_last a.day ps a.x c.requires a.words passed page q
