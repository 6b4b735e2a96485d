-- An opening is refused by its check, or leaves a table of blank records.
use mathlib.Core.Path.{sym, ap, ◌∙◌}
use Rattle.snapshot.specs.Days.{open_for}
use Rattle.snapshot.specs.declared.Request.TheVariants.{Open}
use Rattle.admission.specs.Checks.{as_option, opening_refusal}
use Rattle.process_records.specs.Forms.{kept}
use Rattle.process_records.proofs.Kept.{kept_long}
use Rattle.memory.specs.Tables.{state_of}
use Rattle.memory.proofs.Accepted.{opening_refused}
use Rattle.memory.proofs.Left.{left_refused, left_opened}
use Rattle.memory.proofs.any_table.open.Goals as goal

pub returns-in-Err : goal.returns-in-Err
returns-in-Err g c =
    let form = g.R.Record.form in
    let a = c.args in
    let t = a.t.now in
    let found = c.opening_check.ensures
    ∙ ap (λ n. opening_refusal a.day n a.k) (sym (kept_long form t))
    ∙ opening_refused (state_of a.day (kept form t)) a.k in
    let left = left_refused form a.day t (Open a.k) (open_for a.k) c.in-Err.refusal (sym found ∙ ap as_option c.in-Err.is) in
    record { value = c.refused.ensures ∙ left.0; t_after = left.1 }

pub returns : goal.returns
returns g c =
    let form = g.R.Record.form in
    let a = c.args in
    let t = a.t.now in
    let found = c.opening_check.ensures
    ∙ ap (λ n. opening_refusal a.day n a.k) (sym (kept_long form t))
    ∙ opening_refused (state_of a.day (kept form t)) a.k in
    let left = left_opened form a.day t a.k (sym found ∙ ap as_option c.in_default.is) in
    record { value = c.opened.ensures ∙ left.0; t_after = c.clear_all.ensures ∙ left.1 }
