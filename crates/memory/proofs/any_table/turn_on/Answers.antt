-- An accepted turn of a ready update writes; any other reads one register.
use mathlib.Core.Path.{sym, ◌∙◌, subst}
use mathlib.Core.Bool.{not}
use lib.Dec.{T}
use Rattle.std.proofs.Common.{rules}
use Rattle.process_records.specs.Forms.{kept}
use Rattle.unbounded.specs.declared.Task.TheVariants.{Idle}
use Rattle.memory.proofs.Accepted.{admits}
use Rattle.memory.proofs.Stored.{at_inside, task_at, turn_of, room_of, write_left, read_left}
use Rattle.memory.proofs.any_table.turn_on.Goals as goal

pub index_in-i-requires : goal.index_in-i-requires
index_in-i-requires g c =
    let a = c.args in
    let h = c.requires in
    (admits a.day (kept g.R.Record.form a.t.now) a.page.now a.x h.0 h.2).suited.among.0

pub bounds-t-i : goal.bounds-t-i
bounds-t-i g c =
    let a = c.args in
    let h = c.requires in
    let i = c.index_in-i in
    at_inside g.R.Record.form a.day a.t.now a.page.now a.x h.0 h.1 h.2 i.result Idle i.ensures

pub offset_bounds-t-i : goal.offset_bounds-t-i
offset_bounds-t-i g c = let inside = bounds-t-i g c in search rules

pub write_turn-requires : goal.write_turn-requires
write_turn-requires g c =
    let form = g.R.Record.form in
    let a = c.args in
    let t = a.t.now in
    let h = c.requires in
    let i = c.index_in-i in
    let k = c.task-k in
    let task = task_at form a.day t a.page.now a.x h.0 h.1 h.2 i.result k.result i.ensures _ k.ensures in
    (turn_of form a.day t a.page.now a.x h.0 h.1 h.2 i.result k.result i.ensures task, subst T (sym (sym c.is_ready.ensures ∙ c.if-is_ready.true)) tt)

pub returns-then-is_ready : goal.returns-then-is_ready
returns-then-is_ready g c =
    let form = g.R.Record.form in
    let a = c.args in
    let t = a.t.now in
    let h = c.requires in
    let i = c.index_in-i in
    let k = c.task-k in
    let task = task_at form a.day t a.page.now a.x h.0 h.1 h.2 i.result k.result i.ensures _ k.ensures in
    let ready = sym c.is_ready.ensures ∙ c.if-is_ready.true in
    let left = write_left form a.day t a.page.now a.x h.0 h.1 h.2 i.result k.result i.ensures task ready in
    let said = c.write_turn.ensures in
    record { value = said.value ∙ left.0; t_after = said.t_after ∙ left.1; page_after = left.2 }

pub read_turn-requires : goal.read_turn-requires
read_turn-requires g c =
    let form = g.R.Record.form in
    let a = c.args in
    let t = a.t.now in
    let h = c.requires in
    let i = c.index_in-i in
    let k = c.task-k in
    let task = task_at form a.day t a.page.now a.x h.0 h.1 h.2 i.result k.result i.ensures _ k.ensures in (
      turn_of form a.day t a.page.now a.x h.0 h.1 h.2 i.result k.result i.ensures task,
      subst (λ b. T (not b)) (sym (sym c.is_ready.ensures ∙ c.if-is_ready.false)) tt,
      room_of form a.day t a.page.now a.x h.0 h.1 h.2 i.result k.result i.ensures task,
    )

pub returns : goal.returns
returns g c =
    let form = g.R.Record.form in
    let a = c.args in
    let t = a.t.now in
    let h = c.requires in
    let i = c.index_in-i in
    let k = c.task-k in
    let task = task_at form a.day t a.page.now a.x h.0 h.1 h.2 i.result k.result i.ensures _ k.ensures in
    let waits = sym c.is_ready.ensures ∙ c.if-is_ready.false in
    let left = read_left form a.day t a.page.now a.x h.0 h.1 h.2 i.result k.result i.ensures task waits in
    let said = c.read_turn.ensures in
    record { value = said.value ∙ left.0; t_after = said.t_after ∙ left.1; page_after = said.page_after ∙ left.2 }
