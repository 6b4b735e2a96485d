-- An accepted call begins its task in the record of its process.
use mathlib.Core.Path.{sym, ap, subst, ◌∙◌}
use mathlib.Core.List.{[]}
use Prim.Native.Nat.{◌<◌}
use lib.ListN.{length, set}
use Rattle.std.proofs.lemmas.List.{get_or_default}
use Rattle.std.proofs.Common.{rules}
use Rattle.unbounded_turns.specs.Steps.{begun_by}
use Rattle.process_records.specs.Forms.{kept, kept_at, stored_at}
use Rattle.memory.proofs.Accepted.{call_item, admits, admits_day, called_leaves}
use Rattle.memory.proofs.Stored.{item_inside, called_left}
use Rattle.memory.proofs.any_table.call.Goals as goal

pub call_access-a-requires : goal.call_access-a-requires
call_access-a-requires g c =
    let a = c.args in
    admits_day a.day (kept g.R.Record.form a.t.now) [] a.x (call_item a.x c.requires.0) c.requires.1

pub index_in-i-requires : goal.index_in-i-requires
index_in-i-requires g c =
    let a = c.args in
    (admits a.day (kept g.R.Record.form a.t.now) [] a.x (call_item a.x c.requires.0) c.requires.1).suited.among.0

pub bounds-t-i : goal.bounds-t-i
bounds-t-i g c =
    let a = c.args in
    subst (λ i. i < length a.t.now) (sym c.index_in-i.ensures)
    (item_inside g.R.Record.form a.day a.t.now [] a.x (call_item a.x c.requires.0) c.requires.1)

pub offset_bounds-t-i : goal.offset_bounds-t-i
offset_bounds-t-i g c = let inside = bounds-t-i g c in search rules

pub called-requires : goal.called-requires
called-requires g c =
    let a = c.args in
    (admits a.day (kept g.R.Record.form a.t.now) [] a.x (call_item a.x c.requires.0) c.requires.1).room

pub returns : goal.returns
returns g c =
    let form = g.R.Record.form in
    let a = c.args in
    let t = a.t.now in
    let i = c.index_in-i.ensures in
    let inside = subst (λ i. i < length t) (sym c.index_in-i.ensures)
    (item_inside form a.day t [] a.x (call_item a.x c.requires.0) c.requires.1) in
    record {
      value = c.called.ensures ∙ (called_leaves a.day (kept form t) [] a.x c.requires.0).0;
      t_after = ap (set t c.index_in-i.result) c.begin.ensures
          ∙ ap (λ r. set t c.index_in-i.result (form.over r (begun_by c.call_access-a.result c.task_for.result (form.read r))))
          (get_or_default t c.index_in-i.result _ form.absent inside)
          ∙ (λ j. stored_at form t (i j) (begun_by (c.call_access-a.ensures.value j) (c.task_for.ensures j) (kept_at form t (i j))))
          ∙ called_left form a.day t a.x c.requires.0 c.requires.1;
    }
