-- The register that the task reads lies within the table.
use mathlib.Core.Path.{◌≡◌, sym, ap, ◌∙◌}
use lib.ListN.{get_or, set}
use Rattle.std.proofs.Common.{rules}
use Rattle.std.proofs.lemmas.List.{get_or_default}
use Rattle.admission.specs.Outcomes.{accepted_outcome}
use Rattle.unbounded.specs.Processes.{no_process}
use Rattle.unbounded_accesses.specs.Accesses.{reads_in}
use Rattle.unbounded_tasks.specs.Tasks.{answer_by}
use Rattle.unbounded_finds.specs.Finds.{find_of, page_by}
use Rattle.unbounded_turns.specs.Steps.{state_by}
use Rattle.memory.specs.Turning.{read_at, found_at}
use Rattle.process_records.specs.Forms.{kept, kept_at, stored_at}
use Rattle.process_records.proofs.Kept.{kept_is}
use Rattle.memory.proofs.Stored.{turn_inside, place_inside}
use Rattle.memory.proofs.any_table.read_turn.Goals as goal

pub bounds-t-j : goal.bounds-t-j
bounds-t-j g c =
    let a = c.args in
    let access = c.access_of-a in
    place_inside g.R.Record.form a.day a.t.now a.i a.k c.requires.0 c.place_of-j.result access.result access.ensures.value
    c.place_of-j.ensures.upper_bound

pub offset_bounds-t-j : goal.offset_bounds-t-j
offset_bounds-t-j g c = let inside = bounds-t-j g c in search rules

pub returns : goal.returns
returns g c =
    let form = g.R.Record.form in
    let a = c.args in
    let t = a.t.now in
    let ps = kept form t in
    let by = c.access_of-a.ensures.value in
    let place = c.place_of-j in
    let h = c.requires.0 in
    let there = place_inside form a.day t a.i a.k h place.result c.access_of-a.result by place.ensures.upper_bound in
    let here = turn_inside form a.day t a.i a.k h in
    let own = get_or_default t a.i _ form.absent here in
    let read : c.register-r.result ≡ read_at a.day ps a.k =
    c.register-r.ensures
    ∙ ap (λ r. (form.read r).register) (get_or_default t place.result _ form.absent there)
    ∙ ap (λ p. p.register) (sym (kept_is form t place.result there))
    ∙ ap (λ z. (get_or ps z no_process).register) (place.ensures.value ∙ ap reads_in by) in
    let found : find_of c.access_of-a.result c.register-r.result (kept_at form t a.i) ≡ found_at a.day ps a.i a.k =
    (λ z. find_of (by z) (read z) (sym (kept_is form t a.i here) z)) in
    let find = c.read-f.ensures.value ∙ ap (λ w. find_of c.access_of-a.result c.register-r.result (form.read w)) own ∙ found in
    record {
      value = c.accepted.ensures ∙ ap (accepted_outcome a.day) (c.answer.ensures ∙ ap (λ f. answer_by f a.k) find);
      t_after = ap (set t a.i) c.read-f.ensures.self_after
          ∙ ap (λ w. set t a.i (form.over w (state_by c.access_of-a.result c.register-r.result (form.read w)
          (find_of c.access_of-a.result c.register-r.result (form.read w)) a.k))) own
          ∙ (λ z. stored_at form t a.i (state_by (by z) (read z) (kept_at form t a.i) (found z) a.k));
      page_after = c.lay_page.ensures ∙ (λ z. page_by (by z) (find z) a.k a.page.now);
    }
