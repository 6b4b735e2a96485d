-- Each turn of the loop gives the next turn of the list, and the run has come to its whole after the last.
use Prim.Native.Nat.{◌+◌}
use mathlib.Core.Path.{sym, ap, ◌∙◌}
use lib.ListN.{set, length-set}
use Rattle.snapshot.specs.Values.{page_places}
use Rattle.runs.specs.Plans.{reached_at}
use Rattle.runs.proofs.Looped.{goes_on, goes_out, goes_next, goes_refused, goes_last}
use Rattle.runs.proofs.run.Goals as goal

pub loop-plan-preserved : goal.loop-plan-preserved
loop-plan-preserved g c =
    let give = g.M.Turns.give in
    let told = g.M.Turns.told in
    let l = c.loop-plan in
    let plan = c.in-Ok.plan in
    let said = c.turn_at-told.ensures in
    let long = c.turn_at-told.auto in (
      goes_next give told l.invariant.0 (goes_on c.goes.ensures c.loop-plan-test.true) c.process_at-d.result _ _ _ _
          c.process_at-d.ensures
          (c.next-at.ensures ∙ ap (λ d. reached_at d (l.at.turns + 1) (l.at.words + plan.page)) said.day_after)
          said.t_after (ap (set l.answers l.at.turns) said.value) said.pages_after long.pages,
      long.t ∙ l.invariant.1,
      length-set l.answers l.at.turns c.turn_at-told.result.1 ∙ l.invariant.2,
      long.pages ∙ l.invariant.3,
    )

pub returns-in-Err : goal.returns-in-Err
returns-in-Err g c =
    let a = c.args in
    let left = goes_refused g.M.Turns.give g.M.Turns.told (page_places a.day.count) a.day a.t.now a.list.now a.answers.now a.pages.now
    c.in-Err.refusal (sym c.planned.ensures ∙ c.in-Err.is) in
    record { value = c.refused.ensures ∙ left.0; t_after = left.1; answers_after = left.2; pages_after = left.3 }

pub returns : goal.returns
returns g c =
    let a = c.args in
    let l = c.loop-plan in
    let left = goes_last g.M.Turns.give g.M.Turns.told (page_places a.day.count) a.day a.t.now a.list.now a.answers.now a.pages.now _ _
    (sym c.planned.ensures ∙ c.in-Ok.is) c.begin-at.ensures l.at l.t l.answers l.pages l.invariant.0
    (goes_out c.goes.ensures c.loop-plan-test.false) in
    record { value = c.end.ensures ∙ left.0; t_after = left.1; answers_after = left.2; pages_after = left.3 }
