-- A lap runs the record that stands next and lays its line, and the laps that are left come to the rest.
use Prim.Native.Nat.{ℕ, ◌≤◌, ◌<◌}
use native.Mathlib.Omega.{arith}
use mathlib.Core.Path.{◌≡◌, sym, ap, subst, ◌∙◌}
use mathlib.Core.Bool.{true}
use mathlib.Core.List.{◌++◌}
use lib.ListN.{length, take, drop, length-append, length-drop}
use Rattle.std.proofs.lemmas.List.{length-take-le}
use Rattle.snapshot.specs.Values.{words_in, lasts_in}
use Rattle.days.specs.Asking.{request_of, asked_outcome, asked_table, asked_page}
use Rattle.days.proofs.Kept.{lent_to_le}
use Rattle.daytext.specs.Buffer.{laid_place, laid_text}
use Rattle.dayfile.specs.declared.Reading.{Reading}
use Rattle.daylines.specs.Printed.{line_of}
use Rattle.laps.specs.Laps.{ran}
use Rattle.laps.specs.Progress.{progress_past, lines_left, CanLay}
use Rattle.laps.proofs.Laps.{Turn, stand_in, goes_in, lap_lent, lap_outcome, lap_page, next_turn, lap_fewer, lap_ready, lap_done, no_lap}
use Rattle.laps.proofs.records.run.Goals as goal

pub slice_bounds-table-end : goal.slice_bounds-table-end
slice_bounds-table-end c =
    let few = subst (λ k. k ≤ 8) (sym c.lent_for-n.ensures) (lent_to_le c.loop-x.progress.day (request_of c.next_of-x.result)) in
    omega (arith, few)

pub slice_bounds-asked-end : goal.slice_bounds-asked-end
slice_bounds-asked-end c =
    let few = subst (λ k. k ≤ 8) (sym c.lent_for-n.ensures) (lent_to_le c.loop-x.progress.day (request_of c.next_of-x.result)) in
    sym (length-take-le c.lent_for-n.result c.loop-x.table (omega (arith, few)))

-- what a turn reads, asks and comes to
module _ (c : goal.After-slice_known-in-loop-x-2-1) where
  abbrev turn : Turn
  turn = record { progress = c.loop-x.progress; table = c.loop-x.table; page = c.loop-x.page; out = c.loop-x.out }

  abbrev x : Reading
  x = c.next_of-x.result

  going : goes_in turn ≡ true
  going = sym c.can_go.ensures ∙ c.loop-x-test.true

  lent : c.lent_for-n.result ≡ lap_lent turn x
  lent = c.lent_for-n.ensures

  outcome : c.asked-o.result ≡ lap_outcome turn x
  outcome = c.asked-o.ensures.value ∙ ap (λ k. asked_outcome turn.progress.day (take k turn.table) turn.page x) lent

  page : c.asked-o.new.page ≡ lap_page turn x
  page = c.asked-o.ensures.page_after ∙ ap (λ k. asked_page turn.progress.day (take k turn.table) turn.page x) lent

  past : c.past-progress.result ≡ (next_turn turn x).progress
  past =
      c.past-progress.ensures.value
      ∙ (λ i. progress_past turn.progress (outcome i).day (laid_place (line_of (outcome i) x) (words_in (outcome i).day.count (page i))
      (lasts_in (outcome i).day.count (page i)) turn.out turn.progress.written) x)

pub loop-x-smaller : goal.loop-x-smaller
loop-x-smaller c =
    subst (λ s. lines_left s < lines_left c.loop-x.progress) (sym (past c))
    (lap_fewer (turn c) (x c) c.loop-x.invariant.0 (going c) c.next_of-x.ensures.1)

pub loop-x-preserved : goal.loop-x-preserved
loop-x-preserved c =
    let l = c.loop-x in
    let t = turn c in
    let bytes = c.args.bytes.now in
    let n = lent c in
    let o = outcome c in
    let records = c.asked-o.ensures.ps_after ∙ ap (λ k. asked_table l.progress.day (take k l.table) l.page (x c)) n in
    let out = c.past-progress.ensures.out_after
    ∙ (λ i. laid_text (line_of (o i) (x c)) (words_in (o i).day.count (page c i)) (lasts_in (o i).day.count (page c i)) l.out
    l.progress.written) in
    let new : Turn =
    record {
      progress = c.past-progress.result;
      table = c.asked-o.new.ps ++ drop c.lent_for-n.result l.table;
      page = c.asked-o.new.page;
      out = c.past-progress.new.out;
    } in
    let same : new ≡ next_turn t (x c) =
    λ i. record { progress = past c i; table = records i ++ drop (n i) l.table; page = page c i; out = out i } in
    let few = subst (λ k. k ≤ 8) (sym c.lent_for-n.ensures) (lent_to_le l.progress.day (request_of (x c))) in
    let front = c.asked-o.auto.ps ∙ length-take-le c.lent_for-n.result l.table (omega (arith, few)) in
    let ready = subst (λ q. CanLay q (length bytes) (length l.out) (length l.page)) (sym (past c))
    (lap_ready t (x c) l.invariant.0 (going c) c.next_of-x.ensures.1) in (
      subst (λ (m : ℕ × ℕ). CanLay c.past-progress.result (length bytes) m.0 m.1)
          (λ i. (sym c.past-progress.auto.out i, sym c.asked-o.auto.page i)) ready,
      l.invariant.1 ∙ lap_done t bytes l.invariant.0 (going c) (x c) c.next_of-x.ensures.0
          ∙ ap (λ z. ran (stand_in z bytes)) (sym same),
      simp (length-append, length-drop) (omega (arith, front, few)),
      c.past-progress.auto.out ∙ l.invariant.3,
      c.asked-o.auto.page ∙ l.invariant.4,
    )

pub returns-clause-out_after : goal.returns-clause-out_after
returns-clause-out_after c =
    let l = c.loop-x in
    let t : Turn = record { progress = l.progress; table = l.table; page = l.page; out = l.out } in
    let halts = sym c.can_go.ensures ∙ c.loop-x-test.false in
    sym (l.invariant.1 ∙ no_lap t c.args.bytes.now l.invariant.0 halts)
