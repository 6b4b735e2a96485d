-- Each call and turn of Figure 3 is what `Works` asks: its record is tied to its open call again, or its answer is a good page or
-- a write.
use Prim.Native.Nat.{ℕ, suc, ◌+◌, ◌≤◌, ◌<◌}
use native.Mathlib.Numerals.{add-one}
use native.Mathlib.Omega.{arith}
use mathlib.Core.Path.{◌≡◌, refl, sym, ap, ◌∙◌, subst}
use mathlib.Core.List.{List}
use mathlib.Core.Option.{Option, none, some}
use lib.ListN.{length, take}
use Rattle.snapshot.specs.Lists.{over}
use Rattle.snapshot.specs.declared.Value.{Value}
use Rattle.snapshot.specs.Values.{stored}
use Rattle.snapshot.specs.Marks.{Found}
use Rattle.snapshot.specs.Tally.{Job, scan, update, Call, opens}
use Rattle.snapshot.specs.Demand.{Result}
use Rattle.snapshot.specs.Days.{State, read_from}
use Rattle.snapshot.specs.declared.Answer.TheVariants.{Written}
use Rattle.snapshot.proofs.Lists.{length_each, take_over_all}
use Rattle.snapshot.proofs.Values.{values_laid}
use Rattle.snapshot.proofs.Views.{Good, good_later}
use Rattle.snapshot.proofs.Works.{Owns, Updates, process_at, page_at, turn_at, Event, TurnDeed, turn_reads, turn_pages, turn_writes}
use Rattle.unbounded.specs.declared.Register.{Register}
use Rattle.unbounded.specs.declared.Process.{Process}
use Rattle.unbounded.specs.declared.Task.{Task}
use Rattle.unbounded.specs.declared.Task.TheVariants.{Idle, Scan, Update, Ready}
use Rattle.unbounded.specs.Registers.{value, Order, cleared, trimmed}
use Rattle.unbounded.specs.Processes.{task_of, emptied, begin}
use Rattle.unbounded.specs.Turns.{position, place_at, reads, first_after, second_after, end_after, decision, marks_after}
use Rattle.unbounded.specs.Turns.{after_read, found_by, scan_turn, update_turn, written, turned, turned_with}
use Rattle.unbounded.specs.Days.{figure3}
use Rattle.unbounded.proofs.Places.{trimmed_laid}
use Rattle.unbounded.proofs.Scans.{Permutes}
use Rattle.unbounded.proofs.Reading.{place_below, sized_emptied, sized_begin, sized_read}
use Rattle.unbounded.proofs.Scanning.{Scanned, scanning_starts, scanning_reads, scanning_patient, position_is}
use Rattle.unbounded.proofs.Ties.{register_at, Laws, Scans, Keeps, Tie, Ties, registers_stay, laws_stay, laws_write}

-- process i makes event e + 1
module _ (n : ℕ) (o : Order) (H : ℕ → State Process) (z : 0 < n) (eight : n ≤ 8) (e i : ℕ) (L : Laws n o H e) where
  abbrev before : Process
  before = process_at (figure3 o) H i e

  -- the history of the registers, and of their pages
  abbrev registers : ℕ → ℕ → Register
  registers = register_at n o H

  abbrev pages : ℕ → List Value
  pages = page_at (figure3 o) n H

  -- ---- a call only sets the task

  call_tie : (j : Job) → Owns i j → Tie n o H (suc e) i (begin n (task_of j 0) before) (task_of j 0) (some (opens (suc e) j))
  unfolding begin
  call_tie scan own =
      (refl, refl, scanning_starts n o registers i (suc e) (cleared n before.first) (cleared n before.second) 0 z)
  call_tie (update register w) own = (
    (register, own, refl),
    refl,
    scanning_starts n o registers i (suc e) (cleared n before.first) (cleared n before.second) 0 z,
  )

  pub call_works : (j : Job) → Owns i j → Ties n o H e i before none →
      let p = begin n (task_of j 0) before in
      Event (figure3 o) n H e i p →
      Laws n o H (suc e) × (value p.register ≡ value before.register) × Ties n o H (suc e) i p (some (opens (suc e) j))
  unfolding begin
  call_works j own T E = (
    laws_stay n o H e i (begin n (task_of j 0) before) L E refl,
    refl,
    record { sized = sized_begin n (task_of j 0) before eight T.sized; tie = call_tie j own },
  )

  -- ---- turns

  -- a register's view, and a good page, have n values
  view_full : (j : ℕ) → j < n → length (take n (process_at (figure3 o) H j e).register.view) ≡ n
  view_full j b = ap length ((L j b).viewed.true e (omega arith)) ∙ length_each n (λ k. value (registers k (registers j e).at))

  good_full : {s at : ℕ} {ws : List Value} → Good pages s e ws at → length ws ≡ n
  good_full {at = at} g = ap length g.true ∙ length_each n (λ k. value (registers k at))

  -- the register that is read at a position of a double collect
  abbrev read_at : ℕ → Register
  read_at pos = (process_at (figure3 o) H (o.register (place_at n pos)) e).register

  module _ (P : Permutes n o) (c : Call) (T : Ties n o H e i before (some c)) where
    -- what `Works` asks of a turn with a result
    abbrev pub Worked : Result Process → Type 0
    Worked r =
        Event (figure3 o) n H e i r.state →
        Laws n o H (suc e) × TurnDeed (figure3 o) n H (Ties n o H (suc e) i r.state) e i c r.state r.page r.answer

    -- the scan's t-th reading turn
    module _ (t : ℕ) (S : Scans n o H e i c.number t before) (il : i < n) where
      abbrev read_now : Register
      read_now = read_at (position n t)

      abbrev finds : Option (Found Value)
      finds = found_by o n (suc e) (position n t) read_now before

      -- what a read of register r at position pos leaves, if it finds no page
      abbrev ScannedAt : (pos : ℕ) → Register → Option (Found Value) → Type 0
      ScannedAt pos r =
          let a = first_after n pos r before.first in
          let b = second_after n pos r before.second in
          Scanned n o registers S il L a b (end_after n pos (suc e) before.first_end)
          (marks_after o n a b before.moved (decision o n pos a b before.moved))

      scanned_now : ((j : ℕ) → registers j (suc e) ≡ registers j e) → ScannedAt (position n t) read_now finds
      unfolding found_by
      scanned_now quiet =
          let place = place_at n S.pos in
          subst (λ pos. ScannedAt pos (read_at pos) (found_by o n (suc e) pos (read_at pos) before))
          (sym (position_is n o registers S))
          (scanning_reads n o registers S il L P (omega (arith, T.sized.marks)) (λ j. ap (λ r. r.seq) (quiet j))
          (read_at S.pos)
          (view_full (o.register place) (P.register_within place (place_below n S.pos S.attempts.low)))
          (omega (arith, T.sized.firsts)) (omega (arith, T.sized.seconds)) refl)

      -- a scan's reading turn
      module _ (page : List ℕ) (job : c.job ≡ scan) (count : c.turns ≡ t) where
        abbrev scan_result : Option (Found Value) → Result Process
        scan_result f = scan_turn o n (suc e) read_now page before t f

        scan_register : (f : Option (Found Value)) → (scan_result f).state.register ≡ before.register
        unfolding begin after_read
        scan_register none = refl
        scan_register (some f) = refl

        scan_found : (f : Option (Found Value)) → ScannedAt (position n t) read_now f → Worked (scan_result f)
        unfolding begin after_read
        scan_found none s E = (
          laws_stay n o H e i (scan_result none).state L E refl,
          turn_reads refl
              (record {
                sized = sized_read o n (suc e) (position n t) read_now before (Scan (t + 1)) before.view T.sized;
                tie = (job, ap suc count ∙ sym (add-one t), s);
              }),
        )
        scan_found (some f) good E = (
          laws_stay n o H e i (begin n Idle before) L E refl,
          turn_pages f.lender f.instant (t + 1) job (add-one t ∙ ap suc (sym count))
              (subst (λ ws. Good pages c.number e ws f.instant)
              (sym (values_laid n f.words page (good_full good))) good)
              refl (record { sized = sized_begin n Idle before eight T.sized; tie = tt }),
        )

        scan_turn_works : Worked (scan_result finds)
        scan_turn_works E =
            scan_found finds (scanned_now (registers_stay n o H e i (scan_result finds).state L E (scan_register finds))) E

      -- an update's reading turn
      module _ (page : List ℕ) (w : ℕ) (job : Updates i w c.job) (count : c.turns ≡ t) where
        abbrev update_result : Option (Found Value) → Result Process
        update_result f = update_turn o n (suc e) read_now page before w t f

        update_register : (f : Option (Found Value)) → (update_result f).state.register ≡ before.register
        unfolding after_read
        update_register none = refl
        update_register (some f) = refl

        update_found : (f : Option (Found Value)) → ScannedAt (position n t) read_now f → Worked (update_result f)
        unfolding after_read
        update_found none s E = (
          laws_stay n o H e i (update_result none).state L E refl,
          turn_reads refl
              (record {
                sized = sized_read o n (suc e) (position n t) read_now before (Update w (t + 1)) before.view T.sized;
                tie = (job, ap suc count ∙ sym (add-one t), s);
              }),
        )
        update_found (some f) good E =
            let p = (update_result (some f)).state in (
              laws_stay n o H e i p L E refl,
              turn_reads refl
                  (record {
                    sized = sized_read o n (suc e) (position n t) read_now before (Ready w f.instant (t + 1))
                        (over n f.words before.view) T.sized;
                    tie = (
                      job,
                      ap suc count ∙ sym (add-one t),
                      record {
                        good = subst (λ v. Good pages c.number (suc e) v f.instant)
                            (sym (take_over_all n f.words before.view (good_full good)))
                            (good_later pages (omega arith) good);
                        few = let q = scanning_patient n o registers S il L in omega arith;
                        own = S.attempts.own ∙ sym (ap (λ r. r.seq) (registers_stay n o H e i p L E refl i));
                      },
                    );
                  }),
            )

        update_turn_works : Worked (update_result finds)
        update_turn_works E =
            update_found finds (scanned_now (registers_stay n o H e i (update_result finds).state L E (update_register finds))) E

    -- the writing turn
    module _ (page : List ℕ) (w at t : ℕ) (job : Updates i w c.job) (count : c.turns ≡ t)
        (K : Keeps n o H e i c.number t before at) where
      abbrev after_write : Process
      after_write = emptied n (written n (suc e) w at before) Idle before

      wrote : trimmed n after_write.register
          ≡ record { value = stored (suc e) w; seq = (registers i e).seq + 1; view = take n before.view; at = at }
      unfolding written
      wrote =
          trimmed_laid n (record { value = stored (suc e) w; seq = before.register.seq + 1; view = before.view; at = at }) before.register
          (good_full K.good)

      write_works : Worked (record { state = after_write; answer = Written (t + 1); page = page })
      write_works E = (
        laws_write n o H e i after_write L E c.number w at (take n before.view) K.good K.own wrote,
        turn_writes w (t + 1) job (add-one t ∙ ap suc (sym count)) (ap value wrote)
            (record {
              sized = sized_emptied n (written n (suc e) w at before) Idle before eight T.sized;
              tie = tt;
            }),
      )

    -- every accepted turn
    pub turn_works : (page : List ℕ) → Worked (turn_at (figure3 o) n H i e page)
    unfolding turned
    turn_works page E = go before.task T.tie E
      where
        go : (k : Task) → Tie n o H e i before k (some c) →
            Worked (turned_with o n (suc e) (read_from (figure3 o) (H e).table (reads o n k)).register page before k)
        go Idle t E = absurd t
        go (Scan k) t E = scan_turn_works k t.2 E.inside page t.0 t.1 E
        go (Update w k) t E = update_turn_works k t.2 E.inside page w t.0 t.1 E
        go (Ready w at k) t E = write_works page w at k t.0 t.1 t.2 E
