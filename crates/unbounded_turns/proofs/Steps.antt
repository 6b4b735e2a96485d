-- The steps of the code, what a turn finds, the record it leaves, its answer and its page list, are together a turn of `Turns`.
use Prim.Native.Nat.{ℕ, ◌+◌, ◌-◌}
use mathlib.Core.Path.{◌≡◌, refl, sym, ap, ◌∙◌}
use mathlib.Core.Bool.{true, false, true≢false, false≢true}
use mathlib.Core.List.{List, ◌++◌}
use mathlib.Core.Option.{Option, none, some}
use native.Mathlib.Omega.{arith}
use lib.Dec.{ltb}
use lib.ListN.{length, get_or, set, take, drop, replicate}
use lib.Seq.{length-take-le}
use Rattle.snapshot.specs.Lists.{over}
use Rattle.snapshot.specs.declared.Value.{Value}
use Rattle.snapshot.specs.Values.{zero_value, page_places, listed}
use Rattle.snapshot.specs.Verdict.{Verdict, clean, lent, again}
use Rattle.snapshot.specs.Marks.{none_moved, mark_from, passed}
use Rattle.snapshot.specs.Demand.{Result}
use Rattle.snapshot.specs.Days.{read_from, turn_by}
use Rattle.snapshot.specs.declared.Day.{Day}
use Rattle.snapshot.specs.declared.Answer.TheVariants.{Read, Page}
use Rattle.snapshot.proofs.Lists.{take_over, take_over_all, over_take}
use Rattle.unbounded.specs.declared.Register.{Register}
use Rattle.unbounded.specs.declared.Process.{Process}
use Rattle.unbounded.specs.declared.Task.{Task}
use Rattle.unbounded.specs.declared.Task.TheVariants.{Idle, Scan, Update, Ready}
use Rattle.unbounded.specs.Registers.{no_register, ascending, laid, read_into, page_of, differs, collected_at}
use Rattle.unbounded.specs.Processes.{no_process, is_idle, begin}
use Rattle.unbounded.specs.Turns.{reads, position, place_at, first_after, second_after, end_after, decision, marks_after, found, after_read}
use Rattle.unbounded.specs.Turns.{found_by, scan_turn, update_turn, written, turned_with, turned}
use Rattle.unbounded.specs.Days.{figure3}
use Rattle.unbounded.proofs.Places.{page_of_long}
use Rattle.unbounded_accesses.specs.declared.Access.{Access}
use Rattle.unbounded_tasks.specs.declared.Find.{Find}
use Rattle.unbounded_accesses.specs.Accesses.{is_ready, access_of, register_in}
use Rattle.unbounded_finds.specs.Finds.{decision_find, find_of, page_by}
use Rattle.unbounded_turns.specs.Steps.{with_task, cleared_both, begun_by, view_with, read_by, collected_by, kept_by, marked_by, written_by}
use Rattle.unbounded_turns.specs.Steps.{state_by}
use Rattle.unbounded_tasks.specs.Tasks.{keeps_by, ends_by, task_by, answer_by}
use Rattle.unbounded_turns.proofs.Parts.{with_register, with_collected, with_first, with_second, with_end, with_view, with_marks}

-- a turn in the steps of the code, where it found f
abbrev pub steps : Access → Register → List ℕ → Process → Find → Task → Result Process
steps a r page p f k = record { state = state_by a r p f k; answer = answer_by f k; page = page_by a f k page }

-- ---- what a turn finds

-- n values laid over eight zeros and then over a view are those values laid over the view
over_over : (n : ℕ) (vs zs view : List Value) → length vs ≡ n → over n vs view ≡ over n (over n vs zs) view
over_over n vs zs view q = sym (ap (λ t. t ++ drop n view) (take_over n vs zs (length-take-le n vs (omega arith))))

passed_by : (n end : ℕ) (y : List Register) (v : Option Verdict) → passed n v ≡ (decision_find n end y v).passed
passed_by n end y none = refl
passed_by n end y (some clean) = refl
passed_by n end y (some (lent j)) = refl
passed_by n end y (some again) = refl

-- ---- a reading turn, the t-th of its task

module _ (n now : ℕ) (r : Register) (page : List ℕ) (p : Process) (t : ℕ) where
  abbrev a : Access
  a = record { n = n; now = now; pos = position n t }

  abbrev x : List Register
  x = first_after n (position n t) r p.first

  abbrev y : List Register
  y = second_after n (position n t) r p.second

  abbrev end : ℕ
  end = end_after n (position n t) now p.first_end

  abbrev decided : Option Verdict
  decided = decision ascending n (position n t) x y p.moved

  abbrev finds : Option Verdict → Find
  finds v = decision_find n end y v

  -- the record of task k, with task k' and view w, where the decision is v
  read_is : (v : Option Verdict) (k k' : Task) (w : List Value) → decided ≡ v →
      w ≡ view_with n (keeps_by (finds v) k) p.view →
      after_read ascending n now (position n t) r p k' w ≡ with_task k' (read_by a r p (finds v) k)
  unfolding after_read read_by marks_after
  read_is v k k' w q e =
      let marks = ap (passed n) q ∙ passed_by n end y v in
      λ i. with_task k' (with_collected x y end (e i) (mark_from (differs ascending x y) (marks i) 0 p.moved) p)

  scan_steps : (v : Option Verdict) → decided ≡ v →
      scan_turn ascending n now r page p t (found ascending n y end v) ≡ steps a r page p (finds v) (Scan t)
  unfolding state_by begin
  scan_steps none q =
      ap (λ s. record { state = s; answer = Read; page = page }) (read_is none (Scan t) (Scan (t + 1)) p.view q refl)
  scan_steps (some clean) q =
      ap (λ vs. record { state = begin n Idle p; answer = Page 0 end (t + 1); page = over (page_places n) (listed vs) page })
      (sym (take_over_all n (page_of ascending n y) (replicate 8 zero_value) (page_of_long ascending n y)))
  scan_steps (some (lent j)) q = refl
  scan_steps (some again) q =
      ap (λ s. record { state = s; answer = Read; page = page }) (read_is (some again) (Scan t) (Scan (t + 1)) p.view q refl)

  update_steps : (w : ℕ) (v : Option Verdict) → decided ≡ v →
      update_turn ascending n now r page p w t (found ascending n y end v) ≡ steps a r page p (finds v) (Update w t)
  unfolding state_by
  update_steps w none q =
      ap (λ s. record { state = s; answer = Read; page = page }) (read_is none (Update w t) (Update w (t + 1)) p.view q refl)
  update_steps w (some clean) q =
      ap (λ s. record { state = s; answer = Read; page = page })
      (read_is (some clean) (Update w t) (Ready w end (t + 1)) (over n (page_of ascending n y) p.view) q
      (over_over n (page_of ascending n y) (replicate 8 zero_value) p.view (page_of_long ascending n y)))
  update_steps w (some (lent j)) q =
      let c = collected_at ascending y j in
      ap (λ s. record { state = s; answer = Read; page = page })
      (read_is (some (lent j)) (Update w t) (Ready w c.at (t + 1)) (over n (take n c.view) p.view) q
      (over_take n c.view p.view))
  update_steps w (some again) q =
      ap (λ s. record { state = s; answer = Read; page = page })
      (read_is (some again) (Update w t) (Update w (t + 1)) p.view q refl)

-- ---- a turn of a task on a day

module _ (day : Day) (page : List ℕ) (p : Process) where
  abbrev now : ℕ
  now = day.event + 1

  reading_task : (r : Register) (k : Task) → is_idle k ≡ false → is_ready k ≡ false → let a = access_of day k in
      turned_with ascending day.count now r page p k ≡ steps a r page p (find_of a r p) k
  unfolding access_of found_by find_of
  reading_task r Idle i q = absurd (true≢false i)
  reading_task r (Scan t) i q = scan_steps day.count now r page p t (decided day.count now r page p t) refl
  reading_task r (Update w t) i q = update_steps day.count now r page p t w (decided day.count now r page p t) refl
  reading_task r (Ready w at t) i q = absurd (true≢false q)

  writing_task : (r r' : Register) (f : Find) (k : Task) → is_ready k ≡ true →
      turned_with ascending day.count now r page p k ≡ steps (access_of day k) r' page p f k
  unfolding access_of state_by written
  writing_task r r' f Idle q = absurd (false≢true q)
  writing_task r r' f (Scan t) q = absurd (false≢true q)
  writing_task r r' f (Update w t) q = absurd (false≢true q)
  writing_task r r' f (Ready w at t) q = refl

  -- a reading turn
  pub reading_is_steps : (r : Register) → is_idle p.task ≡ false → is_ready p.task ≡ false → let a = access_of day p.task in
      turned ascending day.count now r page p ≡ steps a r page p (find_of a r p) p.task
  unfolding turned
  reading_is_steps r = reading_task r p.task

  -- a writing turn, which reads no register and finds nothing: whatever it is said to have read and found
  pub writing_is_steps : (r r' : Register) (f : Find) → is_ready p.task ≡ true →
      turned ascending day.count now r page p ≡ steps (access_of day p.task) r' page p f p.task
  unfolding turned
  writing_is_steps r r' f = writing_task r r' f p.task

-- ---- a turn on a table

-- the access of record p of a table: it read register r and found f
pub data Accessed (a : Access) (ps : List Process) (p : Process) : Register → Find → Type 0 where
  a_read : is_idle p.task ≡ false → is_ready p.task ≡ false → Accessed a ps p (register_in a ps) (find_of a (register_in a ps) p)
  a_write : {r : Register} {f : Find} → is_ready p.task ≡ true → Accessed a ps p r f

register_read : (day : Day) (ps : List Process) (k : Task) → is_idle k ≡ false → is_ready k ≡ false →
    register_in (access_of day k) ps ≡ (read_from (figure3 ascending) ps (reads ascending day.count k)).register
unfolding access_of
register_read day ps Idle i q = absurd (true≢false i)
register_read day ps (Scan t) i q = refl
register_read day ps (Update w t) i q = refl
register_read day ps (Ready w at t) i q = absurd (true≢false q)

-- an accepted turn of process d
pub turn_is_steps : (day : Day) (ps : List Process) (d : ℕ) (page : List ℕ) {r : Register} {f : Find} →
    let p = get_or ps (d - 1) no_process in let a = access_of day p.task in
    Accessed a ps p r f →
    turn_by (figure3 ascending) (record { day = day; table = ps }) d page ≡ steps a r page p f p.task
unfolding turn_by
turn_is_steps day ps d page (a_read i q) =
    let p = get_or ps (d - 1) no_process in
    sym (ap (λ r. turned ascending day.count (day.event + 1) r page p) (register_read day ps p.task i q))
    ∙ reading_is_steps day page p (register_in (access_of day p.task) ps) i q
turn_is_steps day ps d page {r} {f} (a_write q) = writing_is_steps day page (get_or ps (d - 1) no_process) _ r f q

-- ---- what a walk stores

pub access_count : (day : Day) (k : Task) → (access_of day k).n ≡ day.count
unfolding access_of
access_count day k = refl

-- a call: the collects cleared, then the view, the marks and the end, then the task
pub begun_in_parts : (a : Access) (k : Task) (p : Process) →
    let q = cleared_both a.n p in
    with_task k (with_end 0 (with_marks none_moved (with_view (over a.n (replicate 8 zero_value) q.view) q))) ≡ begun_by a k p
unfolding begun_by begin cleared_both
begun_in_parts a k p = refl

module _ (a : Access) (r : Register) (p : Process) (f : Find) (k : Task) where
  -- a turn that ends its task: the register, then no task and nothing collected
  pub state_ended : ends_by f k ≡ true → begun_by a Idle (with_register (written_by a p k) p) ≡ state_by a r p f k
  unfolding state_by begun_by begin
  state_ended e = rw e

  -- any other: the read, then the task
  pub state_went_on : ends_by f k ≡ false → with_task (task_by f k) (read_by a r p f k) ≡ state_by a r p f k
  unfolding state_by
  state_went_on e = rw e

  -- the read: the register in its collect, the end of the first, then what is kept, then the marks
  pub read_in_parts : let q = collected_by a r p in
      let end = end_after a.n a.pos a.now q.first_end in
      marked_by f (kept_by a f k (with_end end q)) ≡ read_by a r p f k
  unfolding read_by collected_by kept_by marked_by
  read_in_parts = refl

-- ---- each part, as a walk stores it

module _ (a : Access) (r : Register) (p : Process) where
  abbrev place : ℕ
  place = place_at a.n a.pos

  -- the register laid into the first collect, or into the second
  pub collected_first : ltb a.pos a.n ≡ true →
      with_first (set p.first place (laid a.n r (get_or p.first place no_register))) p ≡ collected_by a r p
  unfolding collected_by first_after second_after read_into
  collected_first e = rw e

  pub collected_second : ltb a.pos a.n ≡ false →
      with_second (set p.second place (laid a.n r (get_or p.second place no_register))) p ≡ collected_by a r p
  unfolding collected_by first_after second_after read_into
  collected_second e = rw e
