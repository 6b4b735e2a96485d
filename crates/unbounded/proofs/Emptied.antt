-- "A call, and the answer that ends a task, set the collected part, the marks and any kept view and its at to 0": right after
-- either, a process has nothing collected, and neither has an idle process of a day grown from an opening.
use Prim.Native.Nat.{ℕ, ◌+◌, ◌-◌, ◌≤◌, ◌<◌}
use native.Mathlib.Omega.{arith}
use mathlib.Core.Path.{◌≡◌, refl, sym, ap, ◌∙◌, subst}
use mathlib.Core.Bool.{true, false, true≢false, false≢true}
use mathlib.Core.List.{List, map}
use mathlib.Core.Option.{Option, none, some}
use lib.ListN.{length, get_or, take, replicate, length-map, get_or-replicate}
use lib.Seq.{get_or-set_same, length-take-le}
use Rattle.snapshot.specs.declared.Value.{Value}
use Rattle.snapshot.specs.Values.{zero_value}
use Rattle.snapshot.specs.Lists.{over}
use Rattle.snapshot.specs.Marks.{none_moved, Found}
use Rattle.snapshot.specs.Tally.{Job, scan, update}
use Rattle.snapshot.specs.Days as Days
use Rattle.snapshot.specs.Days.{State, Item, open_for, update_call, scan_call, turn_of, sees, refusal}
use Rattle.snapshot.specs.Days.{call_causes, turn_causes, advance, called_by, read_from, turn_by, accept}
use Rattle.snapshot.specs.Refusals.{first_cause}
use Rattle.snapshot.specs.declared.Answer.{Answer}
use Rattle.snapshot.specs.declared.Answer.TheVariants.{Refused, Opened, Called, Read, Page, Written}
use Rattle.snapshot.proofs.Lists.{take_over, get_d_over, get_d_map_below, take_replicate}
use Rattle.snapshot.proofs.Owed.{actor}
use Rattle.snapshot.proofs.Admitted.{admitted_call, admitted_turn}
use Rattle.snapshot.proofs.Stepped.{grown, grown_keeps}
use Rattle.unbounded.specs.declared.Register.{Register}
use Rattle.unbounded.specs.declared.Process.{Process}
use Rattle.unbounded.specs.declared.Task.{Task}
use Rattle.unbounded.specs.declared.Task.TheVariants.{Idle, Scan, Update, Ready}
use Rattle.unbounded.specs.Registers.{no_register, zero_register, laid, cleared, trimmed, Order}
use Rattle.unbounded.specs.Processes.{is_idle, task_of, no_process, zero_process, emptied, begin}
use Rattle.unbounded.specs.Turns.{position, reads, after_read, found_by, scan_turn, update_turn, written, turned, turned_with}
use Rattle.unbounded.specs.Days.{figure3, opened_for}
use Rattle.unbounded.proofs.Places.{trimmed_laid}
use Rattle.unbounded.proofs.Reading.{Sized, sized_emptied, sized_begin, sized_read}

-- the instant of the view that a task keeps, or 0
abbrev pub kept_at : Task → ℕ
kept_at Idle = 0
kept_at (Scan t) = 0
kept_at (Update w t) = 0
kept_at (Ready w at t) = at

-- nothing is collected, on a day for n processes: all is 0 in the first n places of both collects, with n values of each view, the
-- turn that ended the first, the marks, and the kept view with its instant
pub record NothingCollected (n : ℕ) (p : Process) : Type 0 where
  pub firsts : (i : ℕ) → i < n → trimmed n (get_or p.first i no_register) ≡ trimmed n zero_register
  pub seconds : (i : ℕ) → i < n → trimmed n (get_or p.second i no_register) ≡ trimmed n zero_register
  pub end : p.first_end ≡ 0
  pub marks : p.moved ≡ none_moved
  pub view : take n p.view ≡ replicate n zero_value
  pub at : kept_at p.task ≡ 0

-- ---- records

module _ (n : ℕ) (eight : n ≤ 8) where
  cleared_zero : (rs : List Register) → 8 ≤ length rs → (i : ℕ) → i < n →
      trimmed n (get_or (cleared n rs) i no_register) ≡ trimmed n zero_register
  unfolding cleared
  cleared_zero rs l i b =
      let zeros = map (laid n zero_register) rs in
      let full : length (take n zeros) ≡ n = length-take-le n zeros (let q = length-map rs (laid n zero_register) in
      omega arith) in
      ap (trimmed n)
      (get_d_over n zeros rs i no_register full b
      ∙ get_d_map_below (laid n zero_register) rs i no_register no_register (omega arith))
      ∙ trimmed_laid n zero_register (get_or rs i no_register) (length-take-le n (replicate 8 zero_value) (omega arith))

  emptied_nothing : (r : Register) (k : Task) (p : Process) → kept_at k ≡ 0 → Sized p → NothingCollected n (emptied n r k p)
  emptied_nothing r k p q S =
      record {
        firsts = cleared_zero p.first S.firsts;
        seconds = cleared_zero p.second S.seconds;
        end = refl;
        marks = refl;
        view = take_over n (replicate 8 zero_value) p.view (length-take-le n (replicate 8 zero_value) (omega arith))
            ∙ take_replicate n 8 zero_value eight;
        at = q;
      }

  begin_nothing : (k : Task) (p : Process) → kept_at k ≡ 0 → Sized p → NothingCollected n (begin n k p)
  unfolding begin
  begin_nothing k p q S = emptied_nothing p.register k p q S

  job_keeps_none : (j : Job) → kept_at (task_of j 0) ≡ 0
  job_keeps_none scan = refl
  job_keeps_none (update register w) = refl

  zero_nothing : NothingCollected n zero_process
  zero_nothing =
      let zeros : (i : ℕ) → i < n → trimmed n (get_or (replicate 8 zero_register) i no_register) ≡ trimmed n zero_register
      = λ i b. ap (trimmed n) (get_or-replicate 8 i zero_register no_register (omega arith)) in
      record {
        firsts = zeros;
        seconds = zeros;
        end = refl;
        marks = refl;
        view = take_replicate n 8 zero_value eight;
        at = refl;
      }

-- ---- turns

-- what a call answers, and what a turn answers that ends a task
abbrev pub Empties : Answer → Type 0
Empties (Refused k) = ⊥
Empties Opened = ⊥
Empties Called = Unit {0}
Empties Read = ⊥
Empties (Page lender at turns) = Unit {0}
Empties (Written turns) = Unit {0}

module _ (o : Order) (n now : ℕ) (r : Register) (page : List ℕ) (p : Process) (eight : n ≤ 8) (S : Sized p) where
  turned_nothing : Empties (turned o n now r page p).answer → NothingCollected n (turned o n now r page p).state
  unfolding turned
  turned_nothing = go p.task
    where
      scans : (t : ℕ) (f : Option (Found Value)) → Empties (scan_turn o n now r page p t f).answer →
          NothingCollected n (scan_turn o n now r page p t f).state
      scans t none h = absurd h
      scans t (some f) h = begin_nothing n eight Idle p refl S

      updates : (w t : ℕ) (f : Option (Found Value)) → Empties (update_turn o n now r page p w t f).answer →
          NothingCollected n (update_turn o n now r page p w t f).state
      updates w t none h = absurd h
      updates w t (some f) h = absurd h

      go : (k : Task) → Empties (turned_with o n now r page p k).answer → NothingCollected n (turned_with o n now r page p k).state
      go Idle h = absurd h
      go (Scan t) h = scans t (found_by o n now (position n t) r p) h
      go (Update w t) h = updates w t (found_by o n now (position n t) r p) h
      go (Ready w at t) h = emptied_nothing n eight (written n now w at p) Idle p refl S

  -- a turn that leaves its process idle ends a task
  turned_idle : is_idle p.task ≡ false → is_idle (turned o n now r page p).state.task ≡ true →
      Empties (turned o n now r page p).answer
  unfolding turned after_read
  turned_idle = go p.task
    where
      scans : (t : ℕ) (f : Option (Found Value)) → is_idle (scan_turn o n now r page p t f).state.task ≡ true →
          Empties (scan_turn o n now r page p t f).answer
      scans t none h = absurd (false≢true h)
      scans t (some f) h = tt

      updates : (w t : ℕ) (f : Option (Found Value)) → is_idle (update_turn o n now r page p w t f).state.task ≡ true →
          Empties (update_turn o n now r page p w t f).answer
      updates w t none h = absurd (false≢true h)
      updates w t (some f) h = absurd (false≢true h)

      go : (k : Task) → is_idle k ≡ false → is_idle (turned_with o n now r page p k).state.task ≡ true →
          Empties (turned_with o n now r page p k).answer
      go Idle b h = absurd (true≢false b)
      go (Scan t) b h = scans t (found_by o n now (position n t) r p) h
      go (Update w t) b h = updates w t (found_by o n now (position n t) r p) h
      go (Ready w at t) b h = tt

  turned_sized : Sized (turned o n now r page p).state
  unfolding turned
  turned_sized = go p.task
    where
      scans : (t : ℕ) (f : Option (Found Value)) → Sized (scan_turn o n now r page p t f).state
      scans t none = sized_read o n now (position n t) r p (Scan (t + 1)) p.view S
      scans t (some f) = sized_begin n Idle p eight S

      updates : (w t : ℕ) (f : Option (Found Value)) → Sized (update_turn o n now r page p w t f).state
      updates w t none = sized_read o n now (position n t) r p (Update w (t + 1)) p.view S
      updates w t (some f) =
          sized_read o n now (position n t) r p (Ready w f.instant (t + 1)) (over n f.words p.view) S

      go : (k : Task) → Sized (turned_with o n now r page p k).state
      go Idle = S
      go (Scan t) = scans t (found_by o n now (position n t) r p)
      go (Update w t) = updates w t (found_by o n now (position n t) r p)
      go (Ready w at t) = sized_emptied n (written n now w at p) Idle p eight S

-- ---- days

module _ (o : Order) (s : State Process) (d : ℕ) where
  abbrev left : Process → Process
  left p = get_or (advance (figure3 o) s d p).table (d - 1) no_process

  left_is : (p : Process) → d - 1 < length s.table → left p ≡ p
  unfolding advance
  left_is p l = get_or-set_same s.table (d - 1) p no_process l

  call_empties : (j : Job) → first_cause (call_causes (figure3 o) s d j) ≡ none → Sized (get_or s.table (d - 1) no_process) →
      NothingCollected s.day.count (get_or (called_by (figure3 o) s d j).table (d - 1) no_process)
  unfolding called_by
  call_empties j q S =
      let a = admitted_call (figure3 o) s d j q in
      let n = s.day.count in
      let p = get_or s.table (d - 1) no_process in
      let l = a.suited.size in
      let m = a.suited.among in
      subst (NothingCollected n) (sym (left_is (begin n (task_of j 0) p) (omega arith)))
      (begin_nothing n a.suited.small (task_of j 0) p (job_keeps_none n a.suited.small j) S)

  answer_empties : (page : List ℕ) → first_cause (turn_causes (figure3 o) s d page) ≡ none →
      Empties (turn_by (figure3 o) s d page).answer → Sized (get_or s.table (d - 1) no_process) →
      NothingCollected s.day.count (left (turn_by (figure3 o) s d page).state)
  unfolding turn_by
  answer_empties page q h S =
      let a = admitted_turn (figure3 o) s d page q in
      let n = s.day.count in
      let p = get_or s.table (d - 1) no_process in
      let l = a.suited.size in
      let m = a.suited.among in
      subst (NothingCollected n) (sym (left_is (turn_by (figure3 o) s d page).state (omega arith)))
      (turned_nothing o n (s.day.event + 1) (read_from (figure3 o) s.table (reads o n p.task)).register page p
      a.suited.small S h)

-- right after an accepted call, and right after an accepted turn that answers a page or a written entry, its process has nothing
-- collected; its arrays have their eight places, as those of every lent record do
pub call_or_answer_empties : (o : Order) (s : State Process) (x : Item) → refusal (figure3 o) s x ≡ none →
    Empties (accept (figure3 o) s x).answer → Sized (get_or s.table (actor (sees x)) no_process) →
    NothingCollected s.day.count (get_or (accept (figure3 o) s x).state.table (actor (sees x)) no_process)
unfolding refusal accept
call_or_answer_empties o s (open_for k) q h S = absurd h
call_or_answer_empties o s (update_call d w) q h S = call_empties o s d (update d w) q S
call_or_answer_empties o s (scan_call d) q h S = call_empties o s d scan q S
call_or_answer_empties o s (turn_of d page) q h S = answer_empties o s d page q h S

-- an idle process of a day grown from an opening has nothing collected
pub idle_has_nothing : (o : Order) (n : ℕ) → 0 < n → n ≤ 8 → (xs : List Item) (i : ℕ) → i < n →
    let p = get_or (grown (figure3 o) (opened_for n) xs).table i no_process in
    is_idle p.task ≡ true → NothingCollected n p
unfolding Days.opened_for
idle_has_nothing o n z eight xs i b =
    (grown_keeps (figure3 o) n z (λ p. Sized p × (is_idle p.task ≡ true → NothingCollected n p))
    (λ j p l k. (sized_begin n (task_of j 0) p l k.0, λ h. begin_nothing n l (task_of j 0) p (job_keeps_none n eight j) k.0))
    (λ i now other page p l busy read k. (
      turned_sized o n now other.register page p l k.0,
      λ h. turned_nothing o n now other.register page p l k.0
          (turned_idle o n now other.register page p l k.0 busy h),
    ))
    (record { firsts = omega arith; seconds = omega arith; marks = omega arith }, λ h. zero_nothing n eight) xs i b).1
