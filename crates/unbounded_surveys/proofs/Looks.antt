-- A look at every record of a table finds what refusals 11 and 5 ask: what the records owe, and whether some cannot have arisen.
use Prim.Native.Nat.{ℕ, ◌+◌, ◌-◌, ◌≤◌, ◌<◌}
use mathlib.Core.Path.{◌≡◌, refl, sym, ap, ◌∙◌, subst}
use mathlib.Core.Bool.{Bool, false, ◌||◌, or_assoc}
use mathlib.Core.List.{foldl}
use native.Mathlib.Numerals.{add-one}
use native.Mathlib.Omega.{arith}
use lib.Dec.{leb, ltb}
use borrow.Author.Tests.{ltb-false, leb-false, le-ltb}
use Rattle.snapshot.specs.Days.{State}
use Rattle.snapshot.proofs.Booleans.{bool_cases, or_neither}
use Rattle.table_surveys.specs.Surveys.{survey_with, waits_by}
use Rattle.table_surveys.specs.declared.Survey.{Survey}
use Rattle.table_surveys.proofs.Surveyed.{Surveyed, Looked, owing, looked_all, waiting_looked, resting_looked}
use Rattle.unbounded.specs.declared.Process.{Process}
use Rattle.unbounded.specs.declared.Task.{Task}
use Rattle.unbounded.specs.declared.Task.TheVariants.{Idle, Scan, Update, Ready}
use Rattle.unbounded.specs.Registers.{ascending}
use Rattle.unbounded.specs.Processes.{turns_of}
use Rattle.unbounded.specs.Days.{figure3, most_reads, reads_up_to8, greatest, overdue, unsound}
use Rattle.unbounded.proofs.Limits.{few_reads, sound_due}
use Rattle.unbounded_surveys.specs.Surveys.{survey_of, register_seen, task_seen, surveyed_by}

-- ---- all records

reads_up_to_8 : (n : ℕ) → 0 < n → n ≤ 8 → reads_up_to8 n ≡ most_reads n
reads_up_to_8 n l m = simp (le-ltb n 1 (omega arith), le-ltb 8 n m)

-- on a day for 1 to 8 processes, what is found of its table is so
module _ (s : State Process) (some : 0 < s.day.count) (few : s.day.count ≤ 8) where
  abbrev most : ℕ
  most = most_reads s.day.count

  -- the survey before any record, by the most reads of a scan
  abbrev before_by : ℕ → Survey
  before_by m =
      record { scan_most = m; update_more = 1; event = s.day.event; end = s.day.event; bad = false }

  before_is : before_by most ≡ survey_of s.day
  unfolding survey_of
  before_is = ap before_by (sym (reads_up_to_8 s.day.count some few))

  -- what a look at a task leaves; an update that is being read owes the rest of its 2n² reads and its write
  task_looked : (e : ℕ) (b : Bool) (k : Task) →
      Looked (before_by most) e b (overdue most k) (greatest most k - turns_of k) (task_seen (survey_with (before_by most) e b) k)
  unfolding task_seen
  task_looked e b Idle = resting_looked (before_by most) e b
  task_looked e b (Scan t) = owing (λ q. omega arith) (waiting_looked (before_by most) e b most 0 t)
  task_looked e b (Update w t) =
      owing (λ q. let l = leb-false most t q in omega arith) (waiting_looked (before_by most) e b most 1 t)
  task_looked e b (Ready w at t) =
      let late : leb (most + 1) t ≡ ltb most t = ap (λ k. leb k t) (add-one most) in
      subst (λ late. Looked (before_by most) e b late (most + 1 - t) (waits_by (survey_with (before_by most) e b) (most + 1) 0 t)) late
      (owing (λ q. omega arith) (waiting_looked (before_by most) e b (most + 1) 0 t))

  record_looked : (e : ℕ) (b : Bool) (p : Process) →
      Looked (before_by most) e b (unsound most s.day.event p) (greatest most p.task - turns_of p.task)
      (surveyed_by (survey_with (before_by most) e b) p)
  unfolding surveyed_by register_seen unsound
  record_looked e b p =
      let a = ltb s.day.event p.register.seq in
      let c = ltb s.day.event p.register.at in
      let l = ltb s.day.event p.register.value.last in
      let o = overdue most p.task in
      let k = task_looked e (b || (a || (c || l))) p.task in
      record {
        end = k.end;
        left = k.left ∙ ap (survey_with (before_by most) k.end) (or_assoc b (a || (c || l)) o
            ∙ ap (λ x. b || x) (or_assoc a (c || l) o ∙ ap (λ x. a || x) (or_assoc c l o)));
        exact = λ q. k.exact (or_neither l o (or_neither c (l || o) (or_neither a (c || (l || o)) q).1).1).1;
      }

  pub surveyed_table : Surveyed (figure3 ascending) s (foldl surveyed_by (survey_of s.day) s.table)
  surveyed_table =
      let all = looked_all surveyed_by (before_by most) (λ p. greatest most p.task - turns_of p.task)
      (unsound most s.day.event) record_looked s.day.event false s.table in
      subst (Surveyed (figure3 ascending) s)
      (sym all.left ∙ ap (λ v. foldl surveyed_by v s.table) before_is)
      (record { scans = refl; updates = λ d w. refl; sound = refl; ends = all.exact })

-- ---- the task of a record may be looked at before its register

waits_first : (s : Survey) (seq at last most more turns : ℕ) →
    register_seen (waits_by s most more turns) seq at last ≡ waits_by (register_seen s seq at last) most more turns
unfolding register_seen
waits_first s seq at last most more turns = bool_cases (leb most turns) (λ q. rw q) (λ q. rw q)

pub task_first : (s : Survey) (k : Task) (seq at last : ℕ) →
    register_seen (task_seen s k) seq at last ≡ task_seen (register_seen s seq at last) k
unfolding task_seen register_seen
task_first s Idle seq at last = refl
task_first s (Scan t) seq at last = waits_first s seq at last s.scan_most 0 t
task_first s (Update w t) seq at last = waits_first s seq at last s.scan_most s.update_more t
task_first s (Ready w u t) seq at last = waits_first s seq at last (s.scan_most + s.update_more) 0 t

-- ---- a record that can have arisen has room for one turn and one write more

few_turns : (most : ℕ) (k : Task) → overdue most k ≡ false → turns_of k ≤ most
few_turns most Idle q = omega arith
few_turns most (Scan t) q = let l = leb-false most t q in omega arith
few_turns most (Update w t) q = let l = leb-false most t q in omega arith
few_turns most (Ready w at t) q = ltb-false most t q

pub sound_has_room : (n e : ℕ) (p : Process) → n ≤ 8 → e ≤ 65535 → unsound (most_reads n) e p ≡ false →
    (p.register.seq < 4294967295) × (turns_of p.task < 4294967295)
unfolding unsound
sound_has_room n e p l m h =
    let late = or_neither (ltb e p.register.seq) (ltb e p.register.at || (ltb e p.register.value.last || overdue (most_reads n) p.task)) h in
    let seq = ltb-false e p.register.seq late.0 in
    let turns = few_turns (most_reads n) p.task (sound_due (most_reads n) e p h) in
    let few = few_reads n l in
    (omega arith, omega arith)
