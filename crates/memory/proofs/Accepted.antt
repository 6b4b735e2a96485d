-- What the functions over the table find out is what the day's definitions say: a request that is refused, one that passes every
-- check, and what an accepted call or turn leaves.
use Prim.Native.Nat.{ℕ, ◌-◌, ◌≤◌, ◌<◌}
use native.Mathlib.Omega.{arith}
use mathlib.Core.Path.{◌≡◌, refl, sym, ap, ◌∙◌, subst}
use mathlib.Core.Bool.{true, false, not, false≢true}
use mathlib.Core.List.{List, [], map, foldl}
use mathlib.Core.Option.{Option, none, some}
use lib.Dec.{T}
use lib.ListN.{length, get_or, set, replicate, length-replicate}
use Rattle.snapshot.specs.Values.{page_places}
use Rattle.snapshot.specs.Requests.{number_in}
use Rattle.snapshot.specs.Demand.{Result, step}
use Rattle.snapshot.specs.Days.{State, Item, open_for, page_lent, opened_by, advance, called_by, accept}
use Rattle.snapshot.specs.Days as Days
use Rattle.snapshot.specs.declared.Day.{Day}
use Rattle.snapshot.specs.declared.Outcome.{Outcome}
use Rattle.snapshot.specs.declared.Refusal.{Refusal}
use Rattle.snapshot.specs.declared.Request.{Request}
use Rattle.snapshot.specs.declared.Request.TheVariants.{Open, Update, Scan, Turn}
use Rattle.snapshot.specs.declared.Answer.TheVariants.{Called}
use Rattle.snapshot.proofs.Lists.{some_of_false}
use Rattle.requests.specs.Requests.{item_of, page_after, is_opening, is_call}
use Rattle.admission.specs.Checks.{opening_refusal, first_refusal, last_refusal}
use Rattle.admission.specs.Outcomes.{refused_outcome, accepted_outcome, opened_outcome}
use Rattle.table_surveys.specs.declared.Survey.{Survey}
use Rattle.admission.proofs.Checked.{opening_checks_lem, Passed, Accepted, accepted_item, accepted_turn}
use Rattle.admission.proofs.Checked.{first_refuses, first_passes, last_refuses}
use Rattle.unbounded.specs.declared.Register.{Register}
use Rattle.unbounded.specs.declared.Process.{Process}
use Rattle.unbounded.specs.declared.Task.{Task}
use Rattle.unbounded.specs.declared.Task.TheVariants as Tasks
use Rattle.unbounded.specs.Registers.{ascending}
use Rattle.unbounded.specs.Processes.{no_process, zero_process, is_idle}
use Rattle.unbounded.specs.Days.{figure3, most_reads, unsound, stepped}
use Rattle.unbounded_accesses.specs.declared.Access.{Access}
use Rattle.unbounded_tasks.specs.declared.Find.{Find}
use Rattle.unbounded_accesses.specs.Accesses.{Admits, is_ready, access_of, call_access, RoomFor}
use Rattle.unbounded_finds.specs.Finds.{page_by}
use Rattle.unbounded_turns.specs.Steps.{begun_by, state_by}
use Rattle.unbounded_tasks.specs.Tasks.{task_for, answer_by}
use Rattle.unbounded_surveys.specs.Surveys.{survey_of, surveyed_by}
use Rattle.unbounded_turns.proofs.Steps.{access_count, Accessed, a_read, a_write, turn_is_steps}
use Rattle.unbounded.proofs.Limits.{busy_owes, sound_due}
use Rattle.unbounded_surveys.proofs.Looks.{surveyed_table, sound_has_room}
use Rattle.memory.specs.Tables.{state_of, outcome_of, refusal_in, accepted_in}
use Rattle.memory.specs.Turning.{TurnAt, read_at, found_at}

-- ---- one item

-- a result as the code leaves it: the outcome, the table and the page list
abbrev pub Leaves : Result (State Process) → Outcome → List Process → List ℕ → Type 0
Leaves r o ps page = (o ≡ outcome_of r) × (ps ≡ r.state.table) × (page ≡ r.page)

pub stepped_refused : (s : State Process) (x : Item) (k : Refusal) → refusal_in s x ≡ some k →
    Leaves (stepped s x) (refused_outcome s.day (some k)) s.table (page_lent x)
unfolding Days.stepped step
stepped_refused s x k e = rw e (refl, refl, refl)

pub stepped_accepted : (s : State Process) (x : Item) → refusal_in s x ≡ none → accepted_in s x ≡ stepped s x
unfolding Days.stepped step
stepped_accepted s x e = rw e

-- ---- requests by kind

pub call_item : (x : Request) → T (is_call x) → T (not (is_opening x))
call_item (Open k) c = absurd c
call_item (Update d w) c = tt
call_item (Scan d) c = tt
call_item (Turn d) c = absurd c

pub call_same : (page : List ℕ) (x : Request) → T (is_call x) → item_of [] x ≡ item_of page x
call_same page (Open k) c = absurd c
call_same page (Update d w) c = refl
call_same page (Scan d) c = refl
call_same page (Turn d) c = absurd c

-- the page list after one
module _ (page : List ℕ) (r : Result (State Process)) where
  pub after_opening : (x : Request) → T (is_opening x) → page ≡ page_after page r x
  after_opening (Open k) o = refl
  after_opening (Update d w) o = absurd o
  after_opening (Scan d) o = absurd o
  after_opening (Turn d) o = absurd o

  pub after_call : (x : Request) → T (is_call x) → page ≡ page_after page r x
  after_call (Open k) c = absurd c
  after_call (Update d w) c = refl
  after_call (Scan d) c = refl
  after_call (Turn d) c = absurd c

  pub after_turn : (x : Request) → T (not (is_opening x)) → T (not (is_call x)) → r.page ≡ page_after page r x
  after_turn (Open k) o c = absurd o
  after_turn (Update d w) o c = absurd c
  after_turn (Scan d) o c = absurd c
  after_turn (Turn d) o c = refl

  pub after_refusal : (x : Request) → page_lent (item_of page x) ≡ r.page → page ≡ page_after page r x
  after_refusal (Open k) e = refl
  after_refusal (Update d w) e = refl
  after_refusal (Scan d) e = refl
  after_refusal (Turn d) e = e

-- ---- openings

pub opening_refused : (s : State Process) (k : ℕ) → opening_refusal s.day (length s.table) k ≡ refusal_in s (open_for k)
opening_refused s k = opening_checks_lem (figure3 ascending) s k

pub opened_leaves : (s : State Process) (k : ℕ) →
    Leaves (accepted_in s (open_for k)) (opened_outcome k) (map (λ p. zero_process) s.table) []
unfolding accept opened_by
opened_leaves s k = (refl, refl, refl)

-- ---- calls and turns

module _ (day : Day) (ps : List Process) where
  abbrev s : State Process
  s = state_of day ps

  abbrev surveyed : Survey
  surveyed = foldl surveyed_by (survey_of day) ps

  module _ (x : Request) (item : T (not (is_opening x))) (words : ℕ) where
    abbrev first : Option Refusal
    first = first_refusal day (length ps) surveyed x words

    pub plan_refuses : (k : Refusal) → first ≡ some k → (page : List ℕ) → length page ≡ words →
        some k ≡ refusal_in s (item_of page x)
    plan_refuses k e page q =
        sym (first_refuses (figure3 ascending) (λ n. refl) s page x item surveyed (surveyed_table s) k
        (ap (first_refusal day (length ps) surveyed x) q ∙ e))

    module _ (passed : first ≡ none) where
      suits : Passed (figure3 ascending) s (replicate words 0) x
      suits =
          first_passes (figure3 ascending) (λ n. refl) s (replicate words 0) x item surveyed (surveyed_table s)
          (ap (first_refusal day (length ps) surveyed x) (length-replicate words 0) ∙ passed)

      -- the process is one of the table's
      pub plan_inside : number_in x - 1 < length ps
      plan_inside = let n = suits.among in let l = suits.size in omega arith

      pub plan_last : (page : List ℕ) → length page ≡ words →
          last_refusal surveyed x (is_idle (get_or ps (number_in x - 1) no_process).task) ≡ refusal_in s (item_of page x)
      plan_last page q =
          last_refuses (figure3 ascending) (λ n. refl) s page x item surveyed (surveyed_table s)
          (ap (first_refusal day (length ps) surveyed x) q ∙ passed)

  -- ---- what an accepted request leaves

  module _ (page : List ℕ) (x : Request) (item : T (not (is_opening x))) (accepted : refusal_in s (item_of page x) ≡ none) where
    pub admits : Accepted (figure3 ascending) s page x
    admits =
        accepted_item (figure3 ascending) (λ n. refl) s page (λ n e p. busy_owes (most_reads n) e p) x item accepted

    pub admits_day : Admits day Tasks.Idle
    admits_day = record { some = admits.suited.opened; small = admits.suited.small; room = admits.room; due = refl }

    pub admits_inside : number_in x - 1 < length ps
    admits_inside = let n = admits.suited.among in let l = admits.suited.size in omega arith

  pub called_leaves : (page : List ℕ) (x : Request) → T (is_call x) → let i = number_in x - 1 in
      Leaves (accepted_in s (item_of page x)) (accepted_outcome day Called)
      (set ps i (begun_by (call_access day) (task_for x) (get_or ps i no_process))) []
  unfolding accept called_by advance call_access begun_by
  called_leaves page (Open k) c = absurd c
  called_leaves page (Update d w) c = (refl, refl, refl)
  called_leaves page (Scan d) c = (refl, refl, refl)
  called_leaves page (Turn d) c = absurd c

  -- a writing turn leaves the page list
  page_kept : (a : Access) (f : Find) (k : Task) (page : List ℕ) → is_ready k ≡ true → page_by a f k page ≡ page
  page_kept a f Tasks.Idle page q = refl
  page_kept a f (Tasks.Scan t) page q = absurd (false≢true q)
  page_kept a f (Tasks.Update w t) page q = refl
  page_kept a f (Tasks.Ready w at t) page q = refl

  -- by a turn that read r and found f
  turned_leaves : (page : List ℕ) (x : Request) → T (not (is_opening x)) → T (not (is_call x)) → {r : Register} {f : Find} →
      let i = number_in x - 1 in let p = get_or ps i no_process in let a = access_of day p.task in
      Accessed a ps p r f →
      Leaves (accepted_in s (item_of page x)) (accepted_outcome day (answer_by f p.task)) (set ps i (state_by a r p f p.task))
      (page_by a f p.task page)
  unfolding accept advance
  turned_leaves page (Open k) o c h = absurd o
  turned_leaves page (Update d w) o c h = absurd c
  turned_leaves page (Scan d) o c h = absurd c
  turned_leaves page (Turn d) o c h =
      let e = sym (turn_is_steps day ps d page h) in
      (ap (λ z. accepted_outcome day z.answer) e, ap (λ z. set ps (d - 1) z.state) e, ap (λ z. z.page) e)

  module _ (page : List ℕ) (x : Request) (item : T (not (is_opening x))) (turns : T (not (is_call x)))
      (accepted : refusal_in s (item_of page x) ≡ none) where
    abbrev i : ℕ
    i = number_in x - 1

    abbrev p : Process
    p = get_or ps i no_process

    -- the conditions of a turn on the table
    pub turn_at : TurnAt day ps i p.task
    turn_at =
        let a = admits page x item accepted in
        let inside = admits_inside page x item accepted in
        let room = a.room in
        let sound =
        some_of_false (unsound (most_reads day.count) day.event) ps no_process a.suited.sound i inside in
        let few = sound_has_room day.count day.event p a.suited.small (omega arith) sound in
        let due = sound_due (most_reads day.count) day.event p sound in
        let size = a.suited.size in
        record {
          allows = record { some = a.suited.opened; small = a.suited.small; room = a.room; due = due };
          full = omega arith;
          inside = inside;
          task = refl;
          seq = few.0;
          turns = few.1;
        }

    pub page_long : page_places day.count ≤ length page
    page_long = (accepted_turn (figure3 ascending) (λ n. refl) s page x item turns accepted).1

    pub page_fits : RoomFor (access_of day p.task) page
    page_fits = subst (λ n. page_places n ≤ length page) (sym (access_count day p.task)) page_long

    busy : is_idle p.task ≡ false
    busy = (accepted_turn (figure3 ascending) (λ n. refl) s page x item turns accepted).2

    pub write_leaves : (r : Register) (f : Find) → is_ready p.task ≡ true →
        Leaves (accepted_in s (item_of page x)) (accepted_outcome day (answer_by f p.task))
        (set ps i (state_by (access_of day p.task) r p f p.task)) page
    write_leaves r f q =
        let l = turned_leaves page x item turns {r = r} {f = f} (a_write q) in
        (l.0, l.1, sym (page_kept (access_of day p.task) f p.task page q) ∙ l.2)

    pub read_leaves : is_ready p.task ≡ false → let f = found_at day ps i p.task in
        Leaves (accepted_in s (item_of page x)) (accepted_outcome day (answer_by f p.task))
        (set ps i (state_by (access_of day p.task) (read_at day ps p.task) p f p.task))
        (page_by (access_of day p.task) f p.task page)
    read_leaves q = turned_leaves page x item turns (a_read busy q)
