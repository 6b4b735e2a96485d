-- What is found of a table that keeps its records in any form, and what a request leaves of it.
use Prim.Native.Nat.{ℕ, ◌-◌}
use mathlib.Core.Path.{◌≡◌, refl, sym, ap, ◌∙◌}
use mathlib.Core.Bool.{Bool, true, false, not, cond}
use mathlib.Core.List.{List, [], ◌∷◌, map, foldl}
use mathlib.Core.Option.{Option, none, some}
use lib.Dec.{T}
use lib.ListN.{length, get_or}
use Rattle.std.specs.Prelude.{None, Some}
use Rattle.snapshot.specs.Requests.{number_in}
use Rattle.snapshot.specs.Demand.{Result}
use Rattle.snapshot.specs.Days.{State, Item, open_for, page_lent, accept}
use Rattle.snapshot.specs.declared.Day.{Day}
use Rattle.snapshot.specs.declared.Outcome.{Outcome}
use Rattle.snapshot.specs.declared.Request.{Request}
use Rattle.snapshot.specs.declared.Request.TheVariants.{Open, Update, Scan, Turn}
use Rattle.snapshot.specs.declared.Refusal.{Refusal}
use Rattle.requests.specs.Requests.{item_of, is_opening, is_call}
use Rattle.admission.specs.Checks.{first_refusal}
use Rattle.admission.specs.Outcomes.{refused_outcome, opened_outcome}
use Rattle.table_surveys.specs.declared.Survey.{Survey}
use Rattle.unbounded.specs.declared.Process.{Process}
use Rattle.unbounded.specs.declared.Task.{Task}
use Rattle.unbounded.specs.declared.Task.TheVariants as Tasks
use Rattle.unbounded.specs.Registers.{zero_register}
use Rattle.unbounded.specs.Processes.{no_process, zero_process}
use Rattle.unbounded.specs.Days.{stepped}
use Rattle.unbounded_tasks.specs.declared.Find.{Find}
use Rattle.unbounded_accesses.specs.Accesses.{is_ready}
use Rattle.unbounded_finds.specs.Finds.{nothing_found}
use Rattle.unbounded_tasks.specs.Tasks.{answer_by}
use Rattle.unbounded_surveys.specs.Surveys.{survey_of, surveyed_by}
use Rattle.memory.specs.Tables.{state_of, outcome_of, refusal_in, accepted_in}
use Rattle.memory.specs.Turning.{found_at}
use Rattle.memory.proofs.Accepted.{stepped_refused, stepped_accepted, opened_leaves, write_leaves, read_leaves}
use Rattle.process_records.specs.Forms.{Form, kept, left_by}
use Rattle.process_records.proofs.Kept.{kept_long}
use Rattle.memory.specs.Left.{is_refused, table_left}

-- what the first check finds of a table of packed records it finds of the records
pub first_found : {R : Type 0} (form : Form R) (day : Day) (t : List R) (x : Request) (words : ℕ) {s₀ s : Survey} {c : Option Refusal} →
    s₀ ≡ survey_of day → s ≡ foldl surveyed_by s₀ (kept form t) → c ≡ first_refusal day (length t) s x words →
    c ≡ first_refusal day (length (kept form t)) (foldl surveyed_by (survey_of day) (kept form t)) x words
first_found form day t x words e₀ e h =
    let long = sym (kept_long form t) in
    let found = e ∙ ap (λ v. foldl surveyed_by v (kept form t)) e₀ in
    h ∙ (λ i. first_refusal day (long i) (found i) x words)

-- ---- what a request leaves

-- by an answer that is a refusal, and by one that is none
module _ {R : Type 0} (form : Form R) (t : List R) (x : Request) (r : Result (State Process)) where
  pub after_refused : is_refused r.answer ≡ true → t ≡ table_left form t x r
  after_refused e = ap (λ b. cond b t (left_by form t x r.state.table)) (sym e)

  pub after_accepted : is_refused r.answer ≡ false → left_by form t x r.state.table ≡ table_left form t x r
  after_accepted e = ap (λ b. cond b t (left_by form t x r.state.table)) (sym e)

pub answer_accepted : (f : Find) (k : Task) → is_refused (answer_by f k) ≡ false
answer_accepted f Tasks.Idle = refl
answer_accepted f (Tasks.Scan t) =
    elim f.page as (λ p. is_refused (answer_by (record { page = p; passed = f.passed }) (Tasks.Scan t)) ≡ false) [
      | None ↦ refl
      | Some page ↦ refl
    ]
answer_accepted f (Tasks.Update w t) = refl
answer_accepted f (Tasks.Ready w at t) = refl

-- an accepted turn is answered by no refusal
module _ (day : Day) (ps : List Process) (page : List ℕ) (x : Request) (item : T (not (is_opening x))) (turns : T (not (is_call x)))
    (accepted : refusal_in (state_of day ps) (item_of page x) ≡ none) where
  abbrev k : Task
  k = (get_or ps (number_in x - 1) no_process).task

  by_ready : (b : Bool) → is_ready k ≡ b → is_refused (accepted_in (state_of day ps) (item_of page x)).answer ≡ false
  by_ready true q =
      sym (ap (λ o. is_refused o.answer)
      (write_leaves day ps page x item turns accepted zero_register (nothing_found 0) q).0)
      ∙ answer_accepted (nothing_found 0) k
  by_ready false q =
      sym (ap (λ o. is_refused o.answer) (read_leaves day ps page x item turns accepted q).0)
      ∙ answer_accepted (found_at day ps (number_in x - 1) k) k

  pub turn_accepted : is_refused (accepted_in (state_of day ps) (item_of page x)).answer ≡ false
  turn_accepted = by_ready (is_ready k) refl

-- an accepted request is answered by no refusal
pub answered : (day : Day) (ps : List Process) (page : List ℕ) (x : Request) → refusal_in (state_of day ps) (item_of page x) ≡ none →
    is_refused (accepted_in (state_of day ps) (item_of page x)).answer ≡ false
unfolding accept
answered day ps page (Open k) h = refl
answered day ps page (Update i w) h = refl
answered day ps page (Scan i) h = refl
answered day ps page (Turn i) h = turn_accepted day ps page (Turn i) tt tt h

-- ---- openings

pub cleared_left : {R : Type 0} (form : Form R) (t : List R) →
    map (λ r. form.fresh zero_process) t ≡ map form.fresh (map (λ p. zero_process) (kept form t))
cleared_left form [] = refl
cleared_left {R = R} form (r ∷ t) = ap {B = List R} (λ rs. form.fresh zero_process ∷ rs) (cleared_left form t)

-- ---- the step

module _ {R : Type 0} (form : Form R) (day : Day) (t : List R) where
  abbrev s : State Process
  s = state_of day (kept form t)

  -- the outcome o and the table t' are those of item a, which is request x with some page list
  abbrev pub IsLeft : Request → Item → Outcome → List R → Type 0
  IsLeft x a o t' = (o ≡ outcome_of (stepped s a)) × (t' ≡ table_left form t x (stepped s a))

  -- where it is refused, with the page list that it leaves
  pub left_refused : (x : Request) (a : Item) (k : Refusal) → refusal_in s a ≡ some k →
      (refused_outcome day (some k) ≡ outcome_of (stepped s a)) × (t ≡ table_left form t x (stepped s a)) × (page_lent a ≡ (stepped s a).page)
  left_refused x a k h =
      let l = stepped_refused s a k h in
      (l.0, after_refused form t x (stepped s a) (sym (ap (λ o. is_refused o.answer) l.0)), l.2)

  -- where it is accepted
  pub left_accepted : {o : Outcome} {t' : List R} (page : List ℕ) (x : Request) → let a = item_of page x in refusal_in s a ≡ none →
      o ≡ outcome_of (accepted_in s a) → t' ≡ left_by form t x (accepted_in s a).state.table → IsLeft x a o t'
  left_accepted page x h v u =
      let a = item_of page x in
      let same = stepped_accepted s a h in (
        v ∙ ap outcome_of same,
        u
            ∙ ap (λ r. left_by form t x r.state.table) same
            ∙ after_accepted form t x (stepped s a) (sym (ap (λ r. is_refused r.answer) same) ∙ answered day (kept form t) page x h),
      )

  pub left_opened : (k : ℕ) → refusal_in s (open_for k) ≡ none →
      IsLeft (Open k) (open_for k) (opened_outcome k) (map (λ r. form.fresh zero_process) t)
  left_opened k h =
      let l = opened_leaves s k in
      left_accepted [] (Open k) h l.0
      (cleared_left form t ∙ ap (map form.fresh) l.1)

  -- an opening, by the number of its processes
  pub left_opening : {o : Outcome} {t' : List R} (page : List ℕ) (x : Request) (k : ℕ) → k ≡ number_in x → T (is_opening x) →
      IsLeft (Open k) (open_for k) o t' → IsLeft x (item_of page x) o t'
  left_opening page (Open n) k e h l =
      (l.0 ∙ ap (λ m. outcome_of (stepped s (open_for m))) e, l.1 ∙ ap (λ m. table_left form t (Open m) (stepped s (open_for m))) e)
  left_opening page (Update d w) k e h l = absurd h
  left_opening page (Scan d) k e h l = absurd h
  left_opening page (Turn d) k e h l = absurd h
