-- The record of a call or a turn, in a table that keeps its records in any form.
use Prim.Native.Nat.{ℕ, ◌-◌, ◌<◌}
use native.Mathlib.Omega.{arith}
use mathlib.Core.Path.{◌≡◌, sym, ap, subst, ◌∙◌}
use mathlib.Core.Bool.{true, false, not}
use mathlib.Core.List.{List, []}
use mathlib.Core.Option.{none}
use lib.Dec.{T}
use lib.ListN.{length, get_or, set}
use Rattle.snapshot.specs.Demand.{Result}
use Rattle.snapshot.specs.Days.{State}
use Rattle.snapshot.specs.declared.Outcome.{Outcome}
use Rattle.admission.specs.Outcomes.{accepted_outcome}
use Rattle.snapshot.specs.Requests.{number_in}
use Rattle.snapshot.specs.declared.Day.{Day}
use Rattle.snapshot.specs.declared.Request.{Request}
use Rattle.requests.specs.Requests.{item_of, is_opening, is_call}
use Rattle.unbounded.specs.declared.Process.{Process}
use Rattle.unbounded.specs.declared.Task.{Task}
use Rattle.unbounded.specs.Processes.{no_process}
use Rattle.unbounded_accesses.specs.declared.Access.{Access}
use Rattle.unbounded.specs.Registers.{zero_register}
use Rattle.unbounded_accesses.specs.Accesses.{RoomFor, is_ready, access_of, call_access}
use Rattle.unbounded_finds.specs.Finds.{nothing_found, page_by}
use Rattle.unbounded_tasks.specs.Tasks.{task_for, answer_by}
use Rattle.unbounded_turns.specs.Steps.{begun_by, state_by}
use Rattle.unbounded_turns.proofs.Steps.{access_count}
use Rattle.process_records.specs.Forms.{Form, kept, kept_at, stored_at, left_by}
use Rattle.process_records.proofs.Kept.{kept_long, kept_is, task_is, stored_left}
use Rattle.memory.specs.Tables.{state_of, outcome_of, refusal_in, accepted_in}
use Rattle.memory.specs.Turning.{TurnAt, read_at, found_at}
use Rattle.memory.proofs.Accepted.{Leaves, admits_inside, call_item, called_leaves, turn_at, page_fits, write_leaves, read_leaves}

module _ {R : Type 0} (form : Form R) (day : Day) (t : List R) where
  -- the process of an accepted call or turn is one of the table's
  pub item_inside : (page : List ℕ) (x : Request) → T (not (is_opening x)) →
      refusal_in (state_of day (kept form t)) (item_of page x) ≡ none → number_in x - 1 < length t
  item_inside page x o h =
      let l = admits_inside day (kept form t) page x o h in
      let long = kept_long form t in
      omega arith

  -- a call stores the record that it begins
  pub called_left : (x : Request) (call : T (is_call x)) → refusal_in (state_of day (kept form t)) (item_of [] x) ≡ none →
      stored_at form t (number_in x - 1) (begun_by (call_access day) (task_for x) (kept_at form t (number_in x - 1)))
      ≡ left_by form t x (accepted_in (state_of day (kept form t)) (item_of [] x)).state.table
  called_left x call h =
      let i = number_in x - 1 in
      let item = call_item x call in
      let inside = item_inside [] x item h in
      let begun : Process → Process = begun_by (call_access day) (task_for x) in
      ap (λ p. stored_at form t i (begun p)) (sym (kept_is form t i inside))
      ∙ stored_left form t x (begun (get_or (kept form t) i no_process)) _ item inside
      (called_leaves day (kept form t) [] x call).1

  -- ---- the record of a turn

  module _ (i : ℕ) (k : Task) (h : TurnAt day (kept form t) i k) where
    pub turn_inside : i < length t
    turn_inside = let l = h.inside in let long = kept_long form t in omega arith

    -- the record that it reads is one of the table's
    pub place_inside : (j : ℕ) (a : Access) → a ≡ access_of day k → j < a.n → j < length t
    place_inside j a by below =
        let full = h.full in
        let long = kept_long form t in
        let n : a.n ≡ day.count = ap (λ z. z.n) by ∙ access_count day k in
        omega arith

  -- ---- what a turn leaves

  module _ (page : List ℕ) (x : Request) (item : T (not (is_opening x))) (turns : T (not (is_call x)))
      (accepted : refusal_in (state_of day (kept form t)) (item_of page x) ≡ none) (n : ℕ) (k : Task) (place : n ≡ number_in x - 1) where
    abbrev ps : List Process
    ps = kept form t

    abbrev i : ℕ
    i = number_in x - 1

    abbrev r : Result (State Process)
    r = accepted_in (state_of day ps) (item_of page x)

    pub at_inside : n < length t
    at_inside = subst (λ m. m < length t) (sym place) (item_inside page x item accepted)

    -- the task that was read is that of the process
    pub task_at : (d : R) → k ≡ (form.read (get_or t n d)).task → k ≡ (get_or ps i no_process).task
    task_at d e = task_is form t n i k d place (item_inside page x item accepted) e

    module _ (task : k ≡ (get_or ps i no_process).task) where
      pub turn_of : TurnAt day ps n k
      turn_of =
          subst (λ m. TurnAt day ps m k) (sym place)
          (subst (λ z. TurnAt day ps i z) (sym task) (turn_at day ps page x item turns accepted))

      pub room_of : RoomFor (access_of day k) page
      room_of = subst (λ z. RoomFor (access_of day z) page) (sym task) (page_fits day ps page x item turns accepted)

      -- a turn that answers o, stores the record that by makes of the process's own, and leaves so in the page list
      abbrev pub LeavesBy : Outcome → (Process → Process) → List ℕ → Type 0
      LeavesBy o by left = (o ≡ outcome_of r) × (stored_at form t n (by (kept_at form t n)) ≡ left_by form t x r.state.table) × (left ≡ r.page)

      leaves_by : (o : Outcome) (by : Process → Process) (left : List ℕ) →
          Leaves r o (set ps i (by (get_or ps i no_process))) left → LeavesBy o by left
      leaves_by o by left l =
          let inside = item_inside page x item accepted in (
            l.0,
            ap (λ m. stored_at form t m (by (kept_at form t m))) place
                ∙ ap (λ p. stored_at form t i (by p)) (sym (kept_is form t i inside))
                ∙ stored_left form t x (by (get_or ps i no_process)) _ item inside l.1,
            l.2,
          )

      pub write_left : is_ready k ≡ true → let f = nothing_found 0 in
          LeavesBy (accepted_outcome day (answer_by f k)) (λ p. state_by (access_of day k) zero_register p f k) page
      write_left q =
          let f = nothing_found 0 in
          let ready = sym (ap is_ready task) ∙ q in
          subst (λ z. LeavesBy (accepted_outcome day (answer_by f z)) (λ p. state_by (access_of day z) zero_register p f z) page) (sym task)
          (leaves_by _ (λ p. state_by (access_of day (get_or ps i no_process).task) zero_register p f (get_or ps i no_process).task) page
          (write_leaves day ps page x item turns accepted zero_register f ready))

      pub read_left : is_ready k ≡ false → let f = found_at day ps n k in
          LeavesBy (accepted_outcome day (answer_by f k)) (λ p. state_by (access_of day k) (read_at day ps k) p f k)
          (page_by (access_of day k) f k page)
      read_left q =
          let waits = sym (ap is_ready task) ∙ q in
          subst (λ m. let f = found_at day ps m k in
          LeavesBy (accepted_outcome day (answer_by f k)) (λ p. state_by (access_of day k) (read_at day ps k) p f k)
          (page_by (access_of day k) f k page)) (sym place)
          (subst (λ z. let f = found_at day ps i z in
          LeavesBy (accepted_outcome day (answer_by f z)) (λ p. state_by (access_of day z) (read_at day ps z) p f z)
          (page_by (access_of day z) f z page)) (sym task)
          (leaves_by _ (λ p. state_by (access_of day (get_or ps i no_process).task) (read_at day ps (get_or ps i no_process).task) p
          (found_at day ps i (get_or ps i no_process).task) (get_or ps i no_process).task) _
          (read_leaves day ps page x item turns accepted waits)))
