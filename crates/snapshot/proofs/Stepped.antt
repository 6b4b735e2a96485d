-- One item on any day, for every machine: the step of the code's contracts is that of demand 3, a refusal changes nothing, and
-- what calls and turns keep of a record holds on every day grown from an opening.
use Prim.Native.Nat.{ℕ, ◌+◌, ◌-◌, ◌≤◌, ◌<◌}
use native.Mathlib.Omega.{arith}
use native.Mathlib.Decide.{ℕ_discrete}
use mathlib.Core.Path.{◌≡◌, refl, sym, ap, ◌∙◌, subst}
use mathlib.Core.Logic.{by_cases}
use mathlib.Core.Bool.{false}
use mathlib.Core.List.{List, [], ◌∷◌}
use mathlib.Core.Option.{Option, none, some}
use lib.ListN.{length, get_or, get_or-replicate}
use lib.Seq.{get_or-set_same, get_or-set_other}
use Rattle.snapshot.specs.declared.Refusal.{Refusal}
use Rattle.snapshot.specs.declared.Answer.TheVariants.{Refused}
use Rattle.snapshot.specs.Refusals.{first_cause}
use Rattle.snapshot.specs.Tally.{Job, scan, update}
use Rattle.snapshot.specs.Demand.{admit, step, refusal_of}
use Rattle.snapshot.specs.Days.{Machine, State, Item, open_for, update_call, scan_call, turn_of, page_lent}
use Rattle.snapshot.specs.Days.{process_of, call_causes, turn_causes, refusal}
use Rattle.snapshot.specs.Days.{advance, called_by, read_from, turn_by, accept, method, opened_for, stepped}
use Rattle.snapshot.proofs.Admitted.{admitted_call, admitted_turn, admitted_opening}

module _ (M : Machine) (s : State M.Process) (x : Item) where
  -- the step that the code's contracts speak of is that of demand 3, for whatever number of processes demand 3 is asked
  pub stepped_is_step : (n : ℕ) → stepped M s x ≡ step (method M n) s x
  unfolding stepped step
  stepped_is_step n = go (refusal M s x)
    where
      go : (k : Option Refusal) → admit (method M s.day.count) s x k ≡ admit (method M n) s x k
      go none = refl
      go (some k) = refl

  -- "Only the number is returned. Day, records and page remain unchanged"
  pub refusal_changes_nothing : (k : Refusal) → refusal M s x ≡ some k →
      stepped M s x ≡ record { state = s; answer = Refused k; page = page_lent x }
  unfolding stepped step
  refusal_changes_nothing k q = ap (λ o. admit (method M s.day.count) s x o) q

  pub acceptance_does : refusal M s x ≡ none → stepped M s x ≡ accept M s x
  unfolding stepped step
  acceptance_does q = ap (λ o. admit (method M s.day.count) s x o) q

-- a machine none of whose turns answers a refusal answers one just where it refuses
module _ (M : Machine) (turns : (n i now : ℕ) (other : M.Process) (page : List ℕ) (p : M.Process) →
    refusal_of (M.turned n i now other page p).answer ≡ none) where
  accepted_answer : (s : State M.Process) (x : Item) → refusal_of (accept M s x).answer ≡ none
  unfolding accept turn_by
  accepted_answer s (open_for k) = refl
  accepted_answer s (update_call d w) = refl
  accepted_answer s (scan_call d) = refl
  accepted_answer s (turn_of d page) = turns _ _ _ _ page (process_of M s d)

  pub answers_refusal : (s : State M.Process) (x : Item) → refusal_of (stepped M s x).answer ≡ refusal M s x
  answers_refusal s x = go (refusal M s x) refl
    where
      go : (k : Option Refusal) → refusal M s x ≡ k → refusal_of (stepped M s x).answer ≡ k
      go none q = ap (λ r. refusal_of r.answer) (acceptance_does M s x q) ∙ accepted_answer s x
      go (some k) q = ap (λ r. refusal_of r.answer) (refusal_changes_nothing M s x k q)

-- ---- days grown from an opening

-- the state that a list of items grows from s, each lent what the one before left
abbrev pub grown : (M : Machine) → State M.Process → List Item → State M.Process
grown M s [] = s
grown M s (x ∷ xs) = grown M (stepped M s x).state xs

-- Kept: what holds of the zero record, and what calls and turns of a day for n processes keep, if the record read has it too
module _ (M : Machine) (n : ℕ) (z : 0 < n) (Kept : M.Process → Type 0)
    (calls : (j : Job) (p : M.Process) → n ≤ 8 → Kept p → Kept (M.called n j p))
    (turns : (i now : ℕ) (other : M.Process) (page : List ℕ) (p : M.Process) → n ≤ 8 → M.is_idle p ≡ false →
    ((j : ℕ) → M.reads n p ≡ some j → j < n → Kept other) → Kept p → Kept (M.turned n i now other page p).state) where
  pub record Holding (s : State M.Process) : Type 0 where
    pub count : s.day.count ≡ n
    pub kept : (i : ℕ) → i < n → Kept (get_or s.table i M.no_process)

  advance_holds : (s : State M.Process) (d : ℕ) (p : M.Process) → d - 1 < length s.table → Holding s → Kept p →
      Holding (advance M s d p)
  unfolding advance
  advance_holds s d p l h k =
      record {
        count = h.count;
        kept = λ i b. by_cases (ℕ_discrete i (d - 1))
            (λ q. subst Kept (sym (ap (λ j. get_or (advance M s d p).table j M.no_process) q
            ∙ get_or-set_same s.table (d - 1) p M.no_process l)) k)
            (λ q. subst Kept (sym (get_or-set_other s.table (d - 1) i p M.no_process q)) (h.kept i b));
      }

  call_holds : (s : State M.Process) (d : ℕ) (j : Job) → first_cause (call_causes M s d j) ≡ none → Holding s →
      Holding (called_by M s d j)
  unfolding called_by
  call_holds s d j q h =
      let a = admitted_call M s d j q in
      let c = h.count in
      let l = a.suited.size in
      let m = a.suited.among in
      advance_holds s d (M.called s.day.count j (process_of M s d)) (omega arith) h
      (subst (λ k. Kept (M.called k j (process_of M s d))) (sym c)
      (calls j (process_of M s d) (subst (λ k. k ≤ 8) c a.suited.small) (h.kept (d - 1) (omega arith))))

  turn_holds : (s : State M.Process) (d : ℕ) (page : List ℕ) → first_cause (turn_causes M s d page) ≡ none → Holding s →
      Holding (advance M s d (turn_by M s d page).state)
  unfolding turn_by
  turn_holds s d page q h =
      let a = admitted_turn M s d page q in
      let c = h.count in
      let l = a.suited.size in
      let m = a.suited.among in
      let p = process_of M s d in
      advance_holds s d (turn_by M s d page).state (omega arith) h
      (subst (λ k. Kept (M.turned k (d - 1) (s.day.event + 1) (read_from M s.table (M.reads k p)) page p).state) (sym c)
      (turns (d - 1) (s.day.event + 1) (read_from M s.table (M.reads n p)) page p (subst (λ k. k ≤ 8) c a.suited.small)
      a.busy (λ j q b. subst (λ k. Kept (read_from M s.table k)) (sym q) (h.kept j b)) (h.kept (d - 1) (omega arith))))

  accept_holds : (s : State M.Process) (x : Item) → refusal M s x ≡ none → Holding s → Holding (accept M s x).state
  unfolding refusal accept
  accept_holds s (open_for k) q h = let c = h.count in absurd (omega (arith, admitted_opening M s k q))
  accept_holds s (update_call d w) q h = call_holds s d (update d w) q h
  accept_holds s (scan_call d) q h = call_holds s d scan q h
  accept_holds s (turn_of d page) q h = turn_holds s d page q h

  pub step_holds : (s : State M.Process) (x : Item) → Holding s → Holding (stepped M s x).state
  step_holds s x h = go (refusal M s x) refl
    where
      go : (k : Option Refusal) → refusal M s x ≡ k → Holding (stepped M s x).state
      go none q = subst (λ r. Holding r.state) (sym (acceptance_does M s x q)) (accept_holds s x q h)
      go (some k) q = subst (λ r. Holding r.state) (sym (refusal_changes_nothing M s x k q)) h

  grown_holds : (s : State M.Process) (xs : List Item) → Holding s → Holding (grown M s xs)
  grown_holds s [] h = h
  grown_holds s (x ∷ xs) h = grown_holds (stepped M s x).state xs (step_holds s x h)

  module _ (zero : Kept M.zero_process) where
    pub opened_holds : Holding (opened_for M n)
    unfolding opened_for
    opened_holds =
        record {
          count = refl;
          kept = λ i b. subst Kept (sym (get_or-replicate n i M.zero_process M.no_process b)) zero;
        }

    -- every record of a day grown from an opening has it
    pub grown_keeps : (xs : List Item) (i : ℕ) → i < n → Kept (get_or (grown M (opened_for M n) xs).table i M.no_process)
    grown_keeps xs = (grown_holds (opened_for M n) xs opened_holds).kept

    grown_count_kept : (xs : List Item) → (grown M (opened_for M n) xs).day.count ≡ n
    grown_count_kept xs = (grown_holds (opened_for M n) xs opened_holds).count

-- a day opened for n stays one for n
pub grown_count : (M : Machine) (n : ℕ) → 0 < n → (xs : List Item) → (grown M (opened_for M n) xs).day.count ≡ n
grown_count M n z xs = grown_count_kept M n z (λ p. Unit {0}) (λ j p l k. tt) (λ i now other page p l b r k. tt) tt xs
