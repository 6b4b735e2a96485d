-- The checks, one after the other, are the refusal of the day (snapshot/specs/Days), for every machine; and what is known of a
-- request that passes them.
use Prim.Native.Nat.{ℕ, ◌+◌, ◌≤◌, ◌<◌}
use native.Mathlib.Omega.{arith}
use native.Mathlib.Decide.{dec_lt, ℕ_discrete}
use mathlib.Core.Path.{◌≡◌, refl, sym, ap, ◌∙◌, subst}
use mathlib.Core.Logic.{by_cases}
use mathlib.Core.Bool.{Bool, false, not, or-true}
use mathlib.Core.List.{List, [], ◌∷◌, ◌++◌}
use mathlib.Core.Option.{Option, none, some}
use lib.ListN.{length}
use lib.Dec.{T, ltb}
use borrow.Author.Tests.{ltb-false, eq-eqb, lt-ltb}
use Rattle.snapshot.specs.Values.{page_places}
use Rattle.snapshot.specs.Refusals.{Cause, first_cause, is_past}
use Rattle.snapshot.specs.Requests.{number_in}
use Rattle.snapshot.specs.Tally.{scan, update}
use Rattle.snapshot.specs.Days.{Machine, State, open_for, process_of, process_owes, table_owes, some_unsound, refusal}
use Rattle.snapshot.specs.Days.{causes, last_of_call, last_of_turn}
use Rattle.snapshot.specs.declared.Refusal.{Refusal}
use Rattle.snapshot.specs.declared.Refusal.TheVariants.{Busy, DayFull}
use Rattle.snapshot.specs.declared.Request.{Request}
use Rattle.snapshot.specs.declared.Request.TheVariants.{Open, Update, Scan, Turn}
use Rattle.snapshot.proofs.Booleans.{bool_cases}
use Rattle.snapshot.proofs.Causes.{accepted_passes, first_none, first_some}
use Rattle.snapshot.proofs.Admitted.{Suited, suits, admitted_call, admitted_turn, turn_room}
use Rattle.requests.specs.Requests.{item_of, is_opening, is_call}
use Rattle.table_surveys.specs.declared.Survey.{Survey}
use Rattle.admission.specs.Checks.{is_refusal, opening_checks, is_short, first_refusal, last_refusal}
use Rattle.table_surveys.proofs.Surveyed.{Surveyed, end_same, end_past}

-- ---- a refusal, or none

pub refused_some : (c : Option Refusal) → T (is_refusal c) → (k : Refusal) × (c ≡ some k)
refused_some none h = absurd h
refused_some (some k) h = (k, refl)

pub passed_none : (c : Option Refusal) → T (not (is_refusal c)) → c ≡ none
passed_none none h = refl
passed_none (some k) h = absurd h

-- ---- openings

pub opening_checks_lem : (M : Machine) (s : State M.Process) (k : ℕ) →
    first_cause (opening_checks s.day (length s.table) k) ≡ refusal M s (open_for k)
unfolding refusal
opening_checks_lem M s k = refl

-- ---- calls and turns

module _ (M : Machine) (s : State M.Process) where
  -- the day's causes in two parts, as they are checked, for a request with a page list
  abbrev first_of : (page : List ℕ) → Request → List Cause
  first_of page x = causes M s (number_in x) (is_short s.day (length page) x) []

  abbrev last_of : Request → List Cause
  last_of (Open k) = []
  last_of (Update d w) = last_of_call M s d (update d w)
  last_of (Scan d) = last_of_call M s d scan
  last_of (Turn d) = last_of_turn M s d

  -- what is known of a request that the first check passes, and of one that is accepted
  abbrev pub Passed : (page : List ℕ) → Request → Type 0
  Passed page x = Suited M s (number_in x) (is_short s.day (length page) x)

  pub record Accepted (page : List ℕ) (x : Request) : Type 0 where
    pub suited : Passed page x
    pub room : s.day.event < 65535

  abbrev pub idle_in : Request → Bool
  idle_in x = M.is_idle (process_of M s (number_in x))

  -- ---- the checks by a survey, whose truth matters only on a day for 1 to 8 processes

  module _ (v : Survey) (surveyed : 0 < s.day.count → s.day.count ≤ 8 → Surveyed M s v) (page : List ℕ) where
    first_same : (x : Request) →
        first_cause (first_of page x) ≡ first_refusal s.day (length s.table) v x (length page)
    first_same x =
        let n = s.day.count in
        by_cases (ℕ_discrete n 0) (λ q. rw (eq-eqb n 0 q))
        (λ q. by_cases (dec_lt 8 n) (λ l. rw (lt-ltb 8 n l))
        (λ l. by_survey (surveyed (omega arith) (omega arith))))
      where
        -- where some record is bad it does not matter what is owed
        by_survey : Surveyed M s v → first_cause (first_of page x) ≡ first_refusal s.day (length s.table) v x (length page)
        by_survey t =
            bool_cases (some_unsound M s)
            (λ q.
            rw (t.sound, q, or-true (is_past v.end), or-true (is_past (s.day.event + table_owes M s))))
            (λ q.
            let past : is_past v.end ≡ is_past (s.day.event + table_owes M s) =
            ap is_past (t.ends q) ∙ end_past (process_owes M s.day.count) s.day.event s.table in
            rw (past, t.sound))

    -- once the first has passed, the survey's end is the very sum
    last_same : (x : Request) → T (not (is_opening x)) → Passed page x → first_cause (last_of x) ≡ last_refusal v x (idle_in x)
    last_same x item a = go x item
      where
        t : Surveyed M s v
        t = surveyed a.opened a.small

        end : v.end ≡ s.day.event + table_owes M s
        end = t.ends a.sound ∙ end_same (process_owes M s.day.count) s.day.event s.table a.limit

        full : (idle : Bool) (most now : ℕ) → now ≡ most →
            first_cause ((not idle, Busy) ∷ (is_past (s.day.event + 1 + table_owes M s + most), DayFull) ∷ [])
            ≡ first_cause ((not idle, Busy) ∷ (is_past (v.end + 1 + now), DayFull) ∷ [])
        full idle most now q =
            let sum : s.day.event + 1 + table_owes M s + most ≡ v.end + 1 + now = omega (arith, end) in
            ap (λ k. first_cause ((not idle, Busy) ∷ (is_past k, DayFull) ∷ [])) sum

        go : (x : Request) → T (not (is_opening x)) → first_cause (last_of x) ≡ last_refusal v x (idle_in x)
        go (Open k) h = absurd h
        go (Update d w) h = full (idle_in (Update d w)) _ _ (t.updates d w)
        go (Scan d) h = full (idle_in (Scan d)) _ _ t.scans
        go (Turn d) h = refl

-- ---- the day's refusal, for a machine whose page takes the places of n values

module _ (M : Machine) (lengths : (n : ℕ) → M.page_length n ≡ page_places n) (s : State M.Process) (page : List ℕ) where
  refusal_parts : (x : Request) → T (not (is_opening x)) →
      refusal M s (item_of page x) ≡ first_cause (first_of M s page x ++ last_of M s x)
  unfolding refusal
  refusal_parts (Open k) h = absurd h
  refusal_parts (Update d w) h = refl
  refusal_parts (Scan d) h = refl
  refusal_parts (Turn d) h =
      ap (λ k. first_cause (causes M s d (ltb (length page) k) (last_of_turn M s d))) (lengths s.day.count)

  module _ (x : Request) (item : T (not (is_opening x)))
      (v : Survey) (surveyed : 0 < s.day.count → s.day.count ≤ 8 → Surveyed M s v) where
    abbrev first : Option Refusal
    first = first_refusal s.day (length s.table) v x (length page)

    pub first_refuses : (k : Refusal) → first ≡ some k → refusal M s (item_of page x) ≡ some k
    first_refuses k q =
        refusal_parts x item ∙ first_some (first_of M s page x) (last_of M s x) k (first_same M s v surveyed page x ∙ q)

    pub first_passes : first ≡ none → Passed M s page x
    first_passes q =
        suits M s (number_in x) (is_short s.day (length page) x)
        (accepted_passes (first_of M s page x) (first_same M s v surveyed page x ∙ q))

    pub last_refuses : first ≡ none → last_refusal v x (idle_in M s x) ≡ refusal M s (item_of page x)
    last_refuses q =
        sym (refusal_parts x item
        ∙ first_none (first_of M s page x) (last_of M s x) (first_same M s v surveyed page x ∙ q)
        ∙ last_same M s v surveyed page x item (first_passes q))

  -- of an accepted turn: the page list has room for a page, and the process is not idle
  pub accepted_turn : (x : Request) → T (not (is_opening x)) → T (not (is_call x)) → refusal M s (item_of page x) ≡ none →
      Passed M s page x × (page_places s.day.count ≤ length page) × (idle_in M s x ≡ false)
  unfolding refusal
  accepted_turn (Open k) h c q = absurd h
  accepted_turn (Update d w) h c q = absurd c
  accepted_turn (Scan d) h c q = absurd c
  accepted_turn (Turn d) h c q =
      let a = admitted_turn M s d page q in
      let fits = subst (λ k. Suited M s d (ltb (length page) k)) (lengths s.day.count) a.suited in
      (fits, ltb-false (length page) (page_places s.day.count) fits.long, a.busy)

  -- there is an event left: by 5 for a call, and by 11 for a turn, where a record that is busy and can have arisen owes one
  module _ (owes : (n e : ℕ) (p : M.Process) → M.is_idle p ≡ false → M.unsound n e p ≡ false → 0 < process_owes M n p) where
    pub accepted_item : (x : Request) → T (not (is_opening x)) → refusal M s (item_of page x) ≡ none → Accepted M s page x
    unfolding refusal
    accepted_item (Open k) h q = absurd h
    accepted_item (Update d w) h q =
        let a = admitted_call M s d (update d w) q in record { suited = a.suited; room = omega arith }
    accepted_item (Scan d) h q = let a = admitted_call M s d scan q in record { suited = a.suited; room = omega arith }
    accepted_item (Turn d) h q =
        record {
          suited = (accepted_turn (Turn d) h tt q).0;
          room = turn_room M s d page (admitted_turn M s d page q) (owes s.day.count s.day.event);
        }
