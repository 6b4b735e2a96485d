-- The closing rule of every method for which demand 3 holds: a process that waits is answered by as many turns as its call owes.
use Prim.Native.Nat.{ℕ, zero, suc, ◌-◌, ◌≤◌, ◌<◌}
use native.Mathlib.Omega.{arith}
use native.Mathlib.Decide.{dec_lt}
use mathlib.Core.Path.{◌≡◌, refl, sym, ap, ap₂, ◌∙◌, subst}
use mathlib.Core.Logic.{◌⊎◌, inl, inr, ◌≢◌, by_cases}
use mathlib.Core.Bool.{Bool, true, false, cond, ◌&&◌, true≢false}
use mathlib.Core.List.{List, [], ◌∷◌, ◌++◌}
use mathlib.Core.Option.{Option, none, some, map, none-ne-some, some-ne-none}
use lib.Dec.{eqb, leb}
use lib.ListN.{length, get_or, set, replicate, get_or-eq_default}
use lib.Seq.{get_or-set_same, get_or-set_other}
use borrow.Author.Tests.{eqb-true, eq-eqb, ltb-false, leb-true, le-ltb, le-leb}
use Rattle.snapshot.specs.declared.Answer.{Answer}
use Rattle.snapshot.specs.declared.Answer.TheVariants.{Refused, Opened, Called, Read, Page, Written}
use Rattle.snapshot.specs.Lists.{keep, All}
use Rattle.snapshot.specs.Refusals.{first_cause}
use Rattle.snapshot.specs.Tally.{Job, Seen, opening, call, turn, by_seen, Call, Tally, started, call_of, advanced, opens, gains}
use Rattle.snapshot.specs.Tally.{tallied, is_open, call_owes}
use Rattle.snapshot.specs.Demand.{Method, Result, step, Among, Fits, Patient, refusal_of, expected_causes, Holds}
use Rattle.snapshot.specs.Closing.{IsEnd, state_after, tally_after, is_turn_of, turns_in, Ends, Closable}
use Rattle.snapshot.proofs.Booleans.{bool_cases, and_both}
use Rattle.snapshot.proofs.Causes.{accepted_passes}

module _ (M : Method) where
  -- ---- demand 3 at the end of a list

  pub holds_after : (xs ys : List M.Item) (s : M.State) (t : Tally M.Value) → Holds M s t (xs ++ ys) →
      Holds M (state_after M s xs) (tally_after M s t xs) ys
  holds_after [] ys s t h = h
  holds_after (x ∷ xs) ys s t h =
      let r = step M s x in holds_after xs ys r.state (tallied M.stored t (M.sees x) r.answer) h.4

  pub patient_after : (xs : List M.Item) (s : M.State) (t : Tally M.Value) → Patient M.most t → Holds M s t xs →
      Patient M.most (tally_after M s t xs)
  patient_after [] s t p h = p
  patient_after (x ∷ xs) s t p h =
      let r = step M s x in patient_after xs r.state (tallied M.stored t (M.sees x) r.answer) h.2 h.4

  -- ---- one item, while the call c of process d is open

  module _ (d : ℕ) (m : Among M.processes d) (t : Tally M.Value) (c : Call) (waits : call_of t d ≡ some c) (page : List ℕ) where
    -- a turn of process d, by what the tally sees of the item
    abbrev own : Seen → Bool
    own x = by_seen false (λ k j. false) (λ k. eqb k d && leb M.page_length (length page)) x

    -- what demand 3 says of its answer
    abbrev Says : Seen → List M.Value → Answer → Type 0
    Says x ws a = (refusal_of a ≡ first_cause (expected_causes M t x page)) × Fits M.processes M.most t x ws a

    -- its turn is not refused
    turn_accepted : M.page_length ≤ length page → first_cause (expected_causes M t (turn d) page) ≡ none
    turn_accepted l =
        simp (le-ltb (length page) M.page_length l, le-ltb d 1 (omega arith), le-ltb M.processes d (omega arith), ap is_open waits)

    -- so it ends the call, or reads and leaves it open with one turn more
    abbrev pub Goes : Seen → Answer → Type 0
    Goes x a =
        let u = tallied M.stored t x a in
        (IsEnd a × (call_of u d ≡ none)) ⊎ ((a ≡ Read) × (call_of u d ≡ some (gains c)))

    pub own_turn : (x : Seen) (ws : List M.Value) (a : Answer) → own x ≡ true → Says x ws a → Goes x a
    own_turn opening ws a q h = absurd (true≢false (sym q))
    own_turn (call k j) ws a q h = absurd (true≢false (sym q))
    own_turn (turn k) ws a q h =
        let b = and_both (eqb k d) (leb M.page_length (length page)) q in
        let is = eqb-true k d b.0 in
        let free = h.0 ∙ ap (λ i. first_cause (expected_causes M t (turn i) page)) is
        ∙ turn_accepted (leb-true M.page_length (length page) b.1) in
        go a free (subst (λ i. Fits M.processes M.most t (turn i) ws a) is h.1) is
      where
        inside : d - 1 < length t.calls
        inside =
            by_cases (dec_lt (d - 1) (length t.calls)) (λ l. l)
            (λ l. absurd (none-ne-some c (sym (get_or-eq_default t.calls none (omega arith)) ∙ waits)))

        -- where event k leaves the call b
        now : (b : ℕ → Option Call) → k ≡ d → get_or (set t.calls (k - 1) (b k)) (d - 1) none ≡ b d
        now b is =
            ap (λ i. get_or (set t.calls (i - 1) (b i)) (d - 1) none) is ∙ get_or-set_same t.calls (d - 1) (b d) none inside

        go : (a : Answer) → refusal_of a ≡ none → Fits M.processes M.most t (turn d) ws a → k ≡ d → Goes (turn k) a
        go (Refused r) free f is = absurd (some-ne-none r free)
        go Opened free f is = absurd f
        go Called free f is = absurd f
        go Read free f is = inr (refl, now (λ i. map gains (call_of t i)) is ∙ ap (map gains) waits)
        go (Page lender at turns) free f is = inl (tt, now (λ i. none) is)
        go (Written turns) free f is = inl (tt, now (λ i. none) is)

    -- ---- whatever is no such turn leaves the call as it was

    abbrev Kept : Tally M.Value → Type 0
    Kept u = call_of u d ≡ some c

    after_call : (x : Seen) (f : ℕ → Job → Tally M.Value) → ((k : ℕ) (j : Job) → x ≡ call k j → Kept (f k j)) →
        Kept (by_seen t f (λ k. t) x)
    after_call opening f h = waits
    after_call (call k j) f h = h k j refl
    after_call (turn k) f h = waits

    after_turn : (x : Seen) (f : ℕ → Tally M.Value) → ((k : ℕ) → x ≡ turn k → Kept (f k)) → Kept (by_seen t (λ k j. t) f x)
    after_turn opening f h = waits
    after_turn (call k j) f h = waits
    after_turn (turn k) f h = h k refl

    -- an event of another process
    other_event : (k : ℕ) (b : Option Call) → Among M.processes k → k ≢ d → get_or (set t.calls (k - 1) b) (d - 1) none ≡ some c
    other_event k b l apart = get_or-set_other t.calls (k - 1) (d - 1) b none (λ q. apart (omega arith)) ∙ waits

    -- an accepted turn that is not one of process d with a page list long enough
    not_own : (k : ℕ) → own (turn k) ≡ false → first_cause (expected_causes M t (turn k) page) ≡ none → k ≢ d
    not_own k q free is =
        let long = ltb-false (length page) M.page_length (accepted_passes (expected_causes M t (turn k) page) free).0 in
        true≢false (sym (ap₂ ◌&&◌ (eq-eqb k d is) (le-leb M.page_length (length page) long)) ∙ q)

    other_turn : (x : Seen) (b : ℕ → Option Call) (vs : ℕ → List M.Value) → own x ≡ false →
        first_cause (expected_causes M t x page) ≡ none → ((k : ℕ) → x ≡ turn k → Among M.processes k) →
        Kept (by_seen t (λ k j. t) (λ k. advanced t (vs k) k (b k)) x)
    other_turn x b vs q free among =
        after_turn x _ (λ k is.
        other_event k (b k) (among k is)
        (not_own k (sym (ap own is) ∙ q) (sym (ap (λ y. first_cause (expected_causes M t y page)) is) ∙ free)))

    other_item : (x : Seen) (ws : List M.Value) (a : Answer) → own x ≡ false → Says x ws a → Kept (tallied M.stored t x a)
    other_item x ws (Refused r) q h = waits
    other_item x ws Opened q h = waits
    other_item x ws Called q h =
        after_call x _ (λ k j is.
        let f = subst (λ y. Fits M.processes M.most t y ws Called) is h.1 in
        other_event k (some (opens (suc t.event) j)) f.0 (λ i. none-ne-some c (sym f.1 ∙ ap (call_of t) i ∙ waits)))
    other_item x ws Read q h =
        other_turn x _ _ q (sym h.0) (λ k is. (subst (λ y. Fits M.processes M.most t y ws Read) is h.1).0)
    other_item x ws (Page lender at turns) q h =
        other_turn x _ _ q (sym h.0) (λ k is. (subst (λ y. Fits M.processes M.most t y ws (Page lender at turns)) is h.1).0)
    other_item x ws (Written turns) q h =
        other_turn x _ _ q (sym h.0) (λ k is. (subst (λ y. Fits M.processes M.most t y ws (Written turns)) is h.1).0)

  -- ---- the list

  module _ (d : ℕ) (m : Among M.processes d) where
    abbrev Ending : List M.Item → Type 0
    Ending ys =
        (s : M.State) (t : Tally M.Value) (c : Call) → Holds M s t ys → call_of t d ≡ some c →
        c.turns < M.most c.job → call_owes M.most (some c) ≤ turns_in M d ys → Ends M d s ys

    -- its own turn first
    own_first : (y : M.Item) (ys : List M.Item) → Ending ys → is_turn_of M d y ≡ true → Ending (y ∷ ys)
    own_first y ys rest e s t c h q p l =
        go (own_turn d m t c q (M.page_lent y) (M.sees y) (M.shown r.page) r.answer e (h.0, h.1))
      where
        r : Result M.State
        r = step M s y

        u : Tally M.Value
        u = tallied M.stored t (M.sees y) r.answer

        counted : turns_in M d (y ∷ ys) ≡ suc (turns_in M d ys)
        counted = ap (λ b. length (cond b (y ∷ keep (is_turn_of M d) ys) (keep (is_turn_of M d) ys))) e

        go : Goes d m t c q (M.page_lent y) (M.sees y) r.answer → Ends M d s (y ∷ ys)
        go (inl end) = inl (e, end.0)
        go (inr read) =
            let few = h.2 (d - 1) (gains c) read.1 in
            let n = counted in
            inr ((λ x. read.0), rest r.state u (gains c) h.4 read.1 few (omega arith))

    -- any other item
    other_first : (y : M.Item) (ys : List M.Item) → Ending ys → is_turn_of M d y ≡ false → Ending (y ∷ ys)
    other_first y ys rest e s t c h q p l =
        let r = step M s y in
        let u = tallied M.stored t (M.sees y) r.answer in
        let n = ap (λ b. length (cond b (y ∷ keep (is_turn_of M d) ys) (keep (is_turn_of M d) ys))) e in
        let kept = other_item d m t c q (M.page_lent y) (M.sees y) (M.shown r.page) r.answer e (h.0, h.1) in
        inr ((λ x. absurd (true≢false (sym x ∙ e))), rest r.state u c h.4 kept p (omega arith))

    ends : (ys : List M.Item) → Ending ys
    ends [] = λ s t c h q p l. absurd (omega arith)
    ends (y ∷ ys) = bool_cases (is_turn_of M d y) (own_first y ys (ends ys)) (other_first y ys (ends ys))

  -- from demand 3 of all lists; `Patient` is what that says of every tally but the first
  pub closable : (s : M.State) (t : Tally M.Value) → Patient M.most t → ((xs : List M.Item) → Holds M s t xs) → Closable M s t
  closable s t p h xs d c m q ys l =
      ends d m ys (state_after M s xs) (tally_after M s t xs) c (holds_after xs ys s t (h (xs ++ ys))) q
      (patient_after xs s t p (h xs) (d - 1) c q) l

  -- in a list of its own turns all count
  pub own_turns_count : (d : ℕ) (ys : List M.Item) → All (λ y. is_turn_of M d y ≡ true) ys → turns_in M d ys ≡ length ys
  own_turns_count d [] own = refl
  own_turns_count d (y ∷ ys) own =
      ap (λ b. length (cond b (y ∷ keep (is_turn_of M d) ys) (keep (is_turn_of M d) ys))) own.0
      ∙ ap suc (own_turns_count d ys own.1)

-- from an opening, where nobody waits
pub started_patient : {Value : Type 0} (most : Job → ℕ) (n m : ℕ) (zero_word : Value) → Patient most (started n m zero_word)
started_patient most n m zero_word i c q = absurd (none-ne-some c (sym (nobody n i) ∙ q))
  where
    nobody : (n i : ℕ) → get_or {A = Option Call} (replicate n none) i none ≡ none
    nobody zero i = refl
    nobody (suc n) zero = refl
    nobody (suc n) (suc i) = nobody n i
