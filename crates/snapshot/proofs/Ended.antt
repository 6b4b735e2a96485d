-- All work can still be ended, for every method for which demand 3 holds: one process after the other is given the turns that its
-- call owes, and then nobody waits.
use Prim.Native.Nat.{ℕ, zero, suc, ◌-◌, ◌≤◌}
use native.Mathlib.Omega.{arith}
use native.Mathlib.Decide.{ℕ_discrete}
use mathlib.Core.Path.{◌≡◌, refl, sym, ap, ◌∙◌, subst}
use mathlib.Core.Logic.{inl, inr, ◌≢◌, by_cases}
use mathlib.Core.Bool.{true, false, ◌&&◌, true≢false}
use mathlib.Core.List.{List, [], ◌∷◌, ◌++◌}
use mathlib.Core.Option.{Option, none, some, map}
use lib.Dec.{eqb, leb}
use lib.ListN.{length, get_or}
use lib.Seq.{get_or-set_other}
use borrow.Author.Tests.{eqb-true}
use Rattle.snapshot.specs.declared.Answer.{Answer}
use Rattle.snapshot.specs.declared.Answer.TheVariants.{Refused, Opened, Called, Read, Page, Written}
use Rattle.snapshot.specs.Tally.{Seen, opening, call, turn, by_seen, Call, Tally, call_of, gains, tallied}
use Rattle.snapshot.specs.Tally.{call_owes}
use Rattle.snapshot.specs.Demand.{Method, Result, step, Among, refusal_of, Patient, Holds}
use Rattle.snapshot.specs.Closing.{IsEnd, state_after, tally_after, is_turn_of, TurnsTaken, AllEnds}
use Rattle.snapshot.proofs.Booleans.{and_both}
use Rattle.snapshot.proofs.Closing.{holds_after, patient_after, Goes, own_turn}

-- an answer that ends a call is no refusal
end_taken : (a : Answer) → IsEnd a → refusal_of a ≡ none
end_taken (Refused k) e = absurd e
end_taken Opened e = absurd e
end_taken Called e = absurd e
end_taken Read e = absurd e
end_taken (Page lender at turns) e = refl
end_taken (Written turns) e = refl

module _ (M : Method) where
  -- ---- lists one after the other

  tallies_append : (xs ys : List M.Item) (s : M.State) (t : Tally M.Value) →
      tally_after M s t (xs ++ ys) ≡ tally_after M (state_after M s xs) (tally_after M s t xs) ys
  tallies_append [] ys s t = refl
  tallies_append (x ∷ xs) ys s t =
      let r = step M s x in tallies_append xs ys r.state (tallied M.stored t (M.sees x) r.answer)

  turns_append : (xs ys : List M.Item) (s : M.State) → TurnsTaken M s xs → TurnsTaken M (state_after M s xs) ys →
      TurnsTaken M s (xs ++ ys)
  turns_append [] ys s h k = k
  turns_append (x ∷ xs) ys s h k = (h.0, h.1, turns_append xs ys (step M s x).state h.2 k)

  -- ---- turns of one process

  -- demand 3 holds of every list from here on
  record Held (s : M.State) (t : Tally M.Value) : Type 0 where
    holds : (ys : List M.Item) → Holds M s t ys
    patient : Patient M.most t

  held_after : (xs : List M.Item) (s : M.State) (t : Tally M.Value) → Held s t → Held (state_after M s xs) (tally_after M s t xs)
  held_after xs s t h =
      record {
        holds = λ ys. holds_after M xs ys s t (h.holds (xs ++ ys));
        patient = patient_after M xs s t h.patient (h.holds xs);
      }

  -- turns that were taken, after which the call of process d is closed and every other is as it was
  record Closes (d : ℕ) (s : M.State) (t : Tally M.Value) : Type 0 where
    turns : List M.Item
    taken : TurnsTaken M s turns
    closed : call_of (tally_after M s t turns) d ≡ none
    others : (j : ℕ) → j ≢ d - 1 → get_or (tally_after M s t turns).calls j none ≡ get_or t.calls j none

  -- a turn changes no other call
  turn_keeps : (t : Tally M.Value) (d : ℕ) (a : Answer) (j : ℕ) → j ≢ d - 1 →
      get_or (tallied M.stored t (turn d) a).calls j none ≡ get_or t.calls j none
  turn_keeps t d (Refused k) j h = refl
  turn_keeps t d Opened j h = refl
  turn_keeps t d Called j h = refl
  turn_keeps t d Read j h = get_or-set_other t.calls (d - 1) j (map gains (call_of t d)) none h
  turn_keeps t d (Page lender at turns) j h = get_or-set_other t.calls (d - 1) j none none h
  turn_keeps t d (Written turns) j h = get_or-set_other t.calls (d - 1) j none none h

  sees_own : (d : ℕ) (page : List ℕ) (x : Seen) →
      by_seen false (λ k j. false) (λ k. eqb k d && leb M.page_length (length page)) x ≡ true → x ≡ turn d
  sees_own d page opening q = absurd (true≢false (sym q))
  sees_own d page (call k j) q = absurd (true≢false (sym q))
  sees_own d page (turn k) q = ap turn (eqb-true k d (and_both (eqb k d) (leb M.page_length (length page)) q).0)

  module _ (d : ℕ) (m : Among M.processes d) (x : M.Item) (own : is_turn_of M d x ≡ true) where
    -- one such turn first
    turn_first : (s : M.State) (t : Tally M.Value) → let r = step M s x in refusal_of r.answer ≡ none →
        Closes d r.state (tallied M.stored t (M.sees x) r.answer) → Closes d s t
    turn_first s t taken c =
        let a = (step M s x).answer in
        let is = sees_own d (M.page_lent x) (M.sees x) own in
        record {
          turns = x ∷ c.turns;
          taken = ((d, is), taken, c.taken);
          closed = c.closed;
          others = λ j h. c.others j h ∙ ap (λ y. get_or (tallied M.stored t y a).calls j none) is ∙ turn_keeps t d a j h;
        }

    closed_already : (s : M.State) (t : Tally M.Value) → call_of t d ≡ none → Closes d s t
    closed_already s t q = record { turns = []; taken = tt; closed = q; others = λ j h. refl }

    abbrev Closing : ℕ → Type 0
    Closing k = (s : M.State) (t : Tally M.Value) → Held s t → call_owes M.most (call_of t d) ≤ k → Closes d s t

    -- a call that owes one turn more
    close_next : (k : ℕ) → Closing k → (s : M.State) (t : Tally M.Value) → Held s t → (c : Call) → call_of t d ≡ some c →
        M.most c.job - c.turns ≤ suc k → Closes d s t
    close_next k rest s t h c q l =
        go (own_turn M d m t c q (M.page_lent x) (M.sees x) (M.shown r.page) r.answer own ((h.holds (x ∷ [])).0, (h.holds (x ∷ [])).1))
      where
        r : Result M.State
        r = step M s x

        u : Tally M.Value
        u = tallied M.stored t (M.sees x) r.answer

        go : Goes M d m t c q (M.page_lent x) (M.sees x) r.answer → Closes d s t
        go (inl e) = turn_first s t (end_taken r.answer e.0) (closed_already r.state u e.1)
        go (inr e) =
            turn_first s t (ap refusal_of e.0)
            (rest r.state u (held_after (x ∷ []) s t h) (subst (λ b. call_owes M.most b ≤ k) (sym e.1) (omega arith)))

    -- as many as its call owes close it
    close_one : (k : ℕ) → Closing k
    close_one zero s t h l = go (call_of t d) refl
      where
        go : (b : Option Call) → call_of t d ≡ b → Closes d s t
        go none q = closed_already s t q
        go (some c) q = let few = h.patient (d - 1) c q in absurd (omega (arith, subst (λ b. call_owes M.most b ≤ 0) q l))
    close_one (suc k) s t h l = go (call_of t d) refl (close_one k)
      where
        go : (b : Option Call) → call_of t d ≡ b → Closing k → Closes d s t
        go none q rest = closed_already s t q
        go (some c) q rest = close_next k rest s t h c q (subst (λ b. call_owes M.most b ≤ suc k) q l)

  -- ---- one process after the other

  module _ (turnFor : (d : ℕ) → (x : M.Item) × (is_turn_of M d x ≡ true)) where
    record ClosesUpTo (m : ℕ) (s : M.State) (t : Tally M.Value) : Type 0 where
      turns : List M.Item
      taken : TurnsTaken M s turns
      closed : (d : ℕ) → Among m d → call_of (tally_after M s t turns) d ≡ none

    close_up_to : (m : ℕ) → m ≤ M.processes → (s : M.State) (t : Tally M.Value) → Held s t → ClosesUpTo m s t
    close_up_to zero l s t h = record { turns = []; taken = tt; closed = λ d a. absurd (omega arith) }
    close_up_to (suc m) l s t h =
        let before = close_up_to m (omega arith) s t h in
        let xs = before.turns in
        let s' = state_after M s xs in
        let t' = tally_after M s t xs in
        let x = turnFor (suc m) in
        let one = close_one (suc m) (omega arith, l) x.0 x.1 (call_owes M.most (call_of t' (suc m))) s' t'
        (held_after xs s t h) (omega arith) in
        let all = tallies_append xs one.turns s t in
        record {
          turns = xs ++ one.turns;
          taken = turns_append xs one.turns s before.taken one.taken;
          closed = λ d a. ap (λ u. call_of u d) all
              ∙ by_cases (ℕ_discrete d (suc m))
              (λ q. ap (λ i. call_of (tally_after M s' t' one.turns) i) q ∙ one.closed)
              (λ q. one.others (d - 1) (λ e. q (omega arith)) ∙ before.closed d (omega arith, omega arith));
        }

    pub all_end : (s : M.State) (t : Tally M.Value) → Patient M.most t → ((xs : List M.Item) → Holds M s t xs) → AllEnds M s t
    all_end s t p h xs =
        let c = close_up_to M.processes (omega arith) (state_after M s xs) (tally_after M s t xs)
        (held_after xs s t (record { holds = h; patient = p })) in (
          c.turns,
          c.taken,
          λ d a. ap (λ u. call_of u d) (tallies_append xs c.turns s t) ∙ c.closed d a,
        )
