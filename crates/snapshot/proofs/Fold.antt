-- Demand 3 of a list of items follows from what a method owes (`Owed`): the fold over the list, once for every method.
use Prim.Native.Nat.{ℕ, zero, suc, ◌+◌, ◌≤◌, ◌<◌, ◌-◌}
use native.Mathlib.Omega.{arith}
use native.Mathlib.Nat.{zero-add}
use native.Mathlib.Decide.{ℕ_discrete, dec_lt, dec_le}
use mathlib.Core.Path.{◌≡◌, refl, sym, ap, ◌∙◌, subst}
use mathlib.Core.Logic.{◌≢◌, by_cases}
use mathlib.Core.List.{List, [], ◌∷◌, ◌++◌}
use mathlib.Core.Option.{Option, none, some, map, none-ne-some}
use lib.ListN.{length, get_or, set, replicate, length-append, length-set, length-replicate, get_or-replicate, get_or-append}
use lib.ListN.{get_or-eq_default}
use lib.Seq.{get_or-set_same, get_or-set_other, get_or_at}
use Rattle.snapshot.specs.declared.Refusal.{Refusal}
use Rattle.snapshot.specs.declared.Answer.{Answer}
use borrow.Author.Tests.{ltb-false}
use Rattle.snapshot.specs.Refusals.{first_cause, is_past}
use Rattle.snapshot.specs.Tally.{Job, Seen, call, Call, Tally, started, call_of, instant, advanced, opens, gains, puts, puts_if, tallied}
use Rattle.snapshot.specs.Tally.{call_owes, tally_owes}
use Rattle.snapshot.specs.Demand.{Method, Result, admit, step, Among, Fits, PageFits, WrittenFits, IsUpdate, Waiting}
use Rattle.snapshot.specs.Demand.{refusal_of, expected_causes, expected, Patient, Endable, Holds}
use Rattle.snapshot.proofs.Causes.{accepted_passes}
use Rattle.snapshot.proofs.Lists.{sum_set, sum_replicate}
use Rattle.snapshot.proofs.Owed.{Owed, Deed, call_deed, read_deed, page_deed, write_deed, actor}

-- ---- the history of a list

abbrev unless_refused : {A : Type 0} → A → A → Option Refusal → A
unless_refused a b none = a
unless_refused a b (some k) = b

module _ (M : Method) where
  -- the state after the k-th accepted event of the list from s on, or the last state where there are fewer
  moment : M.State → List M.Item → ℕ → M.State
  moment s xs zero = s
  moment s [] (suc k) = s
  moment s (x ∷ xs) (suc k) = unless_refused (moment (M.accept s x).state xs k) (moment s xs (suc k)) (M.refusal s x)

  module _ (s : M.State) (x : M.Item) (xs : List M.Item) where
    step_accepted : M.refusal s x ≡ none → step M s x ≡ M.accept s x
    unfolding step
    step_accepted q = ap (λ o. admit M s x o) q

    step_refused : (k : Refusal) → M.refusal s x ≡ some k → step M s x ≡ admit M s x (some k)
    unfolding step
    step_refused k q = ap (λ o. admit M s x o) q

    moment_accepted : (k : ℕ) → M.refusal s x ≡ none → moment s (x ∷ xs) (suc k) ≡ moment (M.accept s x).state xs k
    unfolding moment
    moment_accepted k q = ap (λ o. unless_refused (moment (M.accept s x).state xs k) (moment s xs (suc k)) o) q

    moment_refused : (r : Refusal) (k : ℕ) → M.refusal s x ≡ some r → moment s (x ∷ xs) k ≡ moment s xs k
    unfolding moment
    moment_refused r zero q = refl
    moment_refused r (suc k) q = ap (λ o. unless_refused (moment (M.accept s x).state xs k) (moment s xs (suc k)) o) q

  moment_now : (s : M.State) (xs : List M.Item) → moment s xs zero ≡ s
  unfolding moment
  moment_now s xs = refl

-- ---- the fold

module _ (M : Method) (O : Owed M) (H : ℕ → M.State) where
  -- the tally and the history agree
  record Agree (t : Tally M.Value) : Type 0 where
    pub past : O.Past H t.event
    pub number : M.event (H t.event) ≡ t.event
    pub tied : (i : ℕ) → i < M.processes → O.Tied H t.event i (get_or t.calls i none)
    pub processes : length t.calls ≡ M.processes
    pub now : t.words ≡ M.words (H t.event)
    pub then : (u : ℕ) → u ≤ t.event → instant t u ≡ M.words (H u)
    pub instants : length t.instants ≡ suc t.event
    pub endable : Endable M.most t

  agree_patient : (t : Tally M.Value) → Agree t → Patient M.most t
  agree_patient t a i c h = by_cases (dec_lt i M.processes) within beyond
    where
      within : i < M.processes → c.turns < M.most c.job
      within l = O.patient H t.event i c l a.past (subst (λ o. O.Tied H t.event i o) h (a.tied i l))

      beyond : ¬ (i < M.processes) → c.turns < M.most c.job
      beyond l =
          let long : length t.calls ≤ i = omega (arith, a.processes) in
          absurd (none-ne-some c (sym (get_or-eq_default t.calls none long) ∙ h))

  -- an accepted event of process d, after which its open call is c and the words are ws
  module _ (t : Tally M.Value) (a : Agree t) (ws : List M.Value) (d : ℕ) (c : Option Call) where
    advanced_agrees : Among M.processes d →
        O.Past H (suc t.event) →
        M.event (H (suc t.event)) ≡ suc t.event →
        ((i : ℕ) → i < M.processes → i ≢ d - 1 → (b : Option Call) → O.Tied H t.event i b → O.Tied H (suc t.event) i b) →
        O.Tied H (suc t.event) (d - 1) c →
        ws ≡ M.words (H (suc t.event)) →
        suc t.event + tally_owes M.most t + call_owes M.most c ≤ 65535 + call_owes M.most (call_of t d) →
        Agree (advanced t ws d c)
    advanced_agrees m p e others own w room =
        record {
          past = p;
          number = e;
          tied = λ i l. by_cases (ℕ_discrete i (d - 1)) (acted i) (left i l);
          processes = length-set t.calls (d - 1) c ∙ a.processes;
          now = w;
          then = λ u l. by_cases (dec_le u t.event) (earlier u) (λ g. last u (omega arith));
          instants = simp length-append (omega (arith, a.instants));
          endable = let q = sum_set (call_owes M.most) t.calls (d - 1) c none (omega (arith, a.processes)) in omega arith;
        }
      where
        acted : (i : ℕ) → i ≡ d - 1 → O.Tied H (suc t.event) i (get_or (set t.calls (d - 1) c) i none)
        acted i q =
            subst (λ k. O.Tied H (suc t.event) k (get_or (set t.calls (d - 1) c) k none)) (sym q)
            (subst (λ o. O.Tied H (suc t.event) (d - 1) o)
            (sym (get_or-set_same t.calls (d - 1) c none (omega (arith, a.processes)))) own)

        left : (i : ℕ) → i < M.processes → i ≢ d - 1 → O.Tied H (suc t.event) i (get_or (set t.calls (d - 1) c) i none)
        left i l q =
            subst (λ o. O.Tied H (suc t.event) i o) (sym (get_or-set_other t.calls (d - 1) i c none q))
            (others i l q (get_or t.calls i none) (a.tied i l))

        earlier : (u : ℕ) → u ≤ t.event → get_or (t.instants ++ (ws ∷ [])) u [] ≡ M.words (H u)
        earlier u l = get_or-append t.instants (ws ∷ []) [] u (omega (arith, a.instants)) ∙ a.then u l

        last : (u : ℕ) → u ≡ suc t.event → get_or (t.instants ++ (ws ∷ [])) u [] ≡ M.words (H u)
        last u q =
            subst (λ k. get_or (t.instants ++ (ws ∷ [])) k [] ≡ M.words (H k)) (sym q)
            (get_or_at t.instants ws [] [] (suc t.event) a.instants ∙ w)

  -- an event's answer fits the tally, and they agree after it
  module _ (t : Tally M.Value) (a : Agree t) (shown : List M.Value) (p : O.Past H (suc t.event))
      (e : M.event (H (suc t.event)) ≡ suc t.event) (page : List ℕ) where
    -- the event of a turn is one that its call owed
    turn_room : (d : ℕ) (c : Call) (b : Option Call) → call_of t d ≡ some c → suc (call_owes M.most b) ≤ M.most c.job - c.turns →
        suc t.event + tally_owes M.most t + call_owes M.most b ≤ 65535 + call_owes M.most (call_of t d)
    turn_room d c b q l = let r = ap (call_owes M.most) q in let g = a.endable in omega arith

    -- and that of a call, with all that its task owes, has room: it was not refused with 5
    call_room : (d : ℕ) (j : Job) → first_cause (expected_causes M t (call d j) page) ≡ none →
        suc t.event + tally_owes M.most t + M.most j ≤ 65535
    unfolding is_past
    call_room d j free =
        let l = ltb-false 65535 (t.event + 1 + tally_owes M.most t + M.most j)
        (accepted_passes (expected_causes M t (call d j) page) free).1.1.0 in
        omega arith

    fits_and_agrees : {x : Seen} {r : Answer} →
        ((i : ℕ) → i < M.processes → i ≢ actor x → (b : Option Call) → O.Tied H t.event i b →
        O.Tied H (suc t.event) i b) →
        Deed M O.Tied H t.event (λ i. get_or t.calls i none) shown x r →
        first_cause (expected_causes M t x page) ≡ none →
        Fits M.processes M.most t x shown r
        × Agree (tallied M.stored t x r)
        × ((tallied M.stored t x r).event ≡ suc t.event)
    fits_and_agrees others (call_deed d j m q quiet own) free =
        let room = call_room d j free in (
          (m, q),
          advanced_agrees t a t.words d (some (opens (suc t.event) j)) m p e others own (a.now ∙ sym quiet) (omega arith),
          refl,
        )
    fits_and_agrees others (read_deed d c m q quiet own) free =
        let few = agree_patient t a (d - 1) c q in (
          (m, subst (λ o. Waiting o) (sym q) tt),
          advanced_agrees t a t.words d (map gains (call_of t d)) m p e others
              (subst (λ o. O.Tied H (suc t.event) (d - 1) (map gains o)) (sym q) own)
              (a.now ∙ sym quiet)
              (turn_room d c (map gains (call_of t d)) q
              (subst (λ o. suc (call_owes M.most (map gains o)) ≤ M.most c.job - c.turns) (sym q) (omega arith))),
          refl,
        )
    fits_and_agrees others (page_deed d c lender at turns m q job count ws late early quiet own) free =
        let few = agree_patient t a (d - 1) c q in (
          (
            m,
            subst (λ o. PageFits M.most t at turns shown o) (sym q)
                (job, (count, omega arith), ws ∙ sym (a.then at early), late, omega arith),
          ),
          advanced_agrees t a t.words d none m p e others own (a.now ∙ sym quiet) (turn_room d c none q (omega arith)),
          refl,
        )
    fits_and_agrees others (write_deed d c register w turns m q job count ws own) free =
        let few = agree_patient t a (d - 1) c q in (
          (
            m,
            subst (λ o. WrittenFits M.most turns o) (sym q) (subst (λ j. IsUpdate j) (sym job) tt, (count, omega arith)),
          ),
          advanced_agrees t a (puts_if (M.stored (suc t.event)) t.words (call_of t d)) d none m p e others own
              (ap (λ o. puts_if (M.stored (suc t.event)) t.words o) q
              ∙ ap (λ j. puts (M.stored (suc t.event)) t.words j) job
              ∙ ap (λ l. set l (register - 1) (M.stored (suc t.event) w)) a.now
              ∙ sym ws)
              (turn_room d c none q (omega arith)),
          refl,
        )

  -- what `Holds` says of an item, its result given
  abbrev Then : Tally M.Value → M.Item → List M.Item → Result M.State → Type 0
  Then t x xs r =
      (refusal_of r.answer ≡ expected M t x)
      × Fits M.processes M.most t (M.sees x) (M.shown r.page) r.answer
      × Patient M.most (tallied M.stored t (M.sees x) r.answer)
      × Endable M.most (tallied M.stored t (M.sees x) r.answer)
      × Holds M r.state (tallied M.stored t (M.sees x) r.answer) xs

  -- H from the tally's event on is what the rest of the list does
  abbrev Follows : Tally M.Value → List M.Item → Type 0
  Follows t xs = (k : ℕ) → H (t.event + k) ≡ moment M (H t.event) xs k

  module _ (x : M.Item) (xs : List M.Item) (t : Tally M.Value) (a : Agree t) (f : Follows t (x ∷ xs))
      (rest : (u : Tally M.Value) → Agree u → Follows u xs → Holds M (H u.event) u xs) where
    by_tally : M.refusal (H t.event) x ≡ expected M t x
    by_tally = O.refuses H t x a.past a.number a.tied a.processes a.endable

    -- what was done is no refusal
    deed_accepted : {y : Seen} {r : Answer} {shown : List M.Value} →
        Deed M O.Tied H t.event (λ i. get_or t.calls i none) shown y r → refusal_of r ≡ none
    deed_accepted (call_deed d j m q quiet own) = refl
    deed_accepted (read_deed d c m q quiet own) = refl
    deed_accepted (page_deed d c lender at turns m q job count ws late early quiet own) = refl
    deed_accepted (write_deed d c register w turns m q job count ws own) = refl

    accepted_then : M.refusal (H t.event) x ≡ none → Then t x xs (M.accept (H t.event) x)
    accepted_then q =
        let r = M.accept (H t.event) x in
        let next : H (suc t.event) ≡ r.state =
        ap H (omega arith) ∙ f 1 ∙ moment_accepted M (H t.event) x xs 0 q ∙ moment_now M r.state xs in
        let deed = O.acts H t.event x (λ i. get_or t.calls i none) a.past a.number a.tied q next in
        let free = sym by_tally ∙ q in
        let fits = fits_and_agrees t a (M.shown r.page) deed.0 deed.1 (M.page_lent x) deed.2 deed.3 free in
        let u = tallied M.stored t (M.sees x) r.answer in
        let now : H u.event ≡ r.state = ap H fits.2 ∙ next in
        let follows : Follows u xs =
        λ k.
        ap H (ap (λ e. e + k) fits.2 ∙ omega arith)
        ∙ f (suc k)
        ∙ moment_accepted M (H t.event) x xs k q
        ∙ ap (λ s. moment M s xs k) (sym now) in (
          deed_accepted deed.3 ∙ sym free,
          fits.0,
          agree_patient u fits.1,
          fits.1.endable,
          subst (λ s. Holds M s u xs) now (rest u fits.1 follows),
        )

    refused_then : (k : Refusal) → M.refusal (H t.event) x ≡ some k → Then t x xs (admit M (H t.event) x (some k))
    refused_then k q = (
      sym q ∙ by_tally,
      tt,
      agree_patient t a,
      a.endable,
      rest t a (λ j. f j ∙ moment_refused M (H t.event) x xs k j q),
    )

  agree_holds : (xs : List M.Item) (t : Tally M.Value) → Agree t → Follows t xs → Holds M (H t.event) t xs
  agree_holds [] t a f = (a.number, sym a.now)
  agree_holds (x ∷ xs) t a f = item (M.refusal (H t.event) x) refl (agree_holds xs)
    where
      item : (o : Option Refusal) → M.refusal (H t.event) x ≡ o →
          ((u : Tally M.Value) → Agree u → Follows u xs → Holds M (H u.event) u xs) →
          Then t x xs (step M (H t.event) x)
      item none q rest = rw (step_accepted M (H t.event) x xs q) (accepted_then x xs t a f rest q)
      item (some k) q rest = rw (step_refused M (H t.event) x xs k q) (refused_then x xs t a f rest k q)

-- what a method owes at its start: m rows that hold zero, and n idle processes
module _ (M : Method) (O : Owed M) (s : M.State) (m : ℕ) (zero_word : M.Value) where
  pub record Starts : Type 0 where
    pub past : (H : ℕ → M.State) → H 0 ≡ s → O.Past H 0
    pub tied : (H : ℕ → M.State) → H 0 ≡ s → (i : ℕ) → i < M.processes → O.Tied H 0 i none
    pub number : M.event s ≡ 0
    pub words : M.words s ≡ replicate m zero_word

  -- demand 3 of a method that pays what it owes
  pub holds : Starts → (xs : List M.Item) → Holds M s (started M.processes m zero_word) xs
  holds b xs =
      let H = moment M s xs in
      let first : H 0 ≡ s = moment_now M s xs in
      let t = started M.processes m zero_word in
      let agree : Agree M O H t =
      record {
        past = b.past H first;
        number = ap M.event first ∙ b.number;
        tied = λ i l. subst (λ o. O.Tied H 0 i o) (sym (get_or-replicate M.processes i none none l)) (b.tied H first i l);
        processes = length-replicate M.processes none;
        now = sym (ap M.words first ∙ b.words);
        then = λ u l. first_instant H first u (omega arith);
        instants = refl;
        endable = let q = sum_replicate (call_owes M.most) M.processes none refl in omega arith;
      } in
      subst (λ r. Holds M r t xs) first
      (agree_holds M O H xs t agree (λ k. ap H (zero-add k) ∙ ap (λ r. moment M r xs k) (sym first)))
    where
      first_instant : (H : ℕ → M.State) → H 0 ≡ s → (u : ℕ) → u ≡ 0 → get_or (replicate m zero_word ∷ []) u [] ≡ M.words (H u)
      first_instant H first u q =
          subst (λ k. get_or (replicate m zero_word ∷ []) k [] ≡ M.words (H k)) (sym q) (sym (ap M.words first ∙ b.words))
