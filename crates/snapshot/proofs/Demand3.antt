-- Demand 3 of every machine that pays what it owes (`Works`): the tie between records and tally, refusals, the event number, the
-- table and its pages, once for all machines.
use Prim.Native.Nat.{ℕ, suc, ◌+◌, ◌-◌, ◌≤◌, ◌<◌}
use native.Mathlib.Numerals.{add-one}
use native.Mathlib.Omega.{arith}
use native.Mathlib.Decide.{ℕ_discrete}
use mathlib.Core.Path.{◌≡◌, refl, sym, ap, ap₂, ◌∙◌, subst}
use mathlib.Core.Logic.{◌≢◌, by_cases}
use mathlib.Core.Bool.{Bool, false, cond, not, ◌||◌, true≢false, not-not}
use mathlib.Core.List.{List, [], ◌∷◌, map}
use mathlib.Core.Option.{Option, none, some, some-ne-none}
use lib.ListN.{length, get_or, set, take, replicate, length-set, length-map, length-replicate, get_or-replicate, get_or-map}
use lib.Seq.{get_or-set_same, get_or-set_other, map-set_same}
use lib.Dec.{eqb, ltb}
use borrow.Author.Tests.{eqb-true, eq-eqb, ne_eqb, le-ltb, not-false}
use Rattle.snapshot.specs.declared.Refusal.TheVariants.{CountRange, ProcessRange, Busy, Idle, DayFull, LentSize}
use Rattle.snapshot.specs.declared.Refusal.TheVariants.{OpenState}
use Rattle.snapshot.specs.declared.Answer.{Answer}
use Rattle.snapshot.specs.declared.Answer.TheVariants.{Called}
use Rattle.snapshot.specs.Refusals.{Cause, first_cause, outside, is_past, is_full}
use Rattle.snapshot.specs.Tally.{Job, scan, update, Seen, call, turn, Call, Tally, call_of, started, opens, gains}
use Rattle.snapshot.specs.Tally.{is_open, call_owes, tally_owes}
use Rattle.snapshot.specs.Demand.{Result, Among, Endable, expected_causes, expected, Holds, admit, step}
use Rattle.snapshot.specs.Days.{Machine, State, Item, open_for, update_call, scan_call, turn_of, sees}
use Rattle.snapshot.specs.Days.{cannot_arise, process_of, process_owes, table_owes, some_unsound, opening_causes, causes, call_causes, turn_causes}
use Rattle.snapshot.specs.Days.{last_of_call, last_of_turn, refusal}
use Rattle.snapshot.specs.Days.{opened_by, advance, called_by, read_from, turn_by, accept, method, opened_for}
use Rattle.snapshot.proofs.Booleans.{bool_cases}
use Rattle.snapshot.proofs.Admitted.{outside_among, Suited, AdmittedCall, AdmittedTurn, admitted_call, admitted_turn}
use Rattle.snapshot.proofs.Causes.{accepted_passes, refused_first}
use Rattle.snapshot.proofs.Lists.{some_of_none, sum_same, map_set, map_replicate, map_constant, list_is_each, each_cong}
use Rattle.snapshot.proofs.Owed.{Owed, Deed, call_deed, read_deed, page_deed, write_deed, actor}
use Rattle.snapshot.proofs.Fold.{holds}
use Rattle.snapshot.proofs.Works.{Owns, process_at, page_at, turn_at, Event, Works}
use Rattle.snapshot.proofs.Works.{TurnDeed, turn_reads, turn_pages, turn_writes}

module _ (M : Machine) (n : ℕ) (W : (H : ℕ → State M.Process) → Works M n H) (z : 0 < n) (eight : n ≤ 8) where
  -- ---- what holds of the past

  record Past (H : ℕ → State M.Process) (e : ℕ) : Type 0 where
    count : (H e).day.count ≡ n
    sizes : (t : ℕ) → t ≤ e → length (H t).table ≡ n
    laws : (W H).Laws e

  abbrev tied : (ℕ → State M.Process) → ℕ → ℕ → Option Call → Type 0
  tied H e i c = (W H).Tie e i (process_at M H i e) c

  abbrev words : State M.Process → List M.Value
  words s = map M.value s.table

  -- a table of n records shows the page of its instant
  table_shows : (H : ℕ → State M.Process) (t : ℕ) → length (H t).table ≡ n → words (H t) ≡ page_at M n H t
  table_shows H t q =
      let blank = M.value M.no_process in
      list_is_each n blank (words (H t)) (length-map (H t).table M.value ∙ q)
      ∙ each_cong n (λ j. get_or (words (H t)) j blank) (λ j. M.value (process_at M H j t))
      (λ j l. get_or-map M.value (H t).table j M.no_process)

  -- a day that is open refuses a further opening with 10
  open_refused : (s : State M.Process) → s.day.count ≡ n → (k : ℕ) → first_cause (opening_causes M s k) ≡ some OpenState
  open_refused s c k =
      refused_first (not (eqb s.day.count 0), OpenState)
      ((outside 1 8 k, CountRange) ∷ (not (eqb (length s.table) k), LentSize) ∷ [])
      (ap not (ne_eqb s.day.count 0 (λ q. omega arith)))

  -- ---- refusals: those that the tally expects

  module _ (H : ℕ → State M.Process) (t : Tally M.Value) (A : Past H t.event) (number : (H t.event).day.event ≡ t.event)
      (T : (i : ℕ) → i < n → tied H t.event i (get_or t.calls i none)) (size : length t.calls ≡ n)
      (endable : Endable (M.most n) t) where
    abbrev e : ℕ
    e = t.event

    abbrev s : State M.Process
    s = H e

    owes_same : table_owes M s ≡ tally_owes (M.most n) t
    owes_same =
        let l = A.sizes e (omega arith) in
        sum_same (process_owes M s.day.count) (call_owes (M.most n)) s.table t.calls M.no_process none (l ∙ sym size)
        (λ i b.
        let p = process_at M H i e in
        ap (λ k. process_owes M k p) A.count ∙ (W H).owing e i p (get_or t.calls i none) (T i (omega arith)))

    can_arise : cannot_arise s.day.count (s.day.event + table_owes M s) (some_unsound M s) ≡ false
    unfolding is_past
    can_arise =
        let c = A.count in
        let l = A.sizes e (omega arith) in
        ap₂ ◌||◌ (le-ltb 8 s.day.count (omega arith))
        (ap₂ ◌||◌ (le-ltb 65535 (s.day.event + table_owes M s) (omega (arith, owes_same)))
        (some_of_none (M.unsound s.day.count s.day.event) s.table M.no_process
        (λ i b.
        ap₂ (λ k u. M.unsound k u (process_at M H i e)) c number
        ∙ (W H).sound e i (get_or t.calls i none) (omega arith) A.laws (T i (omega arith)))))

    -- of the first causes 6 is left where the page list is short, and 2; what comes last may take the process for one of the day's
    causes_left : (d : ℕ) (short : Bool) (last left : List Cause) → (Among n d → first_cause last ≡ first_cause left) →
        first_cause (causes M s d short last) ≡ first_cause ((short, LentSize) ∷ (outside 1 n d, ProcessRange) ∷ left)
    causes_left d short last left h =
        let c = A.count in
        let l = A.sizes e (omega arith) in
        let is_open_lem = ne_eqb s.day.count 0 (λ q. omega arith) in
        let sized = eq-eqb (length s.table) s.day.count (omega arith) in
        let first : first_cause (causes M s d short last) ≡
        first_cause ((short, LentSize) ∷ (outside 1 s.day.count d, ProcessRange) ∷ last) = simp (is_open_lem, sized, can_arise) in
        first
        ∙ ap (λ k. first_cause ((short, LentSize) ∷ (outside 1 k d, ProcessRange) ∷ last)) c
        ∙ ap (λ r. cond short (some LentSize) r)
        (bool_cases (outside 1 n d) (λ q. rw q) (λ q. ap (λ r. cond (outside 1 n d) (some ProcessRange) r) (h (outside_among n d q))))

    idle_is : (d : ℕ) → Among n d → M.is_idle (process_of M s d) ≡ not (is_open (call_of t d))
    idle_is d m = (W H).idle e (d - 1) (process_at M H (d - 1) e) (call_of t d) (T (d - 1) (omega arith))

    full_is : (j : Job) → is_full s.day.event (table_owes M s) (M.most s.day.count j) ≡ is_full e (tally_owes (M.most n) t) (M.most n j)
    full_is j i = is_full (number i) (owes_same i) (M.most (A.count i) j)

    call_refused : (d : ℕ) (j : Job) → first_cause (call_causes M s d j) ≡ first_cause (expected_causes (method M n) t (call d j) [])
    call_refused d j =
        causes_left d false (last_of_call M s d j)
        ((is_open (call_of t d), Busy) ∷ (is_full e (tally_owes (M.most n) t) (M.most n j), DayFull) ∷ []) (λ m.
        ap₂ (λ b f. first_cause ((not b, Busy) ∷ (f, DayFull) ∷ [])) (idle_is d m) (full_is j)
        ∙ ap (λ b. first_cause ((b, Busy) ∷ (is_full e (tally_owes (M.most n) t) (M.most n j), DayFull) ∷ []))
        (not-not (is_open (call_of t d))))

    turn_refused : (d : ℕ) (page : List ℕ) → first_cause (turn_causes M s d page) ≡ first_cause (expected_causes (method M n) t (turn d) page)
    turn_refused d page =
        causes_left d (ltb (length page) (M.page_length s.day.count)) (last_of_turn M s d) ((not (is_open (call_of t d)), Idle) ∷ []) (λ m. ap (λ b. first_cause ((b, Idle) ∷ [])) (idle_is d m))
        ∙ ap (λ k. first_cause ((ltb (length page) (M.page_length k), LentSize) ∷ (outside 1 n d, ProcessRange) ∷ (not (is_open (call_of t d)), Idle) ∷ []))
        A.count

    refused_by_tally : (x : Item) → refusal M s x ≡ expected (method M n) t x
    unfolding refusal
    refused_by_tally (open_for k) = open_refused s A.count k
    refused_by_tally (update_call d w) = call_refused d (update d w)
    refused_by_tally (scan_call d) = call_refused d scan
    refused_by_tally (turn_of d page) = turn_refused d page

  -- ---- accepted items

  module _ (H : ℕ → State M.Process) (e : ℕ) (open-call : ℕ → Option Call) (A : Past H e) (number : (H e).day.event ≡ e)
      (T : (i : ℕ) → i < n → tied H e i (open-call i)) where
    among : {d : ℕ} {short : Bool} → Suited M (H e) d short → Among n d
    among {d} ok = subst (λ k. Among k d) A.count ok.among

    -- event e + 1 leaves process d the record p
    module _ (d : ℕ) (p : M.Process) (m : Among n d) (next : H (suc e) ≡ advance M (H e) d p) where
      event : Event M n H e (d - 1) p
      unfolding advance
      event =
          let s = A.sizes e (omega arith) in
          record {
            inside = omega arith;
            own = ap (λ s. get_or s.table (d - 1) M.no_process) next
                ∙ get_or-set_same (H e).table (d - 1) p M.no_process (omega arith);
            other = λ j h. ap (λ s. get_or s.table j M.no_process) next
                ∙ get_or-set_other (H e).table (d - 1) j p M.no_process h;
          }

      next_event : (H (suc e)).day.event ≡ suc e
      unfolding advance
      next_event = ap (λ s. s.day.event) next ∙ ap (λ k. k + 1) number ∙ add-one e

      next_past : (W H).Laws (suc e) → Past H (suc e)
      unfolding advance
      next_past w =
          record {
            count = ap (λ s. s.day.count) next ∙ A.count;
            sizes = λ t l. by_cases (ℕ_discrete t (suc e))
                (λ x.
                ap (λ k. length (H k).table) x ∙ ap (λ s. length s.table) next ∙ length-set (H e).table (d - 1) p
                ∙ A.sizes e (omega arith))
                (λ x. A.sizes t (omega arith));
            laws = w;
          }

      words_stay : M.value p ≡ M.value (process_at M H (d - 1) e) → words (H (suc e)) ≡ words (H e)
      unfolding advance
      words_stay q = ap words next ∙ map-set_same M.value (H e).table (d - 1) p M.no_process q

      words_change : (v : M.Value) → M.value p ≡ v → words (H (suc e)) ≡ set (words (H e)) (d - 1) v
      unfolding advance
      words_change v q =
          ap words next ∙ map_set M.value (H e).table (d - 1) p ∙ ap (λ v. set (words (H e)) (d - 1) v) q

      own_tied : (c : Option Call) → (W H).Tie (suc e) (d - 1) p c → tied H (suc e) (d - 1) c
      own_tied c t = subst (λ q. (W H).Tie (suc e) (d - 1) q c) (sym event.own) t

      others_tied : (j : ℕ) → j < n → j ≢ d - 1 → (c : Option Call) → tied H e j c → tied H (suc e) j c
      others_tied j b h c t =
          subst (λ q. (W H).Tie (suc e) j q c) (sym (event.other j h)) ((W H).waits e (d - 1) p A.laws event j c b h t)

      -- its turn is a deed, as `Owed` asks
      turn_deed : (c : Call) (page : List ℕ) {a : Answer} → open-call (d - 1) ≡ some c →
          TurnDeed M n H ((W H).Tie (suc e) (d - 1) p) e (d - 1) c p page a →
          Deed (method M n) tied H e open-call (M.shown n (take (M.page_length n) page)) (turn d) a
      turn_deed c page is (turn_reads v t) = read_deed d c m is (words_stay v) (own_tied (some (gains c)) t)
      turn_deed c page is (turn_pages lender at turns job count good v t) =
          page_deed d c lender at turns m is job count
          (good.true ∙ sym (table_shows H at (A.sizes at good.early))) good.late good.early
          (words_stay v) (own_tied none t)
      turn_deed c page is (turn_writes w turns job count v t) =
          write_deed d c job.0 w turns m is job.2 count
          (words_change (M.stored (suc e) w) v ∙ ap (λ i. set (words (H e)) i (M.stored (suc e) w)) (sym job.1))
          (own_tied none t)

    -- what `Owed` asks of an accepted item, its result given
    abbrev Acts : Seen → Result (State M.Process) → Type 0
    Acts x r =
        H (suc e) ≡ r.state →
        Past H (suc e)
        × ((H (suc e)).day.event ≡ suc e)
        × ((i : ℕ) → i < n → i ≢ actor x → (c : Option Call) → tied H e i c → tied H (suc e) i c)
        × Deed (method M n) tied H e open-call (M.shown n (take (M.page_length n) r.page)) x r.answer

    -- the result of an item that leaves process d the record p
    abbrev leaves : ℕ → M.Process → Answer → List ℕ → Result (State M.Process)
    leaves d p a page = record { state = advance M (H e) d p; answer = a; page = page }

    call_acts : (d : ℕ) (j : Job) → Owns (d - 1) j → first_cause (call_causes M (H e) d j) ≡ none →
        Acts (call d j) (record { state = called_by M (H e) d j; answer = Called; page = [] })
    unfolding called_by
    call_acts d j o q =
        let p = process_at M H (d - 1) e in
        let ok = admitted_call M (H e) d j q in
        subst (λ k. Acts (call d j) (leaves d (M.called k j p) Called [])) (sym A.count)
        (go ok (open-call (d - 1)) refl (T (d - 1) (let a = among ok.suited in omega arith)))
      where
        go : AdmittedCall M (H e) d j → (b : Option Call) → open-call (d - 1) ≡ b →
            tied H e (d - 1) b → Acts (call d j) (leaves d (M.called n j (process_at M H (d - 1) e)) Called [])
        go ok (some c) is t next =
            let p = process_at M H (d - 1) e in
            absurd (true≢false (sym ok.idle ∙ (W H).idle e (d - 1) p (some c) t))
        go ok none is t next =
            let p = M.called n j (process_at M H (d - 1) e) in
            let m = among ok.suited in
            let w = (W H).calls e (d - 1) j o A.laws t (event d p m next) in (
              next_past d p m next w.0,
              next_event d p m next,
              others_tied d p m next,
              call_deed d j m is (words_stay d p m next w.1) (own_tied d p m next (some (opens (suc e) j)) w.2),
            )

    turn_is : (d : ℕ) (page : List ℕ) → turn_by M (H e) d page ≡ turn_at M n H (d - 1) e page
    unfolding turn_by
    turn_is d page =
        let p = process_at M H (d - 1) e in
        ap₂ (λ k t. M.turned k (d - 1) t (read_from M (H e).table (M.reads k p)) page p) A.count
        (ap (λ t. t + 1) number ∙ add-one e)

    turn_acts : (d : ℕ) (page : List ℕ) → first_cause (turn_causes M (H e) d page) ≡ none →
        let r = turn_at M n H (d - 1) e page in
        Acts (turn d) (leaves d r.state r.answer r.page)
    turn_acts d page q =
        let ok = admitted_turn M (H e) d page q in
        go ok (open-call (d - 1)) refl (T (d - 1) (let a = among ok.suited in omega arith))
      where
        r : Result M.Process
        r = turn_at M n H (d - 1) e page

        go : AdmittedTurn M (H e) d page →
            (b : Option Call) → open-call (d - 1) ≡ b → tied H e (d - 1) b → Acts (turn d) (leaves d r.state r.answer r.page)
        go ok none is t next = absurd (true≢false (sym ((W H).idle e (d - 1) (process_at M H (d - 1) e) none t) ∙ ok.busy))
        go ok (some c) is t next =
            let m = among ok.suited in
            let w = (W H).turns e (d - 1) page c A.laws t (event d r.state m next) in (
              next_past d r.state m next w.0,
              next_event d r.state m next,
              others_tied d r.state m next,
              turn_deed d r.state m next c r.page is w.1,
            )

    item_acts : (x : Item) → refusal M (H e) x ≡ none → Acts (sees x) (accept M (H e) x)
    unfolding refusal accept
    item_acts (open_for c) q = absurd (some-ne-none OpenState (sym (open_refused (H e) A.count c) ∙ q))
    item_acts (update_call d w) q = call_acts d (update d w) refl q
    item_acts (scan_call d) q = call_acts d scan tt q
    item_acts (turn_of d page) q =
        subst (λ r. Acts (turn d) (leaves d r.state r.answer r.page)) (sym (turn_is d page))
        (turn_acts d page q)

  -- ---- the theorem

  owed : Owed (method M n)
  owed =
      record {
        Past = Past;
        Tied = tied;
        patient = λ H e i c b A t. (W H).patient e i c b A.laws t;
        refuses = λ H t x A number T size endable. refused_by_tally H t A number T size endable x;
        acts = λ H e x open-call A number T q next. item_acts H e open-call A number T x q next;
      }

  module _ (H : ℕ → State M.Process) (first : H 0 ≡ opened_for M n) where
    first_process : (j : ℕ) → j < n → process_at M H j 0 ≡ M.zero_process
    unfolding opened_for
    first_process j b = ap (λ s. get_or s.table j M.no_process) first ∙ get_or-replicate n j M.zero_process M.no_process b

    first_past : Past H 0
    unfolding opened_for
    first_past =
        record {
          count = ap (λ s. s.day.count) first;
          sizes = λ t l. ap (λ k. length (H k).table) (omega arith) ∙ ap (λ s. length s.table) first
              ∙ length-replicate n M.zero_process;
          laws = (W H).laws_start first_process;
        }

    first_tied : (i : ℕ) → i < n → tied H 0 i none
    first_tied i b = subst (λ p. (W H).Tie 0 i p none) (sym (first_process i b)) ((W H).tie_start i b)

  -- demand 3: a day just opened for n, from 1 to 8, and every list of items on it
  pub demand3 : (items : List Item) → Holds (method M n) (opened_for M n) (started n n (M.value M.zero_process)) items
  unfolding opened_for owed
  demand3 =
      holds (method M n) owed (opened_for M n) n (M.value M.zero_process)
      (record { past = first_past; tied = first_tied; number = refl; words = map_replicate M.value n M.zero_process })

-- what an accepted opening leaves, whatever the day and the table held, is the day just opened for its count, from 1 to 8
pub opening_opens : (M : Machine) (s : State M.Process) (k : ℕ) → refusal M s (open_for k) ≡ none →
    ((accept M s (open_for k)).state ≡ opened_for M k) × (0 < k) × (k ≤ 8)
unfolding refusal accept opened_by opened_for
opening_opens M s k q =
    let w = accepted_passes (opening_causes M s k) q in
    let size = eqb-true (length s.table) k (not-false (eqb (length s.table) k) w.1.1.0) in
    let range = outside_among 8 k w.1.0 in (
      ap (λ ps. record { day = record { count = k; event = 0 }; table = ps })
          (map_constant M.zero_process s.table ∙ ap (λ m. replicate m M.zero_process) size),
      range.0,
      range.1,
    )

-- demand 3 after any accepted opening, whatever the day and the table held before it
pub demand3_after_opening : (M : Machine) (s : State M.Process) (n : ℕ) →
    (0 < n → n ≤ 8 → (H : ℕ → State M.Process) → Works M n H) → refusal M s (open_for n) ≡ none → (items : List Item) →
    Holds (method M n) (step (method M n) s (open_for n)).state (started n n (M.value M.zero_process)) items
unfolding step
demand3_after_opening M s n W q items =
    let w = opening_opens M s n q in
    subst (λ r. Holds (method M n) r (started n n (M.value M.zero_process)) items)
    (sym (ap (λ k. (admit (method M n) s (open_for n) k).state) q ∙ w.0)) (demand3 M n (W w.1 w.2) w.1 w.2 items)
