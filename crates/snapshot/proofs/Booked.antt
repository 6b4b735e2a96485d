-- The claims of K1, once for every method, from demand 3 alone (and that a value shows the word which it was stored with): what is heard of a list that follows the tally makes a book, and
-- with its calls and answers a run of the canonical automaton (`holds_booked`). The run is built as the list goes: a call, an
-- update or a return is the last action; a page's Scan, once it is answered, is placed at its number.
use Prim.Native.Nat.{ℕ, zero, suc, ◌-◌, ◌≤◌, ◌<◌}
use native.Mathlib.Omega.{arith}
use native.Mathlib.Decide.{ℕ_discrete, dec_le}
use mathlib.Core.Path.{◌≡◌, refl, sym, ap, ap₂, ◌∙◌, subst, fun_ext}
use mathlib.Core.Logic.{◌≢◌, by_cases}
use mathlib.Core.Bool.{false, cond, not}
use mathlib.Core.List
use mathlib.Core.List.{List, [], ◌∷◌, ◌++◌, map, mem-append_left, mem-append_right, mem-cons_self}
use mathlib.Core.List.Permᴰ
use mathlib.Core.List.{append_assoc, append-nil}
use mathlib.Core.Option
use mathlib.Core.Option.{Option, none, some, none-ne-some, some-injective}
use lib.ListN.{length, get_or, set, replicate, length-append, length-set, length-replicate, get_or-replicate, get_or-append}
use lib.Seq.{get_or-set_same, get_or-set_other, get_or_at}
use Rattle.snapshot.specs.declared.Answer.{Answer}
use Rattle.snapshot.specs.declared.Answer.TheVariants.{Refused, Opened, Called, Read, Page, Written}
use Rattle.snapshot.specs.Lists.{All, Pairs, place, places}
use Rattle.snapshot.specs.Tally.{Job, scan, update, Seen, opening, call, turn, Call, Tally, started, call_of, instant, advanced}
use Rattle.snapshot.specs.Tally.{opens, gains, puts, puts_if, tallied}
use Rattle.snapshot.specs.Demand.{Method, Among, PageFits, WrittenFits, IsUpdate, Waiting, Holds}
use Rattle.snapshot.specs.Canonical.{Action, ScanRequest, UpdateRequest, Update, Scan, UpdateReturn, ScanReturn}
use Rattle.snapshot.specs.Canonical.{Memory, put, Precondition, effect, actor_in, is_internal, AsksOnce}
use Rattle.snapshot.specs.Book.{Heard, heard, Operation, operations, Timed, request, finished_by, said_by, tally_after, finished}
use Rattle.snapshot.specs.Book.{said, book, InOrder, NotBefore, rows_after, Shows, ReadsTrue, serialized, placed_at, pending}
use Rattle.snapshot.specs.Book.{returned, IsTold}
use Rattle.snapshot.specs.Book.{interface_of, memory_of, internals, interface, IsBooked}
use Rattle.snapshot.proofs.Lists.{map_set, map_replicate}
use Rattle.snapshot.proofs.Placing.{all_of, all_imp, all_append, all_keep, all_place, pairs_imp, pairs_last, pairs_place, up_place}
use Rattle.snapshot.proofs.Placing.{place_last, keep_append, keep_place_in, keep_place_out, map_place, places_append, places_perm}
use Rattle.snapshot.proofs.Canonical.{put_same, put_other, put_self, put_twice, RunAt, run_last, mem_at, mem_last, mem_end, scanned, mem_scanned}
use Rattle.snapshot.proofs.Canonical.{scan_placed, WellFormedAt, waits_end, well_formed_last, well_formed_scanned, rests_end}
use Rattle.snapshot.proofs.Canonical.{AllShow, run_shows}
use Rattle.snapshot.proofs.Follows.{Tells, Follows, holds_follows}

-- ---- an accepted event of process d: the tally, and the interface variables

module _ {Value : Type 0} where
  -- what every tally of n processes has
  pub record Sane (n : ℕ) (t : Tally Value) : Type 0 where
    pub calls : length t.calls ≡ n
    pub instants : length t.instants ≡ suc t.event
    pub now : instant t t.event ≡ t.words

  module _ {n : ℕ} {t : Tally Value} (s : Sane n t) (ws : List Value) (d : ℕ) (m : Among n d) (o : Option Call) where
    pub sane_advanced : Sane n (advanced t ws d o)
    sane_advanced =
        record {
          calls = length-set t.calls (d - 1) o ∙ s.calls;
          instants = simp length-append (omega (arith, s.instants));
          now = get_or_at t.instants ws [] [] (suc t.event) s.instants;
        }

    pub call_own : call_of (advanced t ws d o) d ≡ o
    call_own = get_or-set_same t.calls (d - 1) o none (omega (arith, s.calls, m))

    pub call_other : (j : ℕ) → Among n j → j ≢ d → call_of (advanced t ws d o) j ≡ call_of t j
    call_other j k q = get_or-set_other t.calls (d - 1) (j - 1) o none (λ e. q (omega (arith, e, m, k)))

    instant_past : (e : ℕ) → e ≤ t.event → instant (advanced t ws d o) e ≡ instant t e
    instant_past e l = get_or-append t.instants (ws ∷ []) [] e (omega (arith, s.instants, l))

interface_at : (calls : List (Option Call)) (d : ℕ) → 0 < d → interface_of calls d ≡ pending d (get_or calls (d - 1) none)
interface_at calls zero l = absurd (omega (arith, l))
interface_at calls (suc i) l = ap (λ k. pending (suc i) (get_or calls k none)) (omega arith)

interface_set : (calls : List (Option Call)) (d : ℕ) (o : Option Call) → 0 < d → d ≤ length calls →
    put (interface_of calls) d (pending d o) ≡ interface_of (set calls (d - 1) o)
interface_set calls zero o z l = absurd (omega (arith, z))
interface_set calls (suc i) o z l = fun_ext go ∙ ap (λ k. interface_of (set calls k o)) (omega arith)
  where
    own : Option Action
    own = pending (suc i) o

    go : (j : ℕ) → put (interface_of calls) (suc i) own j ≡ interface_of (set calls i o) j
    go zero = put_other (interface_of calls) (suc i) own zero (λ e. omega (arith, e))
    go (suc j) =
        by_cases (ℕ_discrete j i)
        (λ e. subst (λ k. put (interface_of calls) (suc i) own (suc k) ≡ pending (suc k) (get_or (set calls i o) k none)) (sym e)
        (put_same (interface_of calls) (suc i) own ∙ ap (pending (suc i)) (sym (get_or-set_same calls i o none (omega (arith, l))))))
        (λ e. put_other (interface_of calls) (suc i) own (suc j) (λ f. e (omega (arith, f)))
        ∙ ap (pending (suc j)) (sym (get_or-set_other calls i j o none e)))

-- ---- so far

abbrev number : Operation → ℕ
number o = o.number

abbrev time : Timed → ℕ
time a = a.0

-- if it is process d's, it is numbered k or less
abbrev Until : ℕ → ℕ → Timed → Type 0
Until d k a = actor_in a.1 ≡ d → a.0 ≤ k

-- b is the book, and acts are a run with these calls and answers, of what is heard up to tally t
module _ {Value : Type 0} (n : ℕ) (word : Value → ℕ) (start : Tally Value) where
  pub record SoFar (t : Tally Value) (b : List Operation) (h acts : List Timed) : Type 0 where
    pub sane : Sane n t
    -- the book
    pub ordered : Pairs InOrder b
    pub answered : All (λ o. o.answered ≤ t.event) b
    pub spans : All (λ o. (o.called < o.number) × (o.number ≤ o.answered)) b
    -- the run
    pub inside : internals acts ≡ map placed_at b
    pub outside : interface acts ≡ h
    pub ascending : Pairs (λ x y. x.0 ≤ y.0) acts
    pub past : All (λ a. a.0 ≤ t.event) acts
    pub processes : All (λ a. Among n (actor_in a.1)) acts
    pub run : RunAt (memory_of word start) acts (memory_of word t)
    pub well_formed : WellFormedAt (λ d. false) acts
    -- Mem at each instant, and that a process which waits did nothing since its call
    pub mems : (e : ℕ) → e ≤ t.event → mem_at e (map word start.words) acts ≡ map word (instant t e)
    pub still : (d : ℕ) (c : Call) → Among n d → call_of t d ≡ some c → All (Until d c.number) acts
    pub opened : (d : ℕ) (c : Call) → Among n d → call_of t d ≡ some c → c.number ≤ t.event
    -- what is said of a call that is open, and of what is in the book
    pub asked : (d : ℕ) (c : Call) → Among n d → call_of t d ≡ some c → List.Mem (c.number, request d c.job) h
    pub told : All (IsTold h) b

  -- what actions of process d more, up to event e + 1, do not change
  record More (e d : ℕ) (old acts : List Timed) : Type 0 where
    ascending : Pairs (λ x y. x.0 ≤ y.0) acts
    past : All (λ a. a.0 ≤ suc e) acts
    processes : All (λ a. Among n (actor_in a.1)) acts
    mems : (k : ℕ) → k ≤ e → mem_at k (map word start.words) acts ≡ mem_at k (map word start.words) old
    others : (j k : ℕ) → j ≢ d → All (Until j k) old → All (Until j k) acts

  module _ {t : Tally Value} {b : List Operation} {h acts : List Timed} (s : SoFar t b h acts) (d : ℕ) (m : Among n d) where
    -- the number of the event, and an action at it
    abbrev now : ℕ
    now = suc t.event

    abbrev after : Action → Timed
    after a = (now, a)

    -- the automaton at the start and here, and its interface variables here
    abbrev from : Memory
    from = memory_of word start

    abbrev here : Memory
    here = memory_of word t

    abbrev H : ℕ → Option Action
    H = interface_of t.calls

    none_more : More t.event d acts acts
    none_more =
        record {
          ascending = s.ascending;
          past = all_imp (λ a. a.0 ≤ t.event) (λ a. a.0 ≤ now) (λ a q. omega (arith, q)) acts s.past;
          processes = s.processes;
          mems = λ k l. refl;
          others = λ j k q h. h;
        }

    later : (os : List Operation) → All (λ o. o.answered ≤ t.event) os → All (λ o. o.answered ≤ now) os
    later os h = all_imp (λ o. o.answered ≤ t.event) (λ o. o.answered ≤ now) (λ o q. omega (arith, q)) os h

    -- the last action is one of process d at event e + 1
    last_more : (l : List Timed) → More t.event d acts l → (a : Action) → actor_in a ≡ d → More t.event d acts (l ++ (after a ∷ []))
    last_more l g a q =
        record {
          ascending = pairs_last (λ x y. x.0 ≤ y.0) l (after a) g.ascending g.past;
          past = all_append (λ x. x.0 ≤ now) l (after a ∷ []) g.past (omega arith, tt);
          processes = all_append (λ x. Among n (actor_in x.1)) l (after a ∷ []) g.processes (subst (Among n) (sym q) m, tt);
          mems = λ k r. mem_last k (map word start.words) l (after a) (omega (arith, r)) ∙ g.mems k r;
          others = λ j k r h. all_append (Until j k) l (after a ∷ []) (g.others j k r h) ((λ p. absurd (r (sym p ∙ q))), tt);
        }

    -- a Scan of process d is placed
    scan_more : (k : ℕ) → k ≤ t.event → (ds : List ℕ) → More t.event d acts (scanned k d ds acts)
    scan_more k l ds =
        record {
          ascending = up_place time (k, Scan d ds) acts s.ascending;
          past = all_place time (k, Scan d ds) (λ a. a.0 ≤ now) acts none_more.past (omega (arith, l));
          processes = all_place time (k, Scan d ds) (λ a. Among n (actor_in a.1)) acts s.processes m;
          mems = λ e r. mem_scanned k d ds e (map word start.words) acts;
          others = λ j e r h. all_place time (k, Scan d ds) (Until j e) acts h (λ p. absurd (r (sym p)));
        }

    -- after an accepted event of process d: the words are ws, and its open call is o
    module _ (ws : List Value) (o : Option Call) where
      abbrev t' : Tally Value
      t' = advanced t ws d o

      -- an open call of d is said, and has had no action since
      abbrev Opens : List Timed → List Timed → Type 0
      Opens h' l = (c : Call) → o ≡ some c →
          (c.number ≤ now) × All (Until d c.number) l × List.Mem (c.number, request d c.job) h'

      events : {b' : List Operation} {h' acts' : List Timed} → Opens h' acts' → ((x : Timed) → List.Mem x h → List.Mem x h') →
          More t.event d acts acts' →
          RunAt from acts' (memory_of word t') → WellFormedAt (λ d. false) acts' →
          Pairs InOrder b' → All (λ o. o.answered ≤ now) b' → All (λ o. (o.called < o.number) × (o.number ≤ o.answered)) b' →
          All (IsTold h') b' → internals acts' ≡ map placed_at b' → interface acts' ≡ h' → SoFar t' b' h' acts'
      events {h' = h'} {acts' = acts'} open-now goes g r wf up ans spans told ins outs =
          record {
            sane = sane_advanced s.sane ws d m o;
            ordered = up;
            answered = ans;
            spans = spans;
            inside = ins;
            outside = outs;
            ascending = g.ascending;
            past = g.past;
            processes = g.processes;
            run = r;
            well_formed = wf;
            mems = λ e l. by_cases (dec_le e t.event)
                (λ q. g.mems e q ∙ s.mems e q ∙ ap (map word) (sym (instant_past s.sane ws d m o e q)))
                (λ q. ap (λ k. mem_at k (map word start.words) acts') (let z : e ≡ now = omega (arith, l, q) in z)
                ∙ mem_end now acts' from (memory_of word t') g.past r
                ∙ ap (map word) (sym (sane_advanced s.sane ws d m o).now
                ∙ ap (instant t') (let z : now ≡ e = omega (arith, l, q) in z)));
            still = λ j c k q. by_cases (ℕ_discrete j d)
                (λ e. subst (λ i. All (Until i c.number) acts') (sym e)
                (open-now c (sym (call_own s.sane ws d m o) ∙ ap (call_of t') (sym e) ∙ q)).1)
                (λ e. g.others j c.number e (s.still j c k (sym (call_other s.sane ws d m o j k e) ∙ q)));
            opened = λ j c k q. by_cases (ℕ_discrete j d)
                (λ e. (open-now c (sym (call_own s.sane ws d m o) ∙ ap (call_of t') (sym e) ∙ q)).0)
                (λ e. let l = s.opened j c k (sym (call_other s.sane ws d m o j k e) ∙ q) in omega (arith, l));
            asked = λ j c k q. by_cases (ℕ_discrete j d)
                (λ e. subst (λ i. List.Mem (c.number, request i c.job) h') (sym e)
                (open-now c (sym (call_own s.sane ws d m o) ∙ ap (call_of t') (sym e) ∙ q)).2)
                (λ e. goes (c.number, request j c.job) (s.asked j c k (sym (call_other s.sane ws d m o j k e) ∙ q)));
            told = told;
          }

    -- ---- a call, a turn that goes on

    rests : call_of t d ≡ none → waits_end (λ d. false) acts d ≡ false
    rests q =
        rests_end acts from here (λ d. false) (λ j p. refl) s.run d
        (interface_at t.calls d m.0 ∙ ap (pending d) q)

    -- the state once process d's open call is o and its interface variable holds what o asks for
    leads_to : (ws : List Value) (o : Option Call) (h : ℕ → Option Action) → h ≡ put H d (pending d o) →
        ◌≡◌ {A = Memory} (record { Mem = map word ws; H = h }) (memory_of word (advanced t ws d o))
    leads_to ws o h q =
        ap {B = Memory} (λ h. record { Mem = map word ws; H = h })
        (q ∙ interface_set t.calls d o m.0 (omega (arith, m.1, s.sane.calls)))

    asks : (c : Call) → call_of t d ≡ some c → (j : Job) → c.job ≡ j → H d ≡ some (request d j)
    asks c q j e = interface_at t.calls d m.0 ∙ ap (pending d) q ∙ ap (λ k. some (request d k)) e

    -- the last action at the interface, or inside
    last_outside : (l : List Timed) (a : Action) → is_internal a ≡ false →
        (internals (l ++ (after a ∷ [])) ≡ internals l) × (interface (l ++ (after a ∷ [])) ≡ interface l ++ (after a ∷ []))
    last_outside l a q = (
      keep_append (λ x. is_internal x.1) l (after a ∷ []) ∙ ap (λ b. internals l ++ cond b (after a ∷ []) []) q
          ∙ append-nil (internals l),
      keep_append (λ x. not (is_internal x.1)) l (after a ∷ []) ∙ ap (λ b. interface l ++ cond (not b) (after a ∷ []) []) q,
    )

    -- what was told is, once more is said
    told_more : (l : List Timed) → All (IsTold (h ++ l)) b
    told_more l = all_imp (IsTold h) (IsTold (h ++ l)) (λ x p. (mem-append_left l p.0, mem-append_left l p.1)) b s.told

    called_so_far : (j : Job) → call_of t d ≡ none →
        SoFar (advanced t t.words d (some (opens now j))) b (h ++ (after (request d j) ∷ [])) (acts ++ (after (request d j) ∷ []))
    called_so_far j q = go j refl
      where
        o : Option Call
        o = some (opens now j)

        end : (a : Action) → a ≡ request d j → actor_in a ≡ d → is_internal a ≡ false → Precondition here a →
            AsksOnce (waits_end (λ d. false) acts) a → effect here a ≡ memory_of word (advanced t t.words d o) →
            SoFar (advanced t t.words d o) b (h ++ (after a ∷ [])) (acts ++ (after a ∷ []))
        end a is p i pre once e =
            let said = subst (λ y. List.Mem (now, y) (h ++ (after a ∷ []))) is (mem-append_right h mem-cons_self) in
            let more = last_more acts none_more a p in
            let outs = last_outside acts a i in
            events t.words o
            (λ c r. let is_c = some-injective (opens now j) c r in
            let z = ap (λ y. y.number) is_c in (
              omega (arith, z),
              all_imp (λ x. x.0 ≤ now) (Until d c.number) (λ x l f. omega (arith, l, z))
                  (acts ++ (after a ∷ [])) more.past,
              subst (λ y. List.Mem (y.number, request d y.job) (h ++ (after a ∷ []))) is_c said,
            ))
            (λ x. mem-append_left (after a ∷ [])) more (subst (RunAt from (acts ++ (after a ∷ []))) e (run_last acts (after a) from here s.run pre))
            (well_formed_last (λ d. false) acts (after a) s.well_formed once)
            s.ordered (later b s.answered) s.spans (told_more (after a ∷ []))
            (outs.0 ∙ s.inside) (outs.1 ∙ ap (λ k. k ++ (after a ∷ [])) s.outside)

        go : (i : Job) → i ≡ j →
            SoFar (advanced t t.words d o) b (h ++ (after (request d i) ∷ [])) (acts ++ (after (request d i) ∷ []))
        go scan e = end (ScanRequest d) (ap (request d) e) refl refl tt (rests q) (leads_to t.words o _ (ap (λ i. put H d (some (request d i))) e))
        go (update k w) e =
            end (UpdateRequest d k w) (ap (request d) e) refl refl tt (rests q) (leads_to t.words o _ (ap (λ i. put H d (some (request d i))) e))

    went_so_far : (c : Call) → call_of t d ≡ some c → SoFar (advanced t t.words d (some (gains c))) b h acts
    went_so_far c q =
        events t.words (some (gains c))
        (λ x r. let is_x = some-injective (gains c) x r in
        let z = ap (λ y. y.number) is_x in
        let l = s.opened d c m q in (
          omega (arith, z, l),
          subst (λ k. All (Until d k) acts) z (s.still d c m q),
          subst (λ y. List.Mem (y.number, request d y.job) h) is_x (s.asked d c m q),
        ))
        (λ x p. p) none_more
        (subst (RunAt from acts)
        (leads_to t.words (some (gains c)) H (sym (put_self H d (some (request d c.job)) (asks c q c.job refl))))
        s.run)
        s.well_formed s.ordered (later b s.answered) s.spans s.told s.inside s.outside

    -- ---- an answer: one more operation in the book

    module _ (o : Operation) (spans-o : (o.called < o.number) × (o.number ≤ now)) (answered-o : o.answered ≡ now) where
      abbrev b' : List Operation
      b' = place number o b

      book_ordered : Pairs InOrder b'
      book_ordered =
          pairs_place number o InOrder b
          (pairs_imp (λ x. x.answered ≤ t.event) InOrder (λ x y. x.number ≤ y.number) (λ x y p q r. r.0) b s.answered
          s.ordered)
          s.ordered
          (all_imp (λ x. x.answered ≤ t.event) (λ x. x.number ≤ o.number → InOrder x o)
          (λ x p q. (q, λ e. omega (arith, p, answered-o))) b s.answered)
          (all_of (λ x. o.number < x.number → InOrder o x) (λ x q. (omega (arith, q), λ e. absurd (omega (arith, q, e)))) b)

      book_answered : All (λ x. x.answered ≤ now) b'
      book_answered = all_place number o (λ x. x.answered ≤ now) b (later b s.answered) (omega (arith, answered-o))

      book_spans : All (λ x. (x.called < x.number) × (x.number ≤ x.answered)) b'
      book_spans =
          all_place number o (λ x. (x.called < x.number) × (x.number ≤ x.answered)) b s.spans
          (spans-o.0, omega (arith, spans-o.1, answered-o))

      book_told : (a : Action) → o.process ≡ d → returned o.process o.words o.job ≡ a →
          List.Mem (o.called, request o.process o.job) h → All (IsTold (h ++ (after a ∷ []))) b'
      book_told a p e said =
          all_place number o (IsTold (h ++ (after a ∷ []))) b (told_more (after a ∷ [])) (
            mem-append_left (after a ∷ []) said,
            subst (λ y. List.Mem y (h ++ (after a ∷ []))) (ap₂ {C = Timed} (λ x y. (x, y)) (sym answered-o) (sym e))
                (mem-append_right h mem-cons_self),
          )

      book_inside : (a : Action) → serialized o.process o.words o.job ≡ a →
          place time (o.number, a) (internals acts) ≡ map placed_at b'
      book_inside a e =
          ap₂ (λ x l. place (λ y. y.0) (o.number, x) l) (sym e) s.inside ∙ sym (map_place placed_at time o b)

    -- a page of scan c, of instant k
    module _ (c : Call) (q : call_of t d ≡ some c) (j : c.job ≡ scan) (k : ℕ) (ds : List ℕ) (shows : ds ≡ map word (instant t k))
        (low : c.number < k) (high : k ≤ t.event) where
      abbrev page : Operation
      page = record { process = d; job = c.job; words = ds; called = c.number; number = k; answered = now }

      paged_so_far : SoFar (advanced t t.words d none) (place number page b) (h ++ (after (ScanReturn d ds) ∷ []))
          (scanned k d ds acts ++ (after (ScanReturn d ds) ∷ []))
      paged_so_far =
          let spans-o : (c.number < k) × (k ≤ now) = (low, omega (arith, high)) in
          let outs = last_outside (scanned k d ds acts) (ScanReturn d ds) refl in
          events t.words none (λ x r. absurd (none-ne-some x r)) (λ x. mem-append_left (after (ScanReturn d ds) ∷ []))
          (last_more (scanned k d ds acts) (scan_more k high ds) (ScanReturn d ds) refl)
          (subst (RunAt from (scanned k d ds acts ++ (after (ScanReturn d ds) ∷ [])))
          (leads_to t.words none _ (put_twice H d none (some (ScanReturn d ds))))
          (run_last (scanned k d ds acts) (after (ScanReturn d ds)) from _
          (scan_placed k d ds acts from here s.ascending
          (all_imp (Until d c.number) (Until d k) (λ a f p. let g = f p in omega (arith, g, low)) acts (s.still d c m q))
          (asks c q scan j) (s.mems k high ∙ sym shows) s.run)
          (put_same H d (some (ScanReturn d ds)))))
          (well_formed_last (λ d. false) (scanned k d ds acts) (after (ScanReturn d ds))
          (well_formed_scanned k d ds (λ d. false) acts s.well_formed) tt)
          (book_ordered page spans-o refl) (book_answered page spans-o refl) (book_spans page spans-o refl)
          (book_told page spans-o refl (ScanReturn d ds) refl (ap (returned d ds) j) (s.asked d c m q))
          (outs.0 ∙ keep_place_in time (k, Scan d ds) (λ x. is_internal x.1) refl acts s.ascending
          ∙ book_inside page spans-o refl (Scan d ds) (ap (serialized d ds) j))
          (outs.1 ∙ ap (λ l. l ++ (after (ScanReturn d ds) ∷ []))
          (keep_place_out time (k, Scan d ds) (λ x. not (is_internal x.1)) refl acts ∙ s.outside))

    -- a word w, written in register k by update c
    module _ (c : Call) (q : call_of t d ≡ some c) (k w : ℕ) (j : c.job ≡ update k w) (v : Value) (stores : word v ≡ w) where
      abbrev entry : Operation
      entry = record { process = d; job = c.job; words = []; called = c.number; number = now; answered = now }

      abbrev written : List Timed
      written = acts ++ (after (Update d k w) ∷ [])

      wrote_so_far : SoFar (advanced t (set t.words (k - 1) v) d none) (place number entry b) (h ++ (after (UpdateReturn d) ∷ []))
          (written ++ (after (UpdateReturn d) ∷ []))
      wrote_so_far =
          let l = s.opened d c m q in
          let spans-o : (c.number < now) × (now ≤ now) = (omega (arith, l), omega arith) in
          let outs = last_outside written (UpdateReturn d) refl in
          events (set t.words (k - 1) v) none (λ x r. absurd (none-ne-some x r))
          (λ x. mem-append_left (after (UpdateReturn d) ∷ []))
          (last_more written (last_more acts none_more (Update d k w) refl) (UpdateReturn d) refl)
          (subst (RunAt from (written ++ (after (UpdateReturn d) ∷ [])))
          (ap₂ {C = Memory} (λ x y. record { Mem = x; H = y })
          (ap (set (map word t.words) (k - 1)) (sym stores) ∙ sym (map_set word t.words (k - 1) v))
          (put_twice H d none (some (UpdateReturn d)))
          ∙ leads_to (set t.words (k - 1) v) none (put H d none) refl)
          (run_last written (after (UpdateReturn d)) from _
          (run_last acts (after (Update d k w)) from here s.run (asks c q (update k w) j))
          (put_same H d (some (UpdateReturn d)))))
          (well_formed_last (λ d. false) written (after (UpdateReturn d))
          (well_formed_last (λ d. false) acts (after (Update d k w)) s.well_formed tt) tt)
          (book_ordered entry spans-o refl) (book_answered entry spans-o refl) (book_spans entry spans-o refl)
          (book_told entry spans-o refl (UpdateReturn d) refl (ap (returned d []) j) (s.asked d c m q))
          (outs.0 ∙ keep_append (λ x. is_internal x.1) acts (after (Update d k w) ∷ [])
          ∙ sym (place_last time (after (Update d k w)) (internals acts)
          (all_keep (λ x. x.0 ≤ now) (λ x. is_internal x.1) acts none_more.past))
          ∙ book_inside entry spans-o refl (Update d k w) (ap (serialized d []) j))
          (outs.1 ∙ ap (λ l. l ++ (after (UpdateReturn d) ∷ []))
          (keep_append (λ x. not (is_internal x.1)) acts (after (Update d k w) ∷ []) ∙ append-nil (interface acts) ∙ s.outside))

-- ---- the whole list

module _ {Value : Type 0} (n : ℕ) (most : Job → ℕ) (stored : ℕ → ℕ → Value) (word : Value → ℕ) (says : (e w : ℕ) → word (stored e w) ≡ w)
    (start : Tally Value) where
  -- what an item adds to the book, and to the calls and answers
  abbrev Adds : Tally Value → List Operation → List Timed → Tally Value → List Operation → List Timed → Type 0
  Adds t b h t' os l = (acts : List Timed) × SoFar n word start t' (places number os b) (h ++ l) acts

  module _ (t : Tally Value) (b : List Operation) (h acts : List Timed) (s : SoFar n word start t b h acts) where
    abbrev next : ℕ
    next = suc t.event

    nothing : Adds t b h t [] []
    nothing = (acts, subst (λ l. SoFar n word start t b l acts) (sym (append-nil h)) s)

    module _ (d : ℕ) (m : Among n d) where
      read_adds : (c : Option Call) → call_of t d ≡ c → Waiting c → Adds t b h (advanced t t.words d (Option.map gains c)) [] []
      read_adds none q w = absurd w
      read_adds (some c) q w = (
        acts,
        subst (λ l. SoFar n word start (advanced t t.words d (some (gains c))) b l acts) (sym (append-nil h))
            (went_so_far n word start s d m c q),
      )

      page_adds : (k turns : ℕ) (vs : List Value) (c : Option Call) → call_of t d ≡ c → PageFits most t k turns vs c →
          Adds t b h (advanced t t.words d none) (operations d (map word vs) k next c) ((next, ScanReturn d (map word vs)) ∷ [])
      page_adds k turns vs none q f = absurd f
      page_adds k turns vs (some c) q f =
          (_, paged_so_far n word start s d m c q f.0 k (map word vs) (ap (map word) f.2) f.3 (let l = f.4 in omega (arith, l)))

      written_adds : (turns : ℕ) (c : Option Call) → call_of t d ≡ c → WrittenFits most turns c →
          Adds t b h (advanced t (puts_if (stored next) t.words c) d none) (operations d [] next next c)
          ((next, UpdateReturn d) ∷ [])
      written_adds turns none q f = absurd f
      written_adds turns (some c) q f = go c.job refl f.0
        where
          go : (j : Job) → c.job ≡ j → IsUpdate j →
              Adds t b h (advanced t (puts (stored next) t.words c.job) d none)
              (operations d [] next next (some c)) ((next, UpdateReturn d) ∷ [])
          go scan e u = absurd u
          go (update k w) e u =
              subst (λ ws. Adds t b h (advanced t ws d none) (operations d [] next next (some c)) ((next, UpdateReturn d) ∷ []))
              (ap (puts (stored next) t.words) (sym e)) (
                written n word start s d m c q k w e (stored next w) (says next w) ++ ((next, UpdateReturn d) ∷ []),
                wrote_so_far n word start s d m c q k w e (stored next w) (says next w),
              )

    item_adds : (x : Seen) (vs : List Value) (a : Answer) → Tells n most stored t x vs a →
        Adds t b h (tallied stored t x a) (finished_by word t x vs a) (said_by word next x vs a)
    item_adds x vs (Refused k) f = nothing
    item_adds x vs Opened f = nothing
    item_adds opening vs Called f = absurd f
    item_adds (call d j) vs Called f = (_, called_so_far n word start s d f.0 j f.1)
    item_adds (turn d) vs Called f = absurd f
    item_adds opening vs Read f = absurd f
    item_adds (call d j) vs Read f = absurd f
    item_adds (turn d) vs Read f = read_adds d f.0 (call_of t d) refl f.1
    item_adds opening vs (Page lender k turns) f = absurd f
    item_adds (call d j) vs (Page lender k turns) f = absurd f
    item_adds (turn d) vs (Page lender k turns) f = page_adds d f.0 k turns vs (call_of t d) refl f.1
    item_adds opening vs (Written turns) f = absurd f
    item_adds (call d j) vs (Written turns) f = absurd f
    item_adds (turn d) vs (Written turns) f = written_adds d f.0 turns (call_of t d) refl f.1

  list_adds : (hs : List (Heard Value)) (t : Tally Value) (b : List Operation) (h acts : List Timed) → SoFar n word start t b h acts →
      Follows n most stored t hs → Adds t b h (tally_after stored t hs) (finished stored word t hs) (said stored word t hs)
  list_adds [] t b h acts s f = nothing t b h acts s
  list_adds (x ∷ hs) t b h acts s f =
      let os = finished_by word t x.seen x.shown x.answer in
      let l = said_by word (suc t.event) x.seen x.shown x.answer in
      let t' = tallied stored t x.seen x.answer in
      let first = item_adds t b h acts s x.seen x.shown x.answer f.0 in
      let rest = list_adds hs t' (places number os b) (h ++ l) first.0 first.1 f.1 in (
        rest.0,
        subst (λ z. SoFar n word start (tally_after stored t' hs) z.0 z.1 rest.0)
            (ap₂ {C = List Operation × List Timed} (λ y z. (y, z)) (sym (places_append number os (finished stored word t' hs) b))
            (append_assoc h l (said stored word t' hs))) rest.1,
      )

-- ---- the claims

shows_reads : (rows : List ℕ) (b : List Operation) → AllShow rows (map placed_at b) → ReadsTrue rows b
shows_reads rows [] h = tt
shows_reads rows (o ∷ b) h = go o.job h (λ r. shows_reads r b)
  where
    go : (j : Job) → AllShow rows ((o.number, serialized o.process o.words j) ∷ map placed_at b) →
        ((r : List ℕ) → AllShow r (map placed_at b) → ReadsTrue r b) → Shows rows o.words j × ReadsTrue (rows_after rows j) b
    go scan h f = (sym h.0, f rows h.1)
    go (update k w) h f = (tt, f (set rows (k - 1) w) h.1)

module _ {Value : Type 0} (n m : ℕ) (z : Value) (word : Value → ℕ) where
  no_call : (d : ℕ) (c : Call) → Among n d → call_of (started n m z) d ≡ some c → ⊥
  no_call d c k q = none-ne-some c (sym (get_or-replicate n (d - 1) none none (omega (arith, k))) ∙ q)

  started_so_far : SoFar n word (started n m z) (started n m z) [] [] []
  started_so_far =
      record {
        sane = record { calls = length-replicate n none; instants = refl; now = refl };
        ordered = tt;
        answered = tt;
        spans = tt;
        inside = refl;
        outside = refl;
        ascending = tt;
        past = tt;
        processes = tt;
        run = refl;
        well_formed = tt;
        mems = λ e l. ap (λ k. map word (instant (started n m z) k)) (let q : 0 ≡ e = omega (arith, l) in q);
        still = λ d c k q. absurd (no_call d c k q);
        opened = λ d c k q. absurd (no_call d c k q);
        asked = λ d c k q. absurd (no_call d c k q);
        told = tt;
      }

  -- of what is heard from the start on and follows the tally
  pub follows_booked : (most : Job → ℕ) (stored : ℕ → ℕ → Value) → ((e w : ℕ) → word (stored e w) ≡ w) → (hs : List (Heard Value)) →
      Follows n most stored (started n m z) hs →
      IsBooked n word (started n m z) (tally_after stored (started n m z) hs) (finished stored word (started n m z) hs)
      (said stored word (started n m z) hs)
  follows_booked most stored says hs f =
      let t = started n m z in
      let os = finished stored word t hs in
      let all = list_adds n most stored word says t hs t [] [] [] started_so_far f in
      let s = all.1 in
      record {
        whole = ∣ Permᴰ.trans (places_perm number os []) (Permᴰ.append-nil os) ∣₁;
        told = s.told;
        ordered = s.ordered;
        first = pairs_imp (λ o. (o.called < o.number) × (o.number ≤ o.answered)) InOrder NotBefore
            (λ a b p q r l. omega (arith, p.0, q.1, r.0, l)) (book os) s.spans s.ordered;
        reads = shows_reads (map word t.words) (book os) (subst (AllShow (map word t.words)) s.inside
            (run_shows all.0 (memory_of word t) _ s.run));
        serial = record {
          actions = all.0;
          inside = s.inside;
          outside = s.outside;
          ascending = s.ascending;
          processes = s.processes;
          run = s.run;
          well_formed = s.well_formed;
        };
      }

-- of every method for which demand 3 holds
pub holds_booked : (M : Method) (word : M.Value → ℕ) → ((e w : ℕ) → word (M.stored e w) ≡ w) → (s : M.State) (m : ℕ) (z : M.Value)
    (xs : List M.Item) → Holds M s (started M.processes m z) xs → let hs = heard M s xs in let t = started M.processes m z in
    IsBooked M.processes word t (tally_after M.stored t hs) (finished M.stored word t hs) (said M.stored word t hs)
holds_booked M word says s m z xs h =
    follows_booked M.processes m z word M.most M.stored says (heard M s xs) (holds_follows M s (started M.processes m z) xs h)

-- "Initially, each H_i = ⊥ and Mem_i = d_init"
pub started_memory : {Value : Type 0} (n m : ℕ) (z : Value) (word : Value → ℕ) →
    memory_of word (started n m z) ≡ record { Mem = replicate m (word z); H = λ i. none }
started_memory n m z word = ap₂ {C = Memory} (λ x y. record { Mem = x; H = y }) (map_replicate word m z) (fun_ext idle)
  where
    none_at : (k i : ℕ) → ◌≡◌ {A = Option Call} (get_or (replicate k none) i none) none
    none_at zero i = refl
    none_at (suc k) zero = refl
    none_at (suc k) (suc i) = none_at k i

    idle : (i : ℕ) → interface_of (replicate n none) i ≡ none
    idle zero = refl
    idle (suc i) = ap (pending (suc i)) (none_at n i)
