-- Figure 3 on a day: from an accepted call on, the accepted turns of its process are the figure's procedure, over the registers
-- as they stand at each turn, with anything else in between.
use Prim.Native.Nat.{ℕ, zero, suc, ◌+◌, ◌*◌, ◌-◌, ◌≤◌, ◌<◌}
use native.Mathlib.Omega.{arith}
use native.Mathlib.Decide.{ℕ_discrete}
use mathlib.Core.Path.{◌≡◌, refl, sym, ap, ◌∙◌, subst}
use mathlib.Core.Logic.{by_cases, ◌≢◌}
use mathlib.Core.Bool.{Bool, true, false, cond, true≢false}
use mathlib.Core.List.{List, [], ◌∷◌, map}
use mathlib.Core.Option.{Option, none, some, none-ne-some, some-injective}
use lib.ListN.{length, get_or, set, take, replicate, length-map, length-set, length-replicate, get_or-replicate}
use lib.Seq.{length-take-le, get_or-set_same, get_or-set_other}
use lib.Dec.{eqb, ltb}
use borrow.Author.Tests.{eqb-true, eqb-false}
use Rattle.snapshot.specs.declared.Value.{Value}
use Rattle.snapshot.specs.Values.{zero_value, stored}
use Rattle.snapshot.specs.Lists.{over, each, every_from}
use Rattle.snapshot.specs.Tally.{Job, scan, update}
use Rattle.snapshot.specs.Marks.{lends, Found}
use Rattle.snapshot.specs.Demand.{Result, Among}
use Rattle.snapshot.specs.Days as Days
use Rattle.snapshot.specs.Days.{Machine, State, Item, open_for, update_call, scan_call, turn_of, page_lent, process_of, refusal, accept}
use Rattle.snapshot.specs.Days.{advance, called_by, turn_by, read_from, stepped, call_causes, turn_causes, opening_causes}
use Rattle.snapshot.specs.Refusals.{first_cause}
use Rattle.snapshot.specs.declared.Refusal.{Refusal}
use Rattle.snapshot.specs.declared.Answer.TheVariants.{Written}
use Rattle.snapshot.specs.Verdict.{Verdict, verdict}
use Rattle.snapshot.proofs.Lists.{length_over, get_d_over, get_d_map_below}
use Rattle.snapshot.proofs.DoubleCollect.{Ends, nobody, lender, goes_on, verdict_ends}
use Rattle.snapshot.proofs.Stepped.{refusal_changes_nothing, acceptance_does}
use Rattle.snapshot.proofs.Admitted.{admitted_call, admitted_turn, admitted_opening}
use Rattle.unbounded.specs.declared.Register.{Register}
use Rattle.unbounded.specs.declared.Process.{Process}
use Rattle.unbounded.specs.declared.Task.{Task}
use Rattle.unbounded.specs.declared.Task.TheVariants.{Idle, Scan, Update, Ready}
use Rattle.unbounded.specs.Registers.{no_register, zero_register, value, trimmed, Order, ascending, collected_at}
use Rattle.unbounded.specs.Registers.{differs, laid, read_into, cleared}
use Rattle.unbounded.specs.Processes.{no_process, zero_process, is_idle, task_of, emptied, begin}
use Rattle.unbounded.specs.Turns.{position, place_at, reads, first_after, second_after, end_after, decision}
use Rattle.unbounded.specs.Turns.{found, after_read, found_by, scan_turn, update_turn, written, turned_with, turned}
use Rattle.unbounded.specs.Days.{figure3, opened_for}
use Rattle.unbounded.specs.Figure3.{Array, assigned, collect, search, while_true, scan_for, initial}
use Rattle.unbounded.specs.Figure3.{Variables, Procedure, read, write, return, spent, scan_procedure, update_procedure}
use Rattle.unbounded.specs.Figure3.{Standing, After, Wrote, state_after, is_turn, own_of, Follows, Performs, CallsPerform}
use Rattle.unbounded.proofs.Places.{page_of_long}
use Rattle.unbounded.proofs.Reading.{position_low, place_below, Sized, sized_emptied, sized_read}
use Rattle.unbounded.proofs.Scans.{Permutes}
use Rattle.unbounded.proofs.Demand3.{ascending_permutes}
use Rattle.unbounded.proofs.Figure3.{Does, turns_are_figure_3}

-- ---- arrays keep their sizes

module _ (n : ℕ) (eight : n ≤ 8) where
  -- the registers of a collect have eight values of view
  abbrev Views : List Register → Type 0
  Views rs = (i : ℕ) → i < n → length (get_or rs i no_register).view ≡ 8

  -- the arrays of a record have their eight places, and its registers' views too
  record Whole (p : Process) : Type 0 where
    sized : Sized p
    register : length p.register.view ≡ 8
    view : length p.view ≡ 8
    views : Views p.second

  length_laid : (r old : Register) → length r.view ≡ 8 → length old.view ≡ 8 → length (laid n r old).view ≡ 8
  unfolding laid
  length_laid r old l m = length_over n r.view old.view (length-take-le n r.view (omega arith)) (omega arith) ∙ m

  views_read : (r : Register) (i : ℕ) (rs : List Register) → i < n → 8 ≤ length rs → length r.view ≡ 8 → Views rs →
      Views (read_into n r i rs)
  unfolding read_into
  views_read r i rs l m full h j b =
      let new = laid n r (get_or rs i no_register) in
      by_cases (ℕ_discrete j i)
      (λ q.
      ap (λ k. length (get_or (set rs i new) k no_register).view) q
      ∙ ap (λ u. length u.view) (get_or-set_same rs i new no_register (omega arith))
      ∙ length_laid r (get_or rs i no_register) full (h i l))
      (λ q. ap (λ u. length u.view) (get_or-set_other rs i j new no_register q) ∙ h j b)

  views_cleared : (rs : List Register) → 8 ≤ length rs → Views rs → Views (cleared n rs)
  unfolding cleared
  views_cleared rs l h j b =
      let zeros = map (laid n zero_register) rs in
      let size = length-map rs (laid n zero_register) in
      let long : length (take n zeros) ≡ n = length-take-le n zeros (omega arith) in
      ap (λ u. length u.view)
      (get_d_over n zeros rs j no_register long b ∙ get_d_map_below (laid n zero_register) rs j no_register no_register (omega arith))
      ∙ length_laid zero_register (get_or rs j no_register) (length-replicate {A = ℕ} 8 0) (h j b)

  whole_emptied : (r : Register) (k : Task) (p : Process) → length r.view ≡ 8 → Whole p → Whole (emptied n r k p)
  whole_emptied r k p full W =
      let v = W.view in
      record {
        sized = sized_emptied n r k p eight W.sized;
        register = full;
        view = length_over n (replicate 8 zero_value) p.view (length-take-le n (replicate 8 zero_value) (omega arith)) (omega arith) ∙ v;
        views = views_cleared p.second W.sized.seconds W.views;
      }

  whole_begin : (k : Task) (p : Process) → Whole p → Whole (begin n k p)
  unfolding begin
  whole_begin k p W = whole_emptied p.register k p W.register W

  -- a read at position pos of register r
  module _ (o : Order) (P : Permutes n o) (now pos : ℕ) (low : pos < 2 * n) (r : Register) (full : length r.view ≡ 8)
      (p : Process) (W : Whole p) where
    views_second : Views (second_after n pos r p.second)
    unfolding second_after
    views_second = go (ltb pos n)
      where
        go : (b : Bool) → Views (cond b p.second (read_into n r (place_at n pos) p.second))
        go true = W.views
        go false = views_read r (place_at n pos) p.second (place_below n pos low) W.sized.seconds full W.views

    whole_read : (k : Task) (v : List Value) → length v ≡ 8 → Whole (after_read o n now pos r p k v)
    unfolding after_read
    whole_read k v l =
        record { sized = sized_read o n now pos r p k v W.sized; register = W.register; view = l; views = views_second }

    -- a page that is found has n values
    abbrev Full : Option (Found Value) → Type 0
    Full none = Unit {0}
    Full (some f) = length f.words ≡ n

    found_full : Full (found_by o n now pos r p)
    unfolding found_by decision
    found_full = go (eqb (pos + 1) (2 * n))
      where
        a : List Register
        a = first_after n pos r p.first

        b : List Register
        b = second_after n pos r p.second

        by : {v : Verdict} → Ends n (differs o a b) (lends (differs o a b) p.moved) v →
            Full (found o n b (end_after n pos now p.first_end) (some v))
        by (nobody h) = page_of_long o n b
        by (lender j l h first) =
            let q = views_second (o.place j) (P.place_within j l) in length-take-le n (collected_at o b j).view (omega arith)
        by (goes_on j l d h) = tt

        go : (c : Bool) → Full (found o n b (end_after n pos now p.first_end)
            (cond c (some (verdict n (differs o a b) (lends (differs o a b) p.moved))) none))
        go true = by (verdict_ends n (differs o a b) (lends (differs o a b) p.moved))
        go false = tt

    whole_found : (page : List ℕ) (w t : ℕ) → position n t ≡ pos → (f : Option (Found Value)) → Full f →
        Whole (scan_turn o n now r page p t f).state × Whole (update_turn o n now r page p w t f).state
    whole_found page w t q none l =
        let here : (k : Task) → Whole (after_read o n now (position n t) r p k p.view) =
        λ k. subst (λ i. Whole (after_read o n now i r p k p.view)) (sym q) (whole_read k p.view W.view) in
        (here (Scan (t + 1)), here (Update w (t + 1)))
    whole_found page w t q (some f) l = (
      whole_begin Idle p W,
      (let v = W.view in
          subst (λ i. Whole (after_read o n now i r p (Ready w f.instant (t + 1)) (over n f.words p.view))) (sym q)
          (whole_read (Ready w f.instant (t + 1)) (over n f.words p.view)
          (length_over n f.words p.view (length-take-le n f.words (omega arith)) (omega arith) ∙ v))),
    )

  -- a turn, whose read, if it reads, returns a register with its eight values of view
  module _ (z : 0 < n) (o : Order) (P : Permutes n o) (now : ℕ) (r : Register) (page : List ℕ) (p : Process) (W : Whole p) where
    length_written : (w at : ℕ) → length (written n now w at p).view ≡ 8
    unfolding written
    length_written w at =
        length_laid (record { value = stored now w; seq = p.register.seq + 1; view = p.view; at = at }) p.register W.view
        W.register

    whole_turned : ((j : ℕ) → reads o n p.task ≡ some j → length r.view ≡ 8) → Whole (turned o n now r page p).state
    unfolding turned
    whole_turned = go p.task
      where
        here : (t : ℕ) (full : length r.view ≡ 8) (w : ℕ) →
            let f = found_by o n now (position n t) r p in
            Whole (scan_turn o n now r page p t f).state × Whole (update_turn o n now r page p w t f).state
        here t full w =
            let low = position_low n t z in
            whole_found o P now (position n t) low r full p W page w t refl (found_by o n now (position n t) r p)
            (found_full o P now (position n t) low r full p W)

        go : (k : Task) → ((j : ℕ) → reads o n k ≡ some j → length r.view ≡ 8) → Whole (turned_with o n now r page p k).state
        go Idle h = W
        go (Scan t) h = (here t (h (o.register (place_at n (position n t))) refl) 0).0
        go (Update w t) h = (here t (h (o.register (place_at n (position n t))) refl) w).1
        go (Ready w at t) h =
            whole_emptied (written n now w at p) Idle p (length_written w at) W

reads_within : (o : Order) (n : ℕ) → Permutes n o → 0 < n → (k : Task) (j : ℕ) → reads o n k ≡ some j → j < n
reads_within o n P z Idle j q = absurd (none-ne-some j q)
reads_within o n P z (Scan t) j q = subst (λ k. k < n) (some-injective (o.register (place_at n (position n t))) j q)
    (P.register_within (place_at n (position n t)) (place_below n (position n t) (position_low n t z)))
reads_within o n P z (Update w t) j q = subst (λ k. k < n) (some-injective (o.register (place_at n (position n t))) j q)
    (P.register_within (place_at n (position n t)) (place_below n (position n t) (position_low n t z)))
reads_within o n P z (Ready w at t) j q = absurd (none-ne-some j q)

-- a process that reads or writes next is not idle
reads_busy : (o : Order) (n : ℕ) (k : Task) (j : ℕ) → reads o n k ≡ some j → is_idle k ≡ false
reads_busy o n Idle j q = absurd (none-ne-some j q)
reads_busy o n (Scan t) j q = refl
reads_busy o n (Update w t) j q = refl
reads_busy o n (Ready w at t) j q = refl

writes_busy : (o : Order) (n now : ℕ) (r : Register) (page : List ℕ) (p : Process) (t : ℕ) →
    (turned o n now r page p).answer ≡ Written t → is_idle p.task ≡ false
unfolding turned
writes_busy o n now r page p t = go p.task
  where
    go : (k : Task) → (turned_with o n now r page p k).answer ≡ Written t → is_idle k ≡ false
    go Idle q = let no : ◌≡◌ {A = ℕ} 0 1 = cc in absurd (omega arith)
    go (Scan u) q = refl
    go (Update w u) q = refl
    go (Ready w at u) q = refl

-- what holds of the record after a turn is carried over
after_map : (o : Order) (n : ℕ) (N N' : Process → Type 0) (t : ℕ) (p : Process) (page : List ℕ) (x : Result Process)
    (q : Procedure) → (N x.state → N' x.state) → After o n N t p page x q → After o n N' t p page x q
after_map o n N N' t p page x (read v j next) f h = (h.0, h.1, h.2, f h.3)
after_map o n N N' t p page x (write v w) f h = (h.0, h.1, h.2, f h.3)
after_map o n N N' t p page x (return from at values) f h = h
after_map o n N N' t p page x spent f h = f h

-- an item is an accepted turn of process d, or it is not
by_turn : {X Y : Type 0} (d : ℕ) (x : Item) (f : Option Refusal) →
    ((page : List ℕ) → x ≡ turn_of d page → f ≡ none → X) → (is_turn d x f ≡ false → Y) → cond (is_turn d x f) X Y
by_turn d (open_for k) f own other = other refl
by_turn d (update_call c w) f own other = other refl
by_turn d (scan_call c) f own other = other refl
by_turn d (turn_of c page) (some k) own other = other refl
by_turn {X} {Y} d (turn_of c page) none own other = go (eqb c d) refl
  where
    go : (b : Bool) → eqb c d ≡ b → cond b X Y
    go true q = own page (ap (λ k. turn_of k page) (eqb-true c d q)) refl
    go false q = other q

-- ---- enough rounds

-- the procedure is not spent by m more accesses, whatever its reads return
Lasts : Procedure → ℕ → Type 0
Lasts (read v j next) zero = Unit {0}
Lasts (read v j next) (suc m) = (now : ℕ) (r : Register) → Lasts (next now r) m
Lasts (write v w) m = Unit {0}
Lasts (return from at values) m = Unit {0}
Lasts spent m = ⊥

lasts_fewer : (q : Procedure) (k m : ℕ) → m ≤ k → Lasts q k → Lasts q m
unfolding Lasts
lasts_fewer (read v j next) k zero l h = tt
lasts_fewer (read v j next) zero (suc m) l h = absurd (omega arith)
lasts_fewer (read v j next) (suc k) (suc m) l h = λ now r. lasts_fewer (next now r) k m (omega arith) (h now r)
lasts_fewer (write v w) k m l h = tt
lasts_fewer (return from at values) k m l h = tt
lasts_fewer spent k m l h = h

either_lasts : (b : Bool) (p q : Procedure) (m : ℕ) → Lasts p m → Lasts q m → Lasts (cond b p q) m
either_lasts true p q m h g = h
either_lasts false p q m h g = g

collect_lasts : (o : Order) (k p : ℕ) (v : Array Register → Variables) (last : ℕ) (x : Array Register)
    (next : ℕ → Array Register → Procedure) (m : ℕ) → ((last : ℕ) (x : Array Register) → Lasts (next last x) m) →
    Lasts (collect o k p v last x next) m
unfolding Lasts collect
collect_lasts o zero p v last x next m h = h last x
collect_lasts o (suc k) p v last x next zero h = tt
collect_lasts o (suc k) p v last x next (suc m) h = λ now r.
    collect_lasts o k (suc p) v now (assigned x (o.register p) r) next m
    (λ last x. lasts_fewer (next last x) (suc m) m (omega arith) (h last x))

module _ (a b : Array Register) (again : Array ℕ → Procedure) (finish : Array ℕ → (lender at : ℕ) → List Value → Procedure) (m : ℕ)
    (h : (moved : Array ℕ) → Lasts (again moved) m)
    (g : (moved : Array ℕ) (from at : ℕ) (values : List Value) → Lasts (finish moved from at values) m) where
  search_lasts : (k j : ℕ) (moved : Array ℕ) → Lasts (search k j a b moved again finish) m
  unfolding search
  search_lasts zero j moved = h moved
  search_lasts (suc k) j moved =
      let marked = search k (suc j) a b (assigned moved j (moved j + 1)) again finish in
      let lent = finish moved (suc j) (b j).at (b j).view in
      either_lasts (eqb (a j).seq (b j).seq) (search k (suc j) a b moved again finish) (cond (eqb (moved j) 1) lent marked) m
      (search_lasts k (suc j) moved)
      (either_lasts (eqb (moved j) 1) lent marked m (g moved (suc j) (b j).at (b j).view)
      (search_lasts k (suc j) (assigned moved j (moved j + 1))))

-- a round takes an access at least
module _ (o : Order) (F : Variables → (lender at : ℕ) → List Value → Procedure)
    (g : (v : Variables) (from at : ℕ) (values : List Value) (m : ℕ) → Lasts (F v from at values) m) where
  while_lasts : (n k : ℕ) (moved : Array ℕ) (a b : Array Register) (e : ℕ) → 0 < n → Lasts (while_true o n F (suc k) moved a b e) k
  unfolding Lasts collect while_true
  while_lasts zero k moved a b e z = absurd (omega arith)
  while_lasts (suc n) zero moved a b e z = tt
  while_lasts (suc n) (suc k) moved a b e z = λ now r.
      collect_lasts o n 1 (λ a. record { moved = moved; a = a; b = b; ended = e }) now (assigned a (o.register 0) r)
      (λ e a. collect o (suc n) 0 (λ b. record { moved = moved; a = a; b = b; ended = e }) e b (λ last b. closes a b e)) k
      (λ e a.
      collect_lasts o (suc n) 0 (λ b. record { moved = moved; a = a; b = b; ended = e }) e b (λ last b. closes a b e) k
      (λ last b.
      either_lasts (every_from (λ j. eqb (a j).seq (b j).seq) (suc n) 0)
      (F (record { moved = moved; a = a; b = b; ended = e }) 0 e (each (suc n) (λ j. value (b j)))) (searches a b e) k
      (g (record { moved = moved; a = a; b = b; ended = e }) 0 e (each (suc n) (λ j. value (b j))) k)
      (search_lasts a b (λ moved. while_true o (suc n) F (suc k) moved a b e)
      (λ moved. F (record { moved = moved; a = a; b = b; ended = e })) k (λ moved. while_lasts (suc n) k moved a b e z)
      (λ moved from at values. g (record { moved = moved; a = a; b = b; ended = e }) from at values k) (suc n) 0 moved)))
    where
      searches : (a b : Array Register) (e : ℕ) → Procedure
      searches a b e =
          search (suc n) 0 a b moved (λ moved. while_true o (suc n) F (suc k) moved a b e)
          (λ moved. F (record { moved = moved; a = a; b = b; ended = e }))

      closes : (a b : Array Register) (e : ℕ) → Procedure
      closes a b e =
          cond (every_from (λ j. eqb (a j).seq (b j).seq) (suc n) 0)
          (F (record { moved = moved; a = a; b = b; ended = e }) 0 e (each (suc n) (λ j. value (b j)))) (searches a b e)

  for_lasts : (n k m : ℕ) → 0 < n → m < k → Lasts (scan_for o n F k) m
  unfolding scan_for
  for_lasts n zero m z l = absurd (omega arith)
  for_lasts n (suc k) m z l =
      let none : Array ℕ = λ j. 0 in
      let blank : Array Register = λ j. initial n in
      lasts_fewer (while_true o n F (suc k) none blank blank 0) k m (omega arith) (while_lasts n k none blank blank 0 z)

scan_lasts : (o : Order) (n k m : ℕ) → 0 < n → m < k → Lasts (scan_procedure o n k) m
unfolding Lasts
scan_lasts o n k m z l = for_lasts o (λ v. return) (λ v from at values m. tt) n k m z l

update_lasts : (o : Order) (n k w s m : ℕ) → 0 < n → m < k → Lasts (update_procedure o n k w s) m
unfolding Lasts
update_lasts o n k w s m z l =
    for_lasts o (λ v from at values. write v (λ now. record { value = stored now w; seq = s + 1; view = values; at = at }))
    (λ v from at values m. tt)
    n k m z l

-- ---- a day

module _ (n : ℕ) (z : 0 < n) (eight : n ≤ 8) (o : Order) (P : Permutes n o) where
  abbrev M : Machine
  M = figure3 o

  -- process d's record
  abbrev owner : State Process → ℕ → Process
  owner s d = process_of M s d

  -- a day of n processes whose records have their sizes
  record Lent (s : State Process) : Type 0 where
    count : s.day.count ≡ n
    size : length s.table ≡ n
    whole : (i : ℕ) → i < n → Whole n eight (get_or s.table i no_process)

  -- an accepted item of process c leaves it the record p
  module _ (s : State Process) (L : Lent s) (c : ℕ) (p : Process) (m : Among n c) where
    own_advanced : owner (advance M s c p) c ≡ p
    unfolding advance
    own_advanced = get_or-set_same s.table (c - 1) p no_process (omega (arith, L.size))

    other_advanced : (d : ℕ) → Among n d → c ≢ d → owner (advance M s c p) d ≡ owner s d
    unfolding advance
    other_advanced d k h = get_or-set_other s.table (c - 1) (d - 1) p no_process (λ q. h (omega arith))

    lent_advanced : Whole n eight p → Lent (advance M s c p)
    unfolding advance
    lent_advanced W =
        record {
          count = L.count;
          size = length-set s.table (c - 1) p ∙ L.size;
          whole = λ i l. by_cases (ℕ_discrete i (c - 1))
              (λ q. subst (Whole n eight) (sym (ap (λ k. get_or (set s.table (c - 1) p) k no_process) q ∙ own_advanced)) W)
              (λ q. subst (Whole n eight) (sym (get_or-set_other s.table (c - 1) i p no_process q)) (L.whole i l));
        }

  -- ---- one item

  module _ (s : State Process) (L : Lent s) where
    call_idle : (c : ℕ) (j : Job) → first_cause (call_causes M s c j) ≡ none → Among n c × (is_idle (owner s c).task ≡ true)
    call_idle c j q =
        let a = admitted_call M s c j q in
        (subst (λ k. Among k c) L.count a.suited.among, a.idle)

    turn_busy : (c : ℕ) (page : List ℕ) → first_cause (turn_causes M s c page) ≡ none → Among n c
    turn_busy c page q = subst (λ k. Among k c) L.count (admitted_turn M s c page q).suited.among

    never_opens : (k : ℕ) → first_cause (opening_causes M s k) ≡ none → ⊥
    never_opens k q = omega (arith, L.count, admitted_opening M s k q)

    -- process c's record after a call
    called_by_lem : (c : ℕ) (j : Job) → called_by M s c j ≡ advance M s c (begin n (task_of j 0) (owner s c))
    unfolding called_by
    called_by_lem c j = ap (λ k. advance M s c (begin k (task_of j 0) (owner s c))) L.count

    -- the register that process c's next turn reads, and that turn
    abbrev read_by : ℕ → Register
    read_by c = (read_from M s.table (reads o n (owner s c).task)).register

    abbrev turn_now : ℕ → List ℕ → Result Process
    turn_now c page = turned o n (s.day.event + 1) (read_by c) page (owner s c)

    turn_by_lem : (c : ℕ) (page : List ℕ) → turn_by M s c page ≡ turn_now c page
    unfolding turn_by
    turn_by_lem c page =
        ap (λ k. turned o k (s.day.event + 1) (read_from M s.table (reads o k (owner s c).task)).register page (owner s c))
        L.count

    whole_turn : (c : ℕ) (page : List ℕ) → Among n c → Whole n eight (turn_now c page).state
    whole_turn c page m =
        whole_turned n eight z o P (s.day.event + 1) (read_by c) page (owner s c) (L.whole (c - 1) (omega arith))
        (λ j q. ap (λ f. length (read_from M s.table f).register.view) q
        ∙ (L.whole j (reads_within o n P z (owner s c).task j q)).register)

    -- what an item does: nothing, a call of an idle process, or a turn
    data Moves : Item → Option Refusal → State Process → Type 0 where
      refused : {x : Item} (k : Refusal) → Moves x (some k) s
      updates : (c w : ℕ) → Among n c → is_idle (owner s c).task ≡ true →
          Moves (update_call c w) none (advance M s c (begin n (Update w 0) (owner s c)))
      scans : (c : ℕ) → Among n c → is_idle (owner s c).task ≡ true →
          Moves (scan_call c) none (advance M s c (begin n (Scan 0) (owner s c)))
      turns : (c : ℕ) (page : List ℕ) → Among n c →
          Moves (turn_of c page) none (advance M s c (turn_now c page).state)

    moves_accepted : (x : Item) → refusal M s x ≡ none → Moves x none (accept M s x).state
    unfolding refusal accept
    moves_accepted (open_for k) q = absurd (never_opens k q)
    moves_accepted (update_call c w) q =
        let i = call_idle c (update c w) q in
        subst (λ u. Moves (update_call c w) none u) (sym (called_by_lem c (update c w))) (updates c w i.0 i.1)
    moves_accepted (scan_call c) q =
        let i = call_idle c scan q in subst (λ u. Moves (scan_call c) none u) (sym (called_by_lem c scan)) (scans c i.0 i.1)
    moves_accepted (turn_of c page) q =
        subst (λ r. Moves (turn_of c page) none (advance M s c r.state)) (sym (turn_by_lem c page))
        (turns c page (turn_busy c page q))

    moves : (x : Item) → Moves x (refusal M s x) (stepped M s x).state
    moves x = go (refusal M s x) refl
      where
        go : (f : Option Refusal) → refusal M s x ≡ f → Moves x f (stepped M s x).state
        go none q = subst (λ r. Moves x none r.state) (sym (acceptance_does M s x q)) (moves_accepted x q)
        go (some k) q = subst (λ u. Moves x (some k) u) (sym (ap (λ r. r.state) (refusal_changes_nothing M s x k q))) (refused k)

    lent_moved : {x : Item} {f : Option Refusal} {u : State Process} → Moves x f u → Lent u
    lent_moved (refused k) = L
    lent_moved (updates c w m i) =
        lent_advanced s L c (begin n (Update w 0) (owner s c)) m
        (whole_begin n eight (Update w 0) (owner s c) (L.whole (c - 1) (omega arith)))
    lent_moved (scans c m i) =
        lent_advanced s L c (begin n (Scan 0) (owner s c)) m
        (whole_begin n eight (Scan 0) (owner s c) (L.whole (c - 1) (omega arith)))
    lent_moved (turns c page m) = lent_advanced s L c (turn_now c page).state m (whole_turn c page m)

    -- process d, with a task, keeps its record unless the item is its turn
    kept : (d : ℕ) → Among n d → is_idle (owner s d).task ≡ false → {x : Item} {f : Option Refusal} {u : State Process} →
        Moves x f u → is_turn d x f ≡ false → owner u d ≡ owner s d
    kept d m busy (refused k) h = refl
    kept d m busy (updates c w b i) h =
        other_advanced s L c (begin n (Update w 0) (owner s c)) b d m
        (λ q. true≢false (sym i ∙ ap (λ k. is_idle (owner s k).task) q ∙ busy))
    kept d m busy (scans c b i) h =
        other_advanced s L c (begin n (Scan 0) (owner s c)) b d m
        (λ q. true≢false (sym i ∙ ap (λ k. is_idle (owner s k).task) q ∙ busy))
    kept d m busy (turns c page b) h = other_advanced s L c (turn_now c page).state b d m (eqb-false c d h)

    -- its own turn
    own_turn : (d : ℕ) (page : List ℕ) → Among n d → refusal M s (turn_of d page) ≡ none →
        own_of o d (stepped M s (turn_of d page)) ≡ turn_now d page
    unfolding accept
    own_turn d page m q =
        let r = turn_now d page in
        ap (own_of o d) (acceptance_does M s (turn_of d page) q)
        ∙ ap (λ r. own_of o d (record { state = advance M s d r.state; answer = r.answer; page = r.page })) (turn_by_lem d page)
        ∙ ap (λ p. record { state = p; answer = r.answer; page = r.page }) (own_advanced s L d r.state m)

  -- ---- along a list of items

  module _ (d : ℕ) (m : Among n d) where
    -- an accepted turn at a read: R is what then holds of the rest
    own_reads : (s : State Process) (L : Lent s) (v : Variables) (j : ℕ) (next : ℕ → Register → Procedure) (t : ℕ)
        (page : List ℕ) → Does o n (read v j next) t (owner s d) → refusal M s (turn_of d page) ≡ none →
        let q = next (s.day.event + 1) (trimmed n (get_or s.table j no_process).register) in
        let r = stepped M s (turn_of d page) in
        (R : Type 0) → (Does o n q (suc t) (owner r.state d) → R) →
        After o n (λ p. R) (suc t) (owner s d) page (own_of o d r) q
    unfolding Does
    own_reads s L v j next t page D a R rest =
        let p = owner s d in
        let r = (get_or s.table j no_process).register in
        let q = next (s.day.event + 1) (trimmed n r) in
        let x = own_of o d (stepped M s (turn_of d page)) in
        let same : x ≡ turned o n (s.day.event + 1) r page p =
        own_turn s L d page m a
        ∙ ap (λ f. turned o n (s.day.event + 1) (read_from M s.table f).register page p) D.0.2 in
        after_map o n (Does o n q (suc t)) (λ p. R) (suc t) p page x q rest
        (subst (λ x. After o n (Does o n q (suc t)) (suc t) p page x q) (sym same)
        (D.1 (s.day.event + 1) r page (L.whole j (reads_within o n P z p.task j D.0.2)).register))

    does_stands : (q : Procedure) (t : ℕ) (p : Process) (k : ℕ) → Lasts q k → Does o n q t p → Standing o n q t p
    unfolding Does Lasts
    does_stands (read v j next) t p k l D = D.0
    does_stands (write v w) t p k l D = D.0
    does_stands (return from at values) t p k l D = tt
    does_stands spent t p k l D = l

    module _ (Rest : Procedure → ℕ → State Process → Type 0) (k : ℕ)
        (rest : (q : Procedure) (t : ℕ) (s : State Process) → Lent s → Lasts q k → Does o n q t (owner s d) → Rest q t s)
        (t : ℕ) (s : State Process) (L : Lent s) (x : Item) where
      abbrev next_state : Item → State Process
      next_state x = (stepped M s x).state

      next_lent : (x : Item) → Lent (next_state x)
      next_lent x = lent_moved s L (moves s L x)

      -- an item that is no turn of process d
      others_follow : (q : Procedure) → Lasts q (suc k) → Does o n q t (owner s d) → is_idle (owner s d).task ≡ false →
          is_turn d x (refusal M s x) ≡ false →
          (owner (next_state x) d ≡ owner s d) × Rest q t (next_state x)
      others_follow q l D busy h =
          let stay = kept s L d m busy (moves s L x) h in
          let lasts = lasts_fewer q (suc k) k (omega arith) l in
          (stay, rest q t (next_state x) (next_lent x) lasts (subst (λ p. Does o n q t p) (sym stay) D))

      follows : (q : Procedure) → Lasts q (suc k) → Does o n q t (owner s d) → Follows o n d Rest q t s x
      unfolding Does Lasts
      follows (read v j next) l D =
          let p = owner s d in
          let q = next (s.day.event + 1) (trimmed n (get_or s.table j no_process).register) in
          by_turn d x (refusal M s x)
          (λ page e a.
          subst (λ x. After o n (λ p. Rest q (suc t) (next_state x)) (suc t) p (page_lent x) (own_of o d (stepped M s x)) q) (sym e)
          (own_reads s L v j next t page D (subst (λ x. refusal M s x ≡ none) e a) (Rest q (suc t) (next_state (turn_of d page)))
          (rest q (suc t) (next_state (turn_of d page)) (next_lent (turn_of d page))
          (l (s.day.event + 1) (trimmed n (get_or s.table j no_process).register)))))
          (others_follow (read v j next) l D (reads_busy o n p.task j D.0.2))
      follows (write v w) l D =
          let p = owner s d in
          let wrote = D.1 (s.day.event + 1) (read_by s L d) in
          by_turn d x (refusal M s x)
          (λ page e a.
          subst (λ x. Wrote o n (w (s.day.event + 1)) (suc t) p (page_lent x) (own_of o d (stepped M s x))) (sym e)
          (subst (λ x. Wrote o n (w (s.day.event + 1)) (suc t) p page x) (sym (own_turn s L d page m (subst (λ x. refusal M s x ≡ none) e a)))
          (wrote page)))
          (others_follow (write v w) l D (writes_busy o n (s.day.event + 1) (read_by s L d) [] p (suc t) (wrote []).0))
      follows (return from at values) l D = tt
      follows spent l D = tt

    performs : (xs : List Item) (q : Procedure) (t : ℕ) (s : State Process) → Lent s → Lasts q (length xs) →
        Does o n q t (owner s d) → Performs o n d q t s xs
    unfolding Performs
    performs [] q t s L l D = does_stands q t (owner s d) 0 l D
    performs (x ∷ xs) q t s L l D = (
      does_stands q t (owner s d) (suc (length xs)) l D,
      follows (λ q t s. Performs o n d q t s xs) (length xs) (performs xs) t s L x q l D,
    )

  -- ---- from a call on

  module _ (s : State Process) (L : Lent s) (d k : ℕ) where
    after_call : (x : Item) (j : Job) → refusal M s x ≡ none → Among n d →
        (accept M s x).state ≡ called_by M s d j →
        owner (stepped M s x).state d ≡ begin n (task_of j 0) (owner s d)
    after_call x j a m q =
        ap (λ r. owner r.state d) (acceptance_does M s x a)
        ∙ ap (λ u. owner u d) (q ∙ called_by_lem s L d j)
        ∙ own_advanced s L d (begin n (task_of j 0) (owner s d)) m

    abbrev own_seq : ℕ
    own_seq = (owner s d).register.seq

    scan_performs : (items : List Item) → length items < k → refusal M s (scan_call d) ≡ none →
        Performs o n d (scan_procedure o n k) 0 (stepped M s (scan_call d)).state items
    unfolding refusal accept
    scan_performs items few a =
        let m = (call_idle s L d scan a).0 in
        performs d m items (scan_procedure o n k) 0 (stepped M s (scan_call d)).state
        (lent_moved s L (moves s L (scan_call d))) (scan_lasts o n k (length items) z few)
        (subst (λ p. Does o n (scan_procedure o n k) 0 p) (sym (after_call (scan_call d) scan a m refl))
        (turns_are_figure_3 n o P z eight (owner s d) (L.whole (d - 1) (omega arith)).sized k).0)

    update_performs : (items : List Item) → length items < k → (w : ℕ) → refusal M s (update_call d w) ≡ none →
        Performs o n d (update_procedure o n k w own_seq) 0 (stepped M s (update_call d w)).state items
    unfolding refusal accept
    update_performs items few w a =
        let m = (call_idle s L d (update d w) a).0 in
        performs d m items (update_procedure o n k w own_seq) 0 (stepped M s (update_call d w)).state
        (lent_moved s L (moves s L (update_call d w))) (update_lasts o n k w own_seq (length items) z few)
        (subst (λ p. Does o n (update_procedure o n k w own_seq) 0 p) (sym (after_call (update_call d w) (update d w) a m refl))
        ((turns_are_figure_3 n o P z eight (owner s d) (L.whole (d - 1) (omega arith)).sized k).1 w))

  -- ---- a day from its opening on

  lent_after : (xs : List Item) (s : State Process) → Lent s → Lent (state_after o s xs)
  lent_after [] s L = L
  lent_after (x ∷ xs) s L = lent_after xs (stepped M s x).state (lent_moved s L (moves s L x))

  whole_zero : Whole n eight zero_process
  whole_zero =
      record {
        sized = record { firsts = omega arith; seconds = omega arith; marks = omega arith };
        register = refl;
        view = refl;
        views = λ i l. ap (λ r. length r.view) (get_or-replicate 8 i zero_register no_register (omega arith));
      }

  lent_opened : Lent (opened_for n)
  unfolding Days.opened_for
  lent_opened =
      record {
        count = refl;
        size = length-replicate n zero_process;
        whole = λ i l. subst (Whole n eight) (sym (get_or-replicate n i zero_process no_process l)) whole_zero;
      }

-- from every accepted call on, whatever came before and whatever comes between, the accepted turns of a process are Figure 3's
-- procedure: every n from 1 to 8, every order of reading, any number k of rounds that is enough for the items
pub days_are_figure_3_ordered : (n : ℕ) (o : Order) → Permutes n o → 0 < n → n ≤ 8 →
    (before items : List Item) (d k : ℕ) → length items < k → CallsPerform o n before items d k
days_are_figure_3_ordered n o P z eight before items d k few =
    let s = state_after o (opened_for n) before in
    let L = lent_after n z eight o P before (opened_for n) (lent_opened n z eight o P) in
    (scan_performs n z eight o P s L d k items few, update_performs n z eight o P s L d k items few)

-- the same where registers are read in the order of the processes
pub days_are_figure_3 : (n : ℕ) → 0 < n → n ≤ 8 → (before items : List Item) (d k : ℕ) → length items < k →
    CallsPerform ascending n before items d k
days_are_figure_3 n = days_are_figure_3_ordered n ascending (ascending_permutes n)
