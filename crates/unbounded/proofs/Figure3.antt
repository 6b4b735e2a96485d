-- The turns of a task are Figure 3's procedure, one access at a time: for every n, every order of reading, every number of rounds
-- and whatever the reads return.
use Prim.Native.Nat.{ℕ, zero, suc, ◌+◌, ◌*◌, ◌-◌, ◌≤◌, ◌<◌}
use native.Mathlib.Numerals.{add-one}
use native.Mathlib.Omega.{arith}
use native.Mathlib.Decide.{ℕ_discrete}
use lib.Arith.{digits_mod}
use mathlib.Core.Path.{◌≡◌, refl, sym, ap, ap₂, ◌∙◌, subst}
use mathlib.Core.Logic.{by_cases, ◌≢◌}
use mathlib.Core.Bool.{Bool, true, false, cond, ◌&&◌, and-false}
use mathlib.Core.List.{List, map}
use mathlib.Core.Option.{Option, none, some}
use lib.ListN.{length, get_or, take, replicate, length-map, length-replicate}
use lib.Seq.{length-take-le}
use lib.Dec.{eqb}
use borrow.Author.Tests.{eq-eqb, ne_eqb}
use Rattle.snapshot.specs.declared.Value.{Value}
use Rattle.snapshot.specs.Values.{zero_value, stored}
use Rattle.snapshot.specs.Lists.{over, each, every_from}
use Rattle.snapshot.specs.Tally.{Job, scan, update}
use Rattle.snapshot.specs.Marks.{is_moved, with_moved, lends, mark_from, passed, Found}
use Rattle.snapshot.specs.Demand.{Result}
use Rattle.snapshot.specs.declared.Answer.TheVariants.{Read, Page, Written}
use Rattle.snapshot.proofs.Booleans.{bool_cases}
use Rattle.snapshot.proofs.Lists.{each_cong, take_over_all, get_d_over, get_d_map_below, take_replicate}
use Rattle.snapshot.proofs.Marks.{length_with_moved, moved_same, moved_other, none_moved_lem, lends_moved, lends_marked, unmarked}
use Rattle.snapshot.proofs.Marks.{marks_keep}
use Rattle.snapshot.specs.Verdict.{Verdict, clean, lent, again, verdict}
use Rattle.snapshot.proofs.DoubleCollect.{Ends, nobody, lender, goes_on, verdict_ends}
use Rattle.unbounded.specs.declared.Register.{Register}
use Rattle.unbounded.specs.declared.Process.{Process}
use Rattle.unbounded.specs.declared.Task.{Task}
use Rattle.unbounded.specs.declared.Task.TheVariants.{Scan, Update, Ready}
use Rattle.unbounded.specs.Registers.{no_register, zero_register, value, viewed, trimmed, Order, collected_at, page_of}
use Rattle.unbounded.specs.Registers.{differs, laid, read_into, cleared}
use Rattle.unbounded.specs.Processes.{turns_of, task_of, begin}
use Rattle.unbounded.specs.Turns.{position, place_at, reads, first_after, second_after, end_after, marks_after, found}
use Rattle.unbounded.specs.Turns.{after_read, found_by, scan_turn, update_turn, written, turned_with, turned}
use Rattle.unbounded.specs.Figure3.{Array, assigned, Variables, Procedure, read, write, return, spent, collect, search}
use Rattle.unbounded.specs.Figure3.{while_true, scan_for, scan_procedure, update_procedure, initial}
use Rattle.unbounded.specs.Figure3.{mark, Remembers, Standing, After, Wrote}
use Rattle.unbounded.proofs.Places.{page_of_long, read_into_same, read_into_other, trimmed_laid}
use Rattle.unbounded.proofs.Moved.{differs_false, differs_true}
use Rattle.unbounded.proofs.Reading.{place_first, place_second, first_reads, first_waits, second_reads, second_waits}
use Rattle.unbounded.proofs.Reading.{end_waits, end_reads, decision_waits, decision_falls, Sized, sized_begin}
use Rattle.unbounded.proofs.Reading.{sized_read}
use Rattle.unbounded.proofs.Scans.{Permutes}

-- ---- a process that does what a procedure says

module _ (o : Order) (n : ℕ) where
  -- process p, after t turns, will do what the procedure says, whatever its reads return: the same register is read by the same
  -- access, its collects, marks and turns are the procedure's, and its writing turn writes what line 2 says
  unfoldable pub Does : Procedure → ℕ → Process → Type 0
  Does (read v j next) t p =
      Standing o n (read v j next) t p
      × ((now : ℕ) (r : Register) (page : List ℕ) → length r.view ≡ 8 →
      After o n (Does (next now (trimmed n r)) (suc t)) (suc t) p page (turned o n now r page p) (next now (trimmed n r)))
  Does (write v w) t p =
      Standing o n (write v w) t p
      × ((now : ℕ) (r : Register) (page : List ℕ) → Wrote o n (w now) (suc t) p page (turned o n now r page p))
  Does (return from at values) t p = Unit {0}
  Does spent t p = Unit {0}

-- ---- arrays

assigned_same : {A : Type 0} (a : Array A) (i j : ℕ) (x : A) → i ≡ j → assigned a j x i ≡ x
assigned_same a i j x q = ap (λ b. cond b x (a i)) (eq-eqb i j q)

assigned_other : {A : Type 0} (a : Array A) (i j : ℕ) (x : A) → i ≢ j → assigned a j x i ≡ a i
assigned_other a i j x q = ap (λ b. cond b x (a i)) (ne_eqb i j q)

module _ (n : ℕ) (o : Order) (P : Permutes n o) where
  -- an array that stands for a collect, and one more read of it
  abbrev Stands : Array Register → List Register → Type 0
  Stands x rs = (j : ℕ) → j < n → x j ≡ trimmed n (collected_at o rs j)

  reads_stand : (x : Array Register) (rs : List Register) (r : Register) (p : ℕ) → p < n → n ≤ length rs →
      length (take n r.view) ≡ n →
      Stands x rs → Stands (assigned x (o.register p) (trimmed n r)) (read_into n r p rs)
  reads_stand x rs r p l m full h j b =
      by_cases (ℕ_discrete j (o.register p))
      (λ q.
      assigned_same x j (o.register p) (trimmed n r) q
      ∙ sym (ap (λ i. trimmed n (get_or (read_into n r p rs) i no_register)) (ap o.place q ∙ P.place_register p l)
      ∙ read_into_same n r p rs (omega arith) full))
      (λ q.
      assigned_other x j (o.register p) (trimmed n r) q
      ∙ h j b
      ∙ sym (ap (trimmed n) (read_into_other n r p rs (o.place j) (λ w. q (sym (P.register_place j b) ∙ ap o.register w)))))

  -- line 5: the values of the second collect
  page_each : (x : Array Register) (rs : List Register) → Stands x rs → each n (λ j. value (x j)) ≡ page_of o n rs
  unfolding page_of
  page_each x rs h = each_cong n (λ j. value (x j)) (λ j. value (collected_at o rs j)) (λ j l. ap value (h j l))

-- ---- lines 4 to 10

module _ (n : ℕ) (o : Order) (a b : List Register) (x y : Array Register)
    (hx : (j : ℕ) → j < n → x j ≡ trimmed n (collected_at o a j)) (hy : (j : ℕ) → j < n → y j ≡ trimmed n (collected_at o b j))
    (finish : Array ℕ → ℕ → ℕ → List Value → Procedure) (go : Array ℕ → Procedure) where
  -- the figure's test of line 7 is `differs`
  same_seq : (j : ℕ) → j < n → differs o a b j ≡ false → eqb (x j).seq (y j).seq ≡ true
  same_seq j l d =
      eq-eqb (x j).seq (y j).seq (ap (λ t. t.seq) (hx j l) ∙ differs_false o a b j d ∙ sym (ap (λ t. t.seq) (hy j l)))

  other_seq : (j : ℕ) → j < n → differs o a b j ≡ true → eqb (x j).seq (y j).seq ≡ false
  other_seq j l d =
      ne_eqb (x j).seq (y j).seq (λ q. differs_true o a b j d (sym (ap (λ t. t.seq) (hx j l)) ∙ q ∙ ap (λ t. t.seq) (hy j l)))

  -- line 4
  all_same : (k j : ℕ) → j + k ≤ n → ((i : ℕ) → i < n → differs o a b i ≡ false) →
      every_from (λ i. eqb (x i).seq (y i).seq) k j ≡ true
  all_same zero j l h = refl
  all_same (suc k) j l h = ap₂ ◌&&◌ (same_seq j (omega arith) (h j (omega arith))) (all_same k (suc j) (omega arith) h)

  one_differs : (k j i : ℕ) → j ≤ i → i < j + k → i < n → differs o a b i ≡ true →
      every_from (λ i. eqb (x i).seq (y i).seq) k j ≡ false
  one_differs zero j i l m w d = absurd (omega arith)
  one_differs (suc k) j i l m w d =
      by_cases (ℕ_discrete i j)
      (λ q. ap (λ t. ◌&&◌ t (every_from (λ i. eqb (x i).seq (y i).seq) k (suc j)))
      (ap (λ u. eqb (x u).seq (y u).seq) (sym q) ∙ other_seq i w d))
      (λ q. ap (λ t. ◌&&◌ (eqb (x j).seq (y j).seq) t) (one_differs k (suc j) i (omega arith) (omega arith) w d) ∙
      and-false (eqb (x j).seq (y j).seq))

  -- one turn of the loop, where process j does not differ, or differs and is not marked
  search_passes : (k j : ℕ) (moved : Array ℕ) → j < n → differs o a b j ≡ false →
      search (suc k) j x y moved go finish ≡ search k (suc j) x y moved go finish
  unfolding search
  search_passes k j moved l d =
      ap (λ t. cond t (search k (suc j) x y moved go finish)
      (cond (eqb (moved j) 1) (finish moved (suc j) (y j).at (y j).view)
      (search k (suc j) x y (assigned moved j (moved j + 1)) go finish)))
      (same_seq j l d)

  search_sees : (k j : ℕ) (moved : Array ℕ) → j < n → differs o a b j ≡ true →
      search (suc k) j x y moved go finish
      ≡ cond (eqb (moved j) 1) (finish moved (suc j) (y j).at (y j).view)
      (search k (suc j) x y (assigned moved j (moved j + 1)) go finish)
  unfolding search
  search_sees k j moved l d =
      ap (λ t. cond t (search k (suc j) x y moved go finish)
      (cond (eqb (moved j) 1) (finish moved (suc j) (y j).at (y j).view)
      (search k (suc j) x y (assigned moved j (moved j + 1)) go finish)))
      (other_seq j l d)

  search_sees_new : (k j : ℕ) (moved : Array ℕ) → j < n → differs o a b j ≡ true → moved j ≡ 0 →
      search (suc k) j x y moved go finish ≡ search k (suc j) x y (assigned moved j (moved j + 1)) go finish
  search_sees_new k j moved l d q =
      search_sees k j moved l d
      ∙ ap (λ t. cond t (finish moved (suc j) (y j).at (y j).view)
      (search k (suc j) x y (assigned moved j (moved j + 1)) go finish)) (ne_eqb (moved j) 1 (λ w. omega arith))

  search_sees_marked : (k j : ℕ) (moved : Array ℕ) → j < n → differs o a b j ≡ true → moved j ≡ 1 →
      search (suc k) j x y moved go finish ≡ finish moved (suc j) (y j).at (y j).view
  search_sees_marked k j moved l d q =
      search_sees k j moved l d
      ∙ ap (λ t. cond t (finish moved (suc j) (y j).at (y j).view)
      (search k (suc j) x y (assigned moved j (moved j + 1)) go finish)) (eq-eqb (moved j) 1 q)

  -- the search passes c processes that do not lend: who differs of them is marked
  abbrev Walked : (k c j : ℕ) → List Bool → Array ℕ → Type 0
  Walked k c j ms moved =
      (m : Array ℕ)
      × (search k j x y moved go finish ≡ search (k - c) (j + c) x y m go finish)
      × ((i : ℕ) → i < n → m i ≡ mark (is_moved (mark_from (differs o a b) c j ms) i))

  search_walks : (k c j : ℕ) (ms : List Bool) (moved : Array ℕ) → c ≤ k → j + c ≤ n → n ≤ length ms →
      ((i : ℕ) → i < n → moved i ≡ mark (is_moved ms i)) →
      ((i : ℕ) → j ≤ i → i < j + c → differs o a b i ≡ true → is_moved ms i ≡ false) → Walked k c j ms moved
  search_walks k zero j ms moved few l w h u =
      let left : k ≡ k - 0 = omega arith in
      let here : j ≡ j + 0 = omega arith in
      (moved, ap₂ (λ k i. search k i x y moved go finish) left here, h)
  search_walks zero (suc c) j ms moved few l w h u = absurd (omega arith)
  search_walks (suc k) (suc c) j ms moved few l w h u =
      bool_cases (differs o a b j)
      (λ d.
      marks d (search_walks k c (suc j) (with_moved ms j) (assigned moved j (moved j + 1)) (omega arith) (omega arith)
      (long (omega arith))
      (fresh d) (λ i v m e. moved_other ms i j (λ q. omega arith) ∙ u i (omega arith) (omega arith) e)))
      (λ d. passes d (search_walks k c (suc j) ms moved (omega arith) (omega arith) w h
      (λ i v m. u i (omega arith) (omega arith))))
    where
      long : n ≤ length ms → n ≤ length (with_moved ms j)
      long z = let q = length_with_moved ms j in omega arith

      fresh : differs o a b j ≡ true → (i : ℕ) → i < n → assigned moved j (moved j + 1) i ≡ mark (is_moved (with_moved ms j) i)
      fresh d i m =
          by_cases (ℕ_discrete i j)
          (λ q.
          let zero-before : moved j ≡ 0 = h j (omega arith) ∙ ap mark (u j (omega arith) (omega arith) d) in
          assigned_same moved i j (moved j + 1) q ∙ omega arith ∙
          sym (ap mark (ap (is_moved (with_moved ms j)) q ∙ moved_same ms j (omega arith))))
          (λ q. assigned_other moved i j (moved j + 1) q ∙ h i m ∙ ap mark (sym (moved_other ms i j q)))

      further : (m : Array ℕ) → search (k - c) (suc j + c) x y m go finish ≡ search (suc k - suc c) (j + suc c) x y m go finish
      further m =
          let left : k - c ≡ suc k - suc c = omega arith in
          let here : suc j + c ≡ j + suc c = omega arith in
          ap₂ (λ k i. search k i x y m go finish) left here

      marks : differs o a b j ≡ true → Walked k c (suc j) (with_moved ms j) (assigned moved j (moved j + 1)) →
          Walked (suc k) (suc c) j ms moved
      marks d r = (
        r.0,
        search_sees_new k j moved (omega arith) d (h j (omega arith) ∙ ap mark (u j (omega arith) (omega arith) d)) ∙ r.1 ∙
            further r.0,
        (λ i m. r.2 i m ∙ sym (ap (λ t. mark (is_moved (mark_from (differs o a b) c (suc j) (cond t (with_moved ms j) ms)) i)) d)),
      )

      passes : differs o a b j ≡ false → Walked k c (suc j) ms moved → Walked (suc k) (suc c) j ms moved
      passes d r = (
        r.0,
        search_passes k j moved (omega arith) d ∙ r.1 ∙ further r.0,
        (λ i m. r.2 i m ∙ sym (ap (λ t. mark (is_moved (mark_from (differs o a b) c (suc j) (cond t (with_moved ms j) ms)) i)) d)),
      )

  module _ (ms : List Bool) (moved : Array ℕ) (wide : n ≤ length ms) (h : (i : ℕ) → i < n → moved i ≡ mark (is_moved ms i)) where
    -- line 9: the first that lends ends the search
    search_lends : (w : ℕ) → w < n → lends (differs o a b) ms w ≡ true → ((i : ℕ) → i < w → lends (differs o a b) ms i ≡ false) →
        (m : Array ℕ)
        × (search n 0 x y moved go finish ≡ finish m (suc w) (y w).at (y w).view)
        × ((i : ℕ) → i < n → m i ≡ mark (is_moved (mark_from (differs o a b) w 0 ms) i))
    search_lends w l lend before =
        let r = search_walks n w 0 ms moved (omega arith) (omega arith) wide h
        (λ i u v d. unmarked (differs o a b) ms i d (before i (omega arith))) in
        let left : n - w ≡ suc (n - w - 1) = omega arith in
        let here : 0 + w ≡ w = omega arith in (
          r.0,
          r.1
              ∙ ap₂ (λ k i. search k i x y r.0 go finish) left here
              ∙ search_sees_marked (n - w - 1) w r.0 l (lends_moved (differs o a b) ms w lend)
              (r.2 w l ∙ ap mark (marks_keep (differs o a b) w 0 ms w (lends_marked (differs o a b) ms w lend))),
          r.2,
        )

    -- line 10: with no lender, whoever differs is marked
    search_marks : ((i : ℕ) → i < n → lends (differs o a b) ms i ≡ false) →
        (m : Array ℕ)
        × (search n 0 x y moved go finish ≡ go m)
        × ((i : ℕ) → i < n → m i ≡ mark (is_moved (mark_from (differs o a b) n 0 ms) i))
    unfolding search
    search_marks none-lends =
        let r = search_walks n n 0 ms moved (omega arith) (omega arith) wide h
        (λ i u v d. unmarked (differs o a b) ms i d (none-lends i (omega arith))) in
        let left : n - n ≡ 0 = omega arith in
        (r.0, r.1 ∙ ap (λ k. search k (0 + n) x y r.0 go finish) left, r.2)

-- ---- turns

turns_of_lem : (K : Job) (t : ℕ) → turns_of (task_of K t) ≡ t
turns_of_lem scan t = refl
turns_of_lem (update register w) t = refl

reads_of : (o : Order) (n : ℕ) (K : Job) (t pos place : ℕ) → position n t ≡ pos → place_at n pos ≡ place →
    reads o n (task_of K t) ≡ some (o.register place)
reads_of o n scan t pos place q r = ap {B = Option ℕ} (λ k. some (o.register k)) (ap (place_at n) q ∙ r)
reads_of o n (update register w) t pos place q r = ap {B = Option ℕ} (λ k. some (o.register k)) (ap (place_at n) q ∙ r)

-- what the procedure does with the values that its scan returns, by a process whose register's seq is s
abbrev finish_of : Job → ℕ → Variables → ℕ → ℕ → List Value → Procedure
finish_of scan s v from at values = return from at values
finish_of (update register w) s v from at values =
    write v (λ now. record { value = stored now w; seq = s + 1; view = values; at = at })

module _ (n : ℕ) (o : Order) (now : ℕ) (r : Register) (pg : List ℕ) (p : Process) where
  abbrev read_turn : ℕ → Option (Found Value) → Job → Result Process
  read_turn t f scan = scan_turn o n now r pg p t f
  read_turn t f (update register w) = update_turn o n now r pg p w t f

  turned_by : (t : ℕ) (K : Job) → turned_with o n now r pg p (task_of K t) ≡ read_turn t (found_by o n now (position n t) r p) K
  turned_by t scan = refl
  turned_by t (update register w) = refl

  turned_reads : (K : Job) (t pos : ℕ) (f : Option (Found Value)) → p.task ≡ task_of K t → position n t ≡ pos →
      found_by o n now pos r p ≡ f →
      turned o n now r pg p ≡ read_turn t f K
  unfolding turned
  turned_reads K t pos f task at q =
      ap (λ k. turned_with o n now r pg p k) task ∙ turned_by t K ∙ ap (λ g. read_turn t g K) (ap (λ k. found_by o n now k r p) at ∙ q)

  -- a turn that finds nothing goes on
  abbrev onward : (t pos : ℕ) → Job → Result Process
  onward t pos K = record { state = after_read o n now pos r p (task_of K (t + 1)) p.view; answer = Read; page = pg }

  turned_onward : (K : Job) (t pos : ℕ) → p.task ≡ task_of K t → position n t ≡ pos → found_by o n now pos r p ≡ none →
      turned o n now r pg p ≡ onward t pos K
  turned_onward K t pos task at q = turned_reads K t pos none task at q ∙ by K
    where
      by : (K : Job) → read_turn t none K ≡ onward t pos K
      by scan = ap (λ k. onward t k scan) at
      by (update register w) = ap (λ k. onward t k (update register w)) at

-- ---- a turn that finds a page

-- a page of n values kept as a view, and written
trimmed_written : (n now w at s : ℕ) (p : Process) (ws : List Value) → p.register.seq ≡ s → take n p.view ≡ ws → length ws ≡ n →
    trimmed n (written n now w at p) ≡ record { value = stored now w; seq = s + 1; view = ws; at = at }
unfolding written
trimmed_written n now w at s p ws q v l =
    trimmed_laid n (record { value = stored now w; seq = p.register.seq + 1; view = p.view; at = at }) p.register (ap length v ∙ l)
    ∙ ap₂ (λ k u. record { value = stored now w; seq = k + 1; view = u; at = at }) q v

module _ (n : ℕ) (o : Order) (now : ℕ) (r : Register) (pg : List ℕ) (p : Process) (t s : ℕ) (f : Found Value)
    (own : p.register.seq ≡ s)
    (full : length f.words ≡ n) (v : Variables)
    (has : (k : Task) (u : List Value) → Remembers o n v (after_read o n now (position n t) r p k u)) where
  -- the procedure returns to its caller, or goes on to its write
  found_after : (K : Job) → let q = finish_of K s v f.lender f.instant f.words in
      After o n (Does o n q (suc t)) (suc t) p pg (read_turn n o now r pg p t (some f) K) q
  unfolding Does begin after_read turned
  found_after scan = (ap (Page f.lender f.instant) (add-one t), refl, refl)
  found_after (update register w) = (
    refl,
    refl,
    refl,
    (
      (has (Ready w f.instant (t + 1)) (over n f.words p.view), add-one t, refl),
      (λ now' r' pg'. (
        ap Written (ap (λ k. k + 1) (add-one t) ∙ add-one (suc t)),
        refl,
        trimmed_written n now' w f.instant s (after_read o n now (position n t) r p (Ready w f.instant (t + 1))
            (over n f.words p.view))
            f.words own (take_over_all n f.words p.view full) full,
        refl,
      )),
    ),
  )

-- ---- a turn that goes on

register_kept : (o : Order) (n now pos : ℕ) (r : Register) (p : Process) (k : Task) (v : List Value) →
    (after_read o n now pos r p k v).register ≡ p.register
unfolding after_read
register_kept o n now pos r p k v = refl

-- what is left of the rounds is a read, or nothing
after_while : (o : Order) (n : ℕ) → 0 < n → (F : Variables → ℕ → ℕ → List Value → Procedure) (k : ℕ) (moved : Array ℕ)
    (x y : Array Register) (e t : ℕ) (p : Process) (pg : List ℕ)
    (p' : Process) → p'.register ≡ p.register → Does o n (while_true o n F k moved x y e) t p' →
    After o n (Does o n (while_true o n F k moved x y e) t) t p pg (record { state = p'; answer = Read; page = pg })
    (while_true o n F k moved x y e)
unfolding while_true collect
after_while o zero z F k moved x y e t p pg p' q does = absurd (omega arith)
after_while o (suc n) z F zero moved x y e t p pg p' q does = does
after_while o (suc n) z F (suc k) moved x y e t p pg p' q does = (refl, refl, q, does)

module _ (n : ℕ) (o : Order) (P : Permutes n o) (z : 0 < n) (eight : n ≤ 8) (K : Job) (s : ℕ) where
  -- lines 4 to 10 of a round after which k more may come
  abbrev closing : ℕ → Array ℕ → Array Register → (ended : ℕ) → (last : ℕ) → Array Register → Procedure
  closing k moved x e last y =
      cond (every_from (λ j. eqb (x j).seq (y j).seq) n 0)
      (finish_of K s (record { moved = moved; a = x; b = y; ended = e }) 0 e (each n (λ j. value (y j))))
      (search n 0 x y moved (λ mv. while_true o n (finish_of K s) k mv x y e)
      (λ mv. finish_of K s (record { moved = mv; a = x; b = y; ended = e })))

  -- the variables, each by itself
  abbrev vars : Array ℕ → (a b : Array Register) → ℕ → Variables
  vars moved x y e = record { moved = moved; a = x; b = y; ended = e }

  -- process p after t turns remembers the variables v
  record At (p : Process) (t : ℕ) (v : Variables) : Type 0 where
    sized : Sized p
    remembers : Remembers o n v p
    -- the views in the second collect have their n values
    wide : (j : ℕ) → j < n → length (v.b j).view ≡ n
    task : p.task ≡ task_of K t
    seq : p.register.seq ≡ s

  position_of : (m pos t : ℕ) → t ≡ m * (2 * n) + pos → pos < 2 * n → position n t ≡ pos
  unfolding position
  position_of m pos t q l = ap (λ k. Prim.Native.Nat.◌%◌ k (2 * n)) q ∙ digits_mod m l

  view_full : (r : Register) → length r.view ≡ 8 → length (take n r.view) ≡ n
  view_full r q = length-take-le n r.view (omega arith)

  -- ---- a read that ends no double collect

  module _ (now : ℕ) (r : Register) (full : length r.view ≡ 8) (p : Process) (t : ℕ) (moved : Array ℕ) (x y : Array Register)
      (e : ℕ)
      (A : At p t (vars moved x y e)) where
    waits : (pos : ℕ) → pos + 1 ≢ 2 * n → found_by o n now pos r p ≡ none
    unfolding found_by
    waits pos h =
        let a = first_after n pos r p.first in
        let c = second_after n pos r p.second in
        ap (found o n c (end_after n pos now p.first_end)) (decision_waits n o pos a c p.moved h)

    -- the record that such a turn leaves at position pos, with the variables x', y' and e' that its collects then stand for
    at_onward : (pos : ℕ) (x' y' : Array Register) (e' : ℕ) → pos + 1 ≢ 2 * n →
        Stands n o P x' (first_after n pos r p.first) → Stands n o P y' (second_after n pos r p.second) →
        e' ≡ end_after n pos now p.first_end → ((j : ℕ) → j < n → length (y' j).view ≡ n) →
        At (after_read o n now pos r p (task_of K (t + 1)) p.view) (suc t) (vars moved x' y' e')
    unfolding after_read marks_after
    at_onward pos x' y' e' h hx hy he wide =
        let a = first_after n pos r p.first in
        let c = second_after n pos r p.second in
        record {
          sized = sized_read o n now pos r p (task_of K (t + 1)) p.view A.sized;
          remembers =
              record {
                moved = λ j l. A.remembers.moved j l
                    ∙ sym (ap (λ v. mark (is_moved (mark_from (differs o a c) (passed n v) 0 p.moved) j))
                    (decision_waits n o pos a c p.moved h));
                a = hx;
                b = hy;
                ended = he;
              };
          wide = wide;
          task = ap (task_of K) (add-one t);
          seq = A.seq;
        }

    at_first : (q e' : ℕ) → q < n → e' ≡ end_after n q now p.first_end →
        At (after_read o n now q r p (task_of K (t + 1)) p.view) (suc t)
        (vars moved (assigned x (o.register q) (trimmed n r)) y e')
    at_first q e' l he =
        at_onward q (assigned x (o.register q) (trimmed n r)) y e' (λ w. omega arith)
        (subst (λ rs. Stands n o P (assigned x (o.register q) (trimmed n r)) rs) (sym (first_reads n r q p.first l))
        (reads_stand n o P x p.first r q l (omega (arith, A.sized.firsts)) (view_full r full) A.remembers.a))
        (subst (λ rs. Stands n o P y rs) (sym (second_waits n r q p.second l)) A.remembers.b)
        he
        A.wide

    stands_second : (q : ℕ) → q < n → Stands n o P (assigned y (o.register q) (trimmed n r))
        (second_after n (n + q) r p.second)
    stands_second q l =
        subst (λ rs. Stands n o P (assigned y (o.register q) (trimmed n r)) rs) (sym (second_reads n r q p.second))
        (reads_stand n o P y p.second r q l (omega (arith, A.sized.seconds)) (view_full r full) A.remembers.b)

    stands_first : (q : ℕ) → Stands n o P x (first_after n (n + q) r p.first)
    stands_first q = subst (λ rs. Stands n o P x rs) (sym (first_waits n r (n + q) p.first (omega arith))) A.remembers.a

    wide_second : (q j : ℕ) → j < n → length (assigned y (o.register q) (trimmed n r) j).view ≡ n
    wide_second q j l =
        by_cases (ℕ_discrete j (o.register q))
        (λ e. ap (λ u. length u.view) (assigned_same y j (o.register q) (trimmed n r) e) ∙ view_full r full)
        (λ e. ap (λ u. length u.view) (assigned_other y j (o.register q) (trimmed n r) e) ∙ A.wide j l)

    -- a read that does not end the first collect keeps the number of the turn that did
    ended_waits : (pos : ℕ) → pos + 1 ≢ n → e ≡ end_after n pos now p.first_end
    ended_waits pos h = A.remembers.ended ∙ sym (end_waits n pos now p.first_end h)

    at_second : (q : ℕ) → q + 1 < n →
        At (after_read o n now (n + q) r p (task_of K (t + 1)) p.view) (suc t)
        (vars moved x (assigned y (o.register q) (trimmed n r)) e)
    at_second q l =
        at_onward (n + q) x (assigned y (o.register q) (trimmed n r)) e (λ w. omega arith) (stands_first q)
        (stands_second q (omega arith))
        (ended_waits (n + q) (λ w. omega arith)) (wide_second q)

    onwards : (pg : List ℕ) (pos : ℕ) → position n t ≡ pos → pos + 1 ≢ 2 * n →
        (k q : ℕ) (v : Array Register → Variables) (last : ℕ) (w : Array Register) (next : ℕ → Array Register → Procedure) →
        Does o n (collect o (suc k) q v last w next) (suc t) (after_read o n now pos r p (task_of K (t + 1)) p.view) →
        After o n (Does o n (collect o (suc k) q v last w next) (suc t)) (suc t) p pg (turned o n now r pg p)
        (collect o (suc k) q v last w next)
    unfolding collect
    onwards pg pos at h k q v last w next does =
        subst (λ X. After o n (Does o n (collect o (suc k) q v last w next) (suc t)) (suc t) p pg X
        (collect o (suc k) q v last w next))
        (sym (turned_onward n o now r pg p K t pos A.task at (waits pos h)))
        (refl, refl, register_kept o n now pos r p (task_of K (t + 1)) p.view, does)

    -- ---- the read that ends a double collect

    module _ (pg : List ℕ) (q m : ℕ) (last : q + 1 ≡ n) (count : t ≡ m * (2 * n) + (n + q)) where
      a' : List Register
      a' = first_after n (n + q) r p.first

      c' : List Register
      c' = second_after n (n + q) r p.second

      y' : Array Register
      y' = assigned y (o.register q) (trimmed n r)

      end' : ℕ
      end' = end_after n (n + q) now p.first_end

      falls : (v : Verdict) → verdict n (differs o a' c') (lends (differs o a' c') p.moved) ≡ v →
          found_by o n now (n + q) r p ≡ found o n c' end' (some v)
      unfolding found_by a' c' end'
      falls v h = ap (found o n c' end') (decision_falls n o (n + q) a' c' p.moved (omega arith) ∙
          ap {B = Option Verdict} some h)

      lines : ℕ → Procedure
      lines k = closing k moved x e now y'

      Ending : ℕ → Type 0
      Ending k = After o n (Does o n (lines k) (suc t)) (suc t) p pg (turned o n now r pg p) (lines k)

      at : position n t ≡ n + q
      at = position_of m (n + q) t count (omega arith)

      -- the marks that the search left, by its verdict, are what the record then has
      remembers_after : (m' : Array ℕ) (v : Verdict) → verdict n (differs o a' c') (lends (differs o a' c') p.moved) ≡ v →
          ((i : ℕ) → i < n → m' i ≡ mark (is_moved (mark_from (differs o a' c') (passed n (some v)) 0 p.moved) i)) →
          (k : Task) (u : List Value) → Remembers o n (vars m' x y' e) (after_read o n now (n + q) r p k u)
      unfolding after_read marks_after a' c' y'
      remembers_after m' v is h k u =
          record {
            moved = λ i l. h i l
                ∙ sym (ap (λ v. mark (is_moved (mark_from (differs o a' c') (passed n v) 0 p.moved) i))
                (decision_falls n o (n + q) a' c' p.moved (omega arith) ∙ ap {B = Option Verdict} some is));
            a = stands_first q;
            b = stands_second q (omega arith);
            ended = ended_waits (n + q) (λ w. omega arith);
          }

      -- a page was found, and the procedure finishes with it
      finishes : (k : ℕ) (f : Found Value) (m' : Array ℕ) → found_by o n now (n + q) r p ≡ some f → length f.words ≡ n →
          ((k : Task) (u : List Value) → Remembers o n (vars m' x y' e) (after_read o n now (n + q) r p k u)) →
          lines k ≡ finish_of K s (vars m' x y' e) f.lender f.instant f.words → Ending k
      unfolding Ending
      finishes k f m' found-f wide-f has same =
          let v = vars m' x y' e in
          let F = finish_of K s v f.lender f.instant f.words in
          subst (λ Q. After o n (Does o n Q (suc t)) (suc t) p pg (turned o n now r pg p) Q) (sym same)
          (subst (λ X. After o n (Does o n F (suc t)) (suc t) p pg X F)
          (sym (turned_reads n o now r pg p K t (n + q) (some f) A.task at found-f))
          (found_after n o now r pg p t s f A.seq wide-f v
          (λ k u. subst (λ pos. Remembers o n v (after_read o n now pos r p k u)) (sym at) (has k u)) K))

      -- no page was found, and the procedure goes on with the marks m'
      continues : (k : ℕ) (m' : Array ℕ) → found_by o n now (n + q) r p ≡ none →
          lines k ≡ while_true o n (finish_of K s) k m' x y' e →
          Does o n (while_true o n (finish_of K s) k m' x y' e) (suc t)
          (after_read o n now (n + q) r p (task_of K (t + 1)) p.view) → Ending k
      unfolding Ending
      continues k m' Found-None same does =
          let Q = while_true o n (finish_of K s) k m' x y' e in
          let p' = after_read o n now (n + q) r p (task_of K (t + 1)) p.view in
          subst (λ Q. After o n (Does o n Q (suc t)) (suc t) p pg (turned o n now r pg p) Q) (sym same)
          (subst (λ X. After o n (Does o n Q (suc t)) (suc t) p pg X Q)
          (sym (turned_onward n o now r pg p K t (n + q) A.task at Found-None))
          (after_while o n z (finish_of K s) k m' x y' e (suc t) p pg p'
          (register_kept o n now (n + q) r p (task_of K (t + 1)) p.view) does))

      -- the record after a double collect without a page
      at_again : (m' : Array ℕ) → ((k : Task) (u : List Value) → Remembers o n (vars m' x y' e) (after_read o n now (n + q) r p k u)) →
          At (after_read o n now (n + q) r p (task_of K (t + 1)) p.view) (suc t) (vars m' x y' e)
      unfolding after_read y'
      at_again m' has =
          record {
            sized = sized_read o n now (n + q) r p (task_of K (t + 1)) p.view A.sized;
            remembers = has (task_of K (t + 1)) p.view;
            wide = wide_second q;
            task = ap (task_of K) (add-one t);
            seq = A.seq;
          }

      -- lines 5, 9 and 10, with the marks that the search left
      goes : ℕ → Array ℕ → Procedure
      goes k mv = while_true o n (finish_of K s) k mv x y' e

      finish : Array ℕ → ℕ → ℕ → List Value → Procedure
      finish mv = finish_of K s (vars mv x y' e)

      -- line 4
      tests : (k : ℕ) (b : Bool) → every_from (λ j. eqb (x j).seq (y' j).seq) n 0 ≡ b →
          lines k ≡ cond b (finish moved 0 e (each n (λ j. value (y' j)))) (search n 0 x y' moved (goes k) finish)
      unfolding lines goes finish
      tests k b h = ap (λ b. cond b (finish moved 0 e (each n (λ j. value (y' j)))) (search n 0 x y' moved (goes k) finish)) h

      tests_false : (k j : ℕ) → j < n → differs o a' c' j ≡ true → lines k ≡ search n 0 x y' moved (goes k) finish
      unfolding a' c' y'
      tests_false k j l d =
          tests k false
          (one_differs n o a' c' x y' (stands_first q) (stands_second q (omega arith)) finish (goes k) n 0 j (omega arith)
          (omega arith) l d)

      ends_clean : (k : ℕ) → verdict n (differs o a' c') (lends (differs o a' c') p.moved) ≡ clean →
          ((j : ℕ) → j < n → differs o a' c' j ≡ false) → Ending k
      unfolding a' c' y' end' finish
      ends_clean k is h =
          finishes k (record { words = page_of o n c'; instant = end'; lender = 0 }) moved (falls clean is) (page_of_long o n c')
          (remembers_after moved clean is A.remembers.moved)
          (tests k true (all_same n o a' c' x y' (stands_first q) (stands_second q (omega arith)) finish (goes k) n 0
          (omega arith) h)
          ∙ ap₂ (finish moved 0) (ended_waits (n + q) (λ w. omega arith)) (page_each n o P y' c' (stands_second q (omega arith))))

      -- the search ended at j, with the marks m'
      ends_lent : (k j : ℕ) → j < n → verdict n (differs o a' c') (lends (differs o a' c') p.moved) ≡ lent j →
          lines k ≡ search n 0 x y' moved (goes k) finish →
          (m' : Array ℕ)
          × (search n 0 x y' moved (goes k) finish ≡ finish m' (suc j) (y' j).at (y' j).view)
          × ((i : ℕ) → i < n → m' i ≡ mark (is_moved (mark_from (differs o a' c') j 0 p.moved) i)) → Ending k
      unfolding c' y' finish
      ends_lent k j l is searches (m', left, marks) =
          finishes k (record { words = viewed n (collected_at o c' j); instant = (collected_at o c' j).at; lender = j + 1 }) m'
          (falls (lent j) is)
          (ap (λ u. length u.view) (sym (stands_second q (omega arith) j l)) ∙ wide_second q j l)
          (remembers_after m' (lent j) is marks)
          (searches ∙ left ∙ ap₂ (λ i u. finish m' i u.at u.view) (sym (add-one j)) (stands_second q (omega arith) j l))

      abbrev Again : ℕ → Type 0
      Again k = (moved : Array ℕ) (p : Process) → At p (suc t) (vars moved x y' e) →
          Does o n (while_true o n (finish_of K s) k moved x y' e) (suc t) p

      ends_again : (k : ℕ) → Again k → verdict n (differs o a' c') (lends (differs o a' c') p.moved) ≡ again →
          lines k ≡ search n 0 x y' moved (goes k) finish →
          (m' : Array ℕ)
          × (search n 0 x y' moved (goes k) finish ≡ goes k m')
          × ((i : ℕ) → i < n → m' i ≡ mark (is_moved (mark_from (differs o a' c') n 0 p.moved) i)) → Ending k
      unfolding goes
      ends_again k rest is searches (m', left, marks) =
          continues k m' (falls again is) (searches ∙ left)
          (rest m' (after_read o n now (n + q) r p (task_of K (t + 1)) p.view) (at_again m' (remembers_after m' again is marks)))

      ends : (k : ℕ) → Again k → (v : Verdict) → verdict n (differs o a' c') (lends (differs o a' c') p.moved) ≡ v →
          Ends n (differs o a' c') (lends (differs o a' c') p.moved) v → Ending k
      unfolding a' c' y'
      ends k rest _ is (nobody h) = ends_clean k is h
      ends k rest _ is (lender j l h first) =
          ends_lent k j l is (tests_false k j l (lends_moved (differs o a' c') p.moved j h))
          (search_lends n o a' c' x y' (stands_first q) (stands_second q (omega arith)) finish (goes k) p.moved moved
          (omega (arith, A.sized.marks)) A.remembers.moved j l h first)
      ends k rest _ is (goes_on j l d h) =
          ends_again k rest is (tests_false k j l d)
          (search_marks n o a' c' x y' (stands_first q) (stands_second q (omega arith)) finish (goes k) p.moved moved
          (omega (arith, A.sized.marks)) A.remembers.moved h)

      ending : (k : ℕ) → Again k → Ending k
      ending k rest =
          ends k rest (verdict n (differs o a' c') (lends (differs o a' c') p.moved)) refl
          (verdict_ends n (differs o a' c') (lends (differs o a' c') p.moved))

  -- ---- the whole procedure

  -- the round after round m, from its start on
  abbrev Rounds : (f m : ℕ) → Type 0
  Rounds f m =
      (t : ℕ) (moved : Array ℕ) (x y : Array Register) (e : ℕ) (p : Process) → t ≡ m * (2 * n) → At p t (vars moved x y e) →
      Does o n (while_true o n (finish_of K s) f moved x y e) t p

  -- the second collect, with k + 1 registers to read, from place q on, in round m
  second_does : (f m k q : ℕ) → suc k + q ≡ n → Rounds f (suc m) →
      (t : ℕ) (moved : Array ℕ) (x y : Array Register) (e last : ℕ) (p : Process) → t ≡ m * (2 * n) + (n + q) →
      At p t (vars moved x y e) →
      Does o n (collect o (suc k) q (λ b. vars moved x b e) last y (closing f moved x e)) t p
  unfolding Does collect Ending lines y'
  second_does f m zero q l rest t moved x y e last p c A = (
    (
      A.remembers,
      ap turns_of A.task ∙ turns_of_lem K t,
      ap (reads o n) A.task ∙ reads_of o n K t (n + q) q (position_of m (n + q) t c (omega arith)) (place_second n q),
    ),
    (λ now r pg full. ending now r full p t moved x y e A pg q m (omega arith) c f
        (λ mv p' A'. rest (suc t) mv x (assigned y (o.register q) (trimmed n r)) e p' (omega arith) A')),
  )
  second_does f m (suc k) q l rest t moved x y e last p c A = (
    (
      A.remembers,
      ap turns_of A.task ∙ turns_of_lem K t,
      ap (reads o n) A.task ∙ reads_of o n K t (n + q) q (position_of m (n + q) t c (omega arith)) (place_second n q),
    ),
    (λ now r pg full. onwards now r full p t moved x y e A pg (n + q) (position_of m (n + q) t c (omega arith)) (λ w. omega arith)
        k (suc q) (λ b. vars moved x b e) now (assigned y (o.register q) (trimmed n r)) (closing f moved x e)
        (second_does f m k (suc q) (omega arith) rest (suc t) moved x (assigned y (o.register q) (trimmed n r)) e now
        (after_read o n now (n + q) r p (task_of K (t + 1)) p.view) (omega arith)
        (at_second now r full p t moved x y e A q (omega arith)))),
  )

  -- the first collect, and then the second
  abbrev after_first : ℕ → Array ℕ → Array Register → (ended : ℕ) → Array Register → Procedure
  after_first f moved y e x = collect o n 0 (λ b. vars moved x b e) e y (closing f moved x e)

  first_does : (f m k q : ℕ) → suc k + q ≡ n → Rounds f (suc m) →
      (t : ℕ) (moved : Array ℕ) (x y : Array Register) (e last : ℕ) (p : Process) → t ≡ m * (2 * n) + q →
      At p t (vars moved x y e) →
      Does o n (collect o (suc k) q (λ a. vars moved a y e) last x (after_first f moved y)) t p
  unfolding Does collect
  first_does f m zero q l rest t moved x y e last p c A = (
    (
      A.remembers,
      ap turns_of A.task ∙ turns_of_lem K t,
      ap (reads o n) A.task ∙ reads_of o n K t q q (position_of m q t c (omega arith)) (place_first n q (omega arith)),
    ),
    (λ now r pg full.
        let x' : Array Register = assigned x (o.register q) (trimmed n r) in
        let hold : Array Register → Variables = λ b. vars moved x' b now in
        subst (λ k. After o n (Does o n (collect o k 0 hold now y (closing f moved x' now)) (suc t)) (suc t) p pg
        (turned o n now r pg p)
        (collect o k 0 hold now y (closing f moved x' now)))
        (suc_is l)
        (onwards now r full p t moved x y e A pg q (position_of m q t c (omega arith)) (λ w. omega arith) q 0 hold now y
        (closing f moved x' now)
        (second_does f m q 0 (omega arith) rest (suc t) moved x' y now now
        (after_read o n now q r p (task_of K (t + 1)) p.view) (omega arith)
        (at_first now r full p t moved x y e A q now (omega arith) (sym (end_reads n q now p.first_end (omega arith))))))),
  )
    where
      suc_is : suc zero + q ≡ n → suc q ≡ n
      suc_is h = omega arith
  first_does f m (suc k) q l rest t moved x y e last p c A = (
    (
      A.remembers,
      ap turns_of A.task ∙ turns_of_lem K t,
      ap (reads o n) A.task ∙ reads_of o n K t q q (position_of m q t c (omega arith)) (place_first n q (omega arith)),
    ),
    (λ now r pg full. onwards now r full p t moved x y e A pg q (position_of m q t c (omega arith)) (λ w. omega arith)
        k (suc q) (λ a. vars moved a y e) now (assigned x (o.register q) (trimmed n r)) (after_first f moved y)
        (first_does f m k (suc q) (omega arith) rest (suc t) moved (assigned x (o.register q) (trimmed n r)) y e now
        (after_read o n now q r p (task_of K (t + 1)) p.view) (omega arith)
        (at_first now r full p t moved x y e A q e (omega arith)
        (ended_waits now r full p t moved x y e A q (λ w. omega arith))))),
  )

  -- every round, from its start on
  while_does : (f m : ℕ) → Rounds f m
  unfolding Does while_true
  while_does zero m t moved x y e p c A = tt
  while_does (suc f) m t moved x y e p c A =
      subst (λ k. Does o n (collect o k 0 (λ a. vars moved a y e) e x (after_first f moved y)) t p) (omega arith)
      (first_does f m (n - 1) 0 (omega arith) (while_does f (suc m)) t moved x y e e p (omega arith) A)

-- ---- a call

-- a cleared collect stands for zeros
cleared_stands : (n : ℕ) (o : Order) (P : Permutes n o) → n ≤ 8 → (rs : List Register) → 8 ≤ length rs →
    Stands n o P (λ j. initial n) (cleared n rs)
unfolding cleared
cleared_stands n o P eight rs l j b =
    let i = o.place j in
    let zeros = map (laid n zero_register) rs in
    let long : length (take n zeros) ≡ n = length-take-le n zeros (let q = length-map rs (laid n zero_register) in omega arith) in
    sym
    (ap (trimmed n) (get_d_over n zeros rs i no_register long (P.place_within j b) ∙
    get_d_map_below (laid n zero_register) rs i no_register no_register (below (P.place_within j b)))
    ∙ trimmed_zero (get_or rs i no_register))
  where
    below : o.place j < n → o.place j < length rs
    below h = omega arith

    trimmed_zero : (old : Register) → trimmed n (laid n zero_register old) ≡ initial n
    trimmed_zero old =
        trimmed_laid n zero_register old (length-take-le n (replicate 8 zero_value) (omega arith))
        ∙ ap (λ v. record { value = zero_value; seq = 0; view = v; at = 0 }) (take_replicate n 8 zero_value eight)

module _ (n : ℕ) (o : Order) (P : Permutes n o) (z : 0 < n) (eight : n ≤ 8) (p : Process) (sized : Sized p) where
  called_at : (K : Job) → At n o P z eight K p.register.seq (begin n (task_of K 0) p) 0
      (record { moved = λ j. 0; a = λ j. initial n; b = λ j. initial n; ended = 0 })
  unfolding begin
  called_at K =
      record {
        sized = sized_begin n (task_of K 0) p eight sized;
        remembers =
            record {
              moved = λ j l. sym (ap mark (none_moved_lem j));
              a = cleared_stands n o P eight p.first sized.firsts;
              b = cleared_stands n o P eight p.second sized.seconds;
              ended = refl;
            };
        wide = λ j l. length-replicate n zero_value;
        task = refl;
        seq = refl;
      }

  abbrev no_registers : Array Register
  no_registers j = initial n

  scan_does : (k : ℕ) → Does o n (scan_procedure o n k) 0 (begin n (Scan 0) p)
  unfolding scan_for
  scan_does k =
      while_does n o P z eight scan p.register.seq k 0 0 (λ j. 0) no_registers no_registers 0 (begin n (Scan 0) p)
      (omega arith)
      (called_at scan)

  update_does : (k w : ℕ) → Does o n (update_procedure o n k w p.register.seq) 0 (begin n (Update w 0) p)
  unfolding scan_for
  update_does k w =
      while_does n o P z eight (update 0 w) p.register.seq k 0 0 (λ j. 0) no_registers no_registers 0
      (begin n (Update w 0) p) (omega arith)
      (called_at (update 0 w))

  -- from its call on, the turns of a scan are Figure 3's scan, and those of an update its update, for any number k of rounds
  pub turns_are_figure_3 : (k : ℕ) →
      Does o n (scan_procedure o n k) 0 (begin n (Scan 0) p)
      × ((w : ℕ) → Does o n (update_procedure o n k w p.register.seq) 0 (begin n (Update w 0) p))
  turns_are_figure_3 k = (scan_does k, update_does k)
