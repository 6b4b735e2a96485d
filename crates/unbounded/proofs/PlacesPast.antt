-- "A collect has eight rows and a view eight words; those past n are touched only by an opening", and of a page list "its first n
-- are written by a page answer; later words .. remain", by K6 its first 2n: an accepted call or turn leaves them all.
use Prim.Native.Nat.{ℕ, zero, suc, ◌+◌, ◌-◌, ◌≤◌, ◌<◌}
use native.Mathlib.Omega.{arith}
use native.Mathlib.Decide.{ℕ_discrete}
use mathlib.Core.Path.{◌≡◌, refl, sym, ap₂, subst}
use mathlib.Core.Logic.{◌≢◌, by_cases}
use mathlib.Core.Bool.{Bool, true, false, cond}
use mathlib.Core.List.{List, [], ◌∷◌, map}
use mathlib.Core.Option.{Option, none, some}
use lib.ListN.{length, get_or, set, drop, replicate, length-map}
use lib.Seq.{get_or-set_same, get_or-set_other, drop-set-lt, map-set_same}
use lib.Dec.{ltb}
use Rattle.snapshot.specs.declared.Value.{Value}
use Rattle.snapshot.specs.Values.{zero_value, stored, page_places, listed}
use Rattle.snapshot.specs.Lists.{over}
use Rattle.snapshot.specs.Refusals.{first_cause}
use Rattle.snapshot.specs.Marks.{Found}
use Rattle.snapshot.specs.Tally.{Job, scan, update, opening}
use Rattle.snapshot.specs.Demand.{Result}
use Rattle.snapshot.specs.Days as Days
use Rattle.snapshot.specs.Days.{State, Item, open_for, update_call, scan_call, turn_of, sees, page_lent, refusal}
use Rattle.snapshot.specs.Days.{call_causes, turn_causes, advance, called_by, read_from, turn_by, accept}
use Rattle.snapshot.proofs.Values.{length_listed}
use Rattle.snapshot.proofs.Lists.{drop_over}
use Rattle.snapshot.proofs.Admitted.{admitted_call, admitted_turn, admitted_opening}
use Rattle.snapshot.proofs.Stepped.{grown, grown_count}
use Rattle.unbounded.specs.declared.Register.{Register}
use Rattle.unbounded.specs.declared.Process.{Process}
use Rattle.unbounded.specs.declared.Task.{Task}
use Rattle.unbounded.specs.declared.Task.TheVariants.{Idle, Scan, Update, Ready}
use Rattle.unbounded.specs.Registers.{no_register, zero_register, laid, read_into, cleared, Order}
use Rattle.unbounded.specs.Processes.{task_of, no_process, emptied, begin}
use Rattle.unbounded.specs.Turns.{position, place_at, reads, first_after, second_after}
use Rattle.unbounded.specs.Turns.{after_read, found_by, scan_turn, update_turn, written, turned, turned_with}
use Rattle.unbounded.specs.Days.{figure3, opened_for}
use Rattle.unbounded.proofs.Reading.{position_low, place_below}
use Rattle.unbounded.proofs.Scans.{Permutes}
use Rattle.unbounded.proofs.Whole.{Whole, Full, found_by_full, grown_whole}

-- the values past n of each view
abbrev pub values_past : ℕ → List Register → List (List Value)
values_past n rs = map (λ r. drop n r.view) rs

-- past n, record q is as record p: the values of the register's view and of the kept view, the registers of both collects, and the
-- values of every collected view
pub record SamePast (n : ℕ) (p q : Process) : Type 0 where
  pub register : drop n q.register.view ≡ drop n p.register.view
  pub view : drop n q.view ≡ drop n p.view
  pub firsts : drop n q.first ≡ drop n p.first
  pub seconds : drop n q.second ≡ drop n p.second
  pub first_views : values_past n q.first ≡ values_past n p.first
  pub second_views : values_past n q.second ≡ values_past n p.second

same_past : (n : ℕ) (p : Process) → SamePast n p p
same_past n p = record { register = refl; view = refl; firsts = refl; seconds = refl; first_views = refl; second_views = refl }

-- ---- lists

-- the first places changed by g, which leaves what f shows of them
map_over_map : {A B : Type 0} (f : A → B) (g : A → A) → ((a : A) → f (g a) ≡ f a) → (n : ℕ) (l : List A) →
    map f (over n (map g l) l) ≡ map f l
map_over_map f g h zero l = refl
map_over_map f g h (suc n) [] = refl
map_over_map {B = B} f g h (suc n) (x ∷ l) = ap₂ {C = List B} (λ y r. y ∷ r) (h x) (map_over_map f g h n l)

-- ---- collects

module _ (n : ℕ) where
  laid_past : (r old : Register) → n ≤ length r.view → drop n (laid n r old).view ≡ drop n old.view
  unfolding laid
  laid_past r old l = drop_over n r.view old.view l

  module _ (r : Register) (l : n ≤ length r.view) (i : ℕ) (rs : List Register) where
    read_past : i < n → drop n (read_into n r i rs) ≡ drop n rs
    unfolding read_into
    read_past b = drop-set-lt n rs i (laid n r (get_or rs i no_register)) b

    read_views : values_past n (read_into n r i rs) ≡ values_past n rs
    unfolding read_into
    read_views =
        map-set_same (λ r. drop n r.view) rs i (laid n r (get_or rs i no_register)) no_register
        (laid_past r (get_or rs i no_register) l)

  module _ (eight : n ≤ 8) (rs : List Register) where
    cleared_past : 8 ≤ length rs → drop n (cleared n rs) ≡ drop n rs
    unfolding cleared
    cleared_past l =
        drop_over n (map (laid n zero_register) rs) rs (let q = length-map rs (laid n zero_register) in omega arith)

    cleared_views : values_past n (cleared n rs) ≡ values_past n rs
    unfolding cleared
    cleared_views =
        map_over_map (λ r. drop n r.view) (laid n zero_register)
        (λ r. laid_past zero_register r (omega arith)) n rs

  -- the collects after a read
  module _ (pos : ℕ) (r : Register) (low : place_at n pos < n) (l : n ≤ length r.view) (rs : List Register) where
    first_past : drop n (first_after n pos r rs) ≡ drop n rs
    unfolding first_after
    first_past = go (ltb pos n)
      where
        go : (b : Bool) → drop n (cond b (read_into n r (place_at n pos) rs) rs) ≡ drop n rs
        go true = read_past r l (place_at n pos) rs low
        go false = refl

    first_values : values_past n (first_after n pos r rs) ≡ values_past n rs
    unfolding first_after
    first_values = go (ltb pos n)
      where
        go : (b : Bool) → values_past n (cond b (read_into n r (place_at n pos) rs) rs) ≡ values_past n rs
        go true = read_views r l (place_at n pos) rs
        go false = refl

    second_past : drop n (second_after n pos r rs) ≡ drop n rs
    unfolding second_after
    second_past = go (ltb pos n)
      where
        go : (b : Bool) → drop n (cond b rs (read_into n r (place_at n pos) rs)) ≡ drop n rs
        go true = refl
        go false = read_past r l (place_at n pos) rs low

    second_values : values_past n (second_after n pos r rs) ≡ values_past n rs
    unfolding second_after
    second_values = go (ltb pos n)
      where
        go : (b : Bool) → values_past n (cond b rs (read_into n r (place_at n pos) rs)) ≡ values_past n rs
        go true = refl
        go false = read_views r l (place_at n pos) rs

-- ---- records

module _ (n : ℕ) (eight : n ≤ 8) (p : Process) (w : Whole p) where
  emptied_past : (r : Register) (k : Task) → drop n r.view ≡ drop n p.register.view → SamePast n p (emptied n r k p)
  emptied_past r k q =
      record {
        register = q;
        view = drop_over n (replicate 8 zero_value) p.view (omega arith);
        firsts = cleared_past n eight p.first (omega (arith, w.first.places));
        seconds = cleared_past n eight p.second (omega (arith, w.second.places));
        first_views = cleared_views n eight p.first;
        second_views = cleared_views n eight p.second;
      }

  begin_past : (k : Task) → SamePast n p (begin n k p)
  unfolding begin
  begin_past k = emptied_past p.register k refl

  written_past : (now x at : ℕ) → drop n (written n now x at p).view ≡ drop n p.register.view
  unfolding written
  written_past now x at =
      laid_past n (record { value = stored now x; seq = p.register.seq + 1; view = p.view; at = at }) p.register
      (omega (arith, w.view))

  -- a turn that reads register r
  module _ (o : Order) (z : 0 < n) (now : ℕ) (r : Register) (l : n ≤ length r.view) (page : List ℕ) where
    abbrev Stays : Result Process → Type 0
    Stays x = SamePast n p x.state × (drop (page_places n) x.page ≡ drop (page_places n) page)

    after_read_past : (t : ℕ) (k : Task) (v : List Value) → drop n v ≡ drop n p.view →
        SamePast n p (after_read o n now (position n t) r p k v)
    unfolding after_read
    after_read_past t k v q =
        let pos = position n t in
        let low = place_below n pos (position_low n t z) in
        record {
          register = refl;
          view = q;
          firsts = first_past n pos r low l p.first;
          seconds = second_past n pos r low l p.second;
          first_views = first_values n pos r low l p.first;
          second_views = second_values n pos r low l p.second;
        }

    scan_past : (t : ℕ) (f : Option (Found Value)) → Full n f → Stays (scan_turn o n now r page p t f)
    scan_past t none h = (after_read_past t (Scan (t + 1)) p.view refl, refl)
    scan_past t (some f) h = (
      begin_past Idle,
      drop_over (page_places n) (listed f.words) page (omega (arith, length_listed f.words)),
    )

    update_past : (x t : ℕ) (f : Option (Found Value)) → Full n f → Stays (update_turn o n now r page p x t f)
    update_past x t none h = (after_read_past t (Update x (t + 1)) p.view refl, refl)
    update_past x t (some f) h = (
      after_read_past t (Ready x f.instant (t + 1)) (over n f.words p.view) (drop_over n f.words p.view h),
      refl,
    )

-- ---- days

module _ (o : Order) (s : State Process) (P : Permutes s.day.count o)
    (whole : (i : ℕ) → i < s.day.count → Whole (get_or s.table i no_process)) where
  abbrev n : ℕ
  n = s.day.count

  abbrev at : ℕ → Process
  at i = get_or s.table i no_process

  advance_past : (d : ℕ) (p : Process) → d - 1 < length s.table → SamePast n (at (d - 1)) p → (i : ℕ) →
      SamePast n (at i) (get_or (advance (figure3 o) s d p).table i no_process)
  unfolding advance
  advance_past d p l h i =
      by_cases (ℕ_discrete i (d - 1))
      (λ q.
      subst (λ j. SamePast n (at j) (get_or (set s.table (d - 1) p) j no_process)) (sym q)
      (subst (SamePast n (at (d - 1))) (sym (get_or-set_same s.table (d - 1) p no_process l)) h))
      (λ q. subst (SamePast n (at i)) (sym (get_or-set_other s.table (d - 1) i p no_process q)) (same_past n (at i)))

  call_past : (d : ℕ) (j : Job) → first_cause (call_causes (figure3 o) s d j) ≡ none → (i : ℕ) →
      SamePast n (at i) (get_or (called_by (figure3 o) s d j).table i no_process)
  unfolding called_by
  call_past d j q =
      let a = admitted_call (figure3 o) s d j q in
      let l = a.suited.size in
      let m = a.suited.among in
      advance_past d (begin n (task_of j 0) (at (d - 1))) (omega arith)
      (begin_past n a.suited.small (at (d - 1)) (whole (d - 1) (omega arith)) (task_of j 0))

  turned_past : (i now : ℕ) (page : List ℕ) → i < n → 0 < n → n ≤ 8 →
      let r = turned o n now (read_from (figure3 o) s.table (reads o n (at i).task)).register page (at i) in
      SamePast n (at i) r.state × (drop (page_places n) r.page ≡ drop (page_places n) page)
  unfolding turned
  turned_past i now page b z eight = go (at i).task
    where
      read_long_view : (t : ℕ) → n ≤ length (at (o.register (place_at n (position n t)))).register.view
      read_long_view t =
          let place = place_at n (position n t) in
          let low = P.register_within place (place_below n (position n t) (position_low n t z)) in
          omega (arith, (whole (o.register place) low).register)

      go : (k : Task) →
          let r = turned_with o n now (read_from (figure3 o) s.table (reads o n k)).register page (at i) k in
          SamePast n (at i) r.state × (drop (page_places n) r.page ≡ drop (page_places n) page)
      go Idle = (same_past n (at i), refl)
      go (Scan t) =
          let r = (at (o.register (place_at n (position n t)))).register in
          scan_past n eight (at i) (whole i b) o z now r (read_long_view t) page t (found_by o n now (position n t) r (at i))
          (found_by_full n eight (at i) (whole i b) o P now r (read_long_view t) (position n t))
      go (Update x t) =
          let r = (at (o.register (place_at n (position n t)))).register in
          update_past n eight (at i) (whole i b) o z now r (read_long_view t) page x t (found_by o n now (position n t) r (at i))
          (found_by_full n eight (at i) (whole i b) o P now r (read_long_view t) (position n t))
      go (Ready x t' t) = (
        emptied_past n eight (at i) (whole i b) (written n now x t' (at i)) Idle (written_past n eight (at i) (whole i b) now x t'),
        refl,
      )

  turn_past : (d : ℕ) (page : List ℕ) → first_cause (turn_causes (figure3 o) s d page) ≡ none →
      let r = turn_by (figure3 o) s d page in
      ((i : ℕ) → SamePast n (at i) (get_or (advance (figure3 o) s d r.state).table i no_process))
      × (drop (page_places n) r.page ≡ drop (page_places n) page)
  unfolding turn_by
  turn_past d page q =
      let a = admitted_turn (figure3 o) s d page q in
      let l = a.suited.size in
      let m = a.suited.among in
      let h = turned_past (d - 1) (s.day.event + 1) page (omega arith) a.suited.opened a.suited.small in
      (advance_past d (turn_by (figure3 o) s d page).state (omega arith) h.0, h.1)

-- every accepted item but an opening leaves all that is past n, in every record and in the page list
pub past_n_stays : (o : Order) (s : State Process) (x : Item) → sees x ≢ opening → refusal (figure3 o) s x ≡ none →
    let n = s.day.count in
    let r = accept (figure3 o) s x in
    Permutes n o → ((i : ℕ) → i < n → Whole (get_or s.table i no_process)) →
    ((i : ℕ) → SamePast n (get_or s.table i no_process) (get_or r.state.table i no_process))
    × (drop (page_places n) r.page ≡ drop (page_places n) (page_lent x))
unfolding refusal accept
past_n_stays o s (open_for k) h q P whole = absurd (h refl)
past_n_stays o s (update_call d w) h q P whole = (call_past o s P whole d (update d w) q, refl)
past_n_stays o s (scan_call d) h q P whole = (call_past o s P whole d scan q, refl)
past_n_stays o s (turn_of d page) h q P whole = turn_past o s P whole d page q

-- an open day accepts no opening
not_opening : (o : Order) (s : State Process) (x : Item) → s.day.count ≢ 0 → refusal (figure3 o) s x ≡ none → sees x ≢ opening
unfolding refusal
not_opening o s (open_for k) h q e = h (admitted_opening (figure3 o) s k q)
not_opening o s (update_call d w) h q e = let z : ◌≡◌ {A = ℕ} 0 1 = cc in omega arith
not_opening o s (scan_call d) h q e = let z : ◌≡◌ {A = ℕ} 0 1 = cc in omega arith
not_opening o s (turn_of d page) h q e = let z : ◌≡◌ {A = ℕ} 0 1 = cc in omega arith

-- on a day grown from an opening nothing is asked of the records
pub past_n_stays_grown : (o : Order) (n : ℕ) → Permutes n o → 0 < n → (xs : List Item) (x : Item) →
    let s = grown (figure3 o) (opened_for n) xs in
    let r = accept (figure3 o) s x in
    refusal (figure3 o) s x ≡ none →
    ((i : ℕ) → SamePast n (get_or s.table i no_process) (get_or r.state.table i no_process))
    × (drop (page_places n) r.page ≡ drop (page_places n) (page_lent x))
unfolding Days.opened_for
past_n_stays_grown o n P z xs x q =
    let s = grown (figure3 o) (opened_for n) xs in
    let c : s.day.count ≡ n = grown_count (figure3 o) n z xs in
    subst
    (λ k.
    let r = accept (figure3 o) s x in
    ((i : ℕ) → SamePast k (get_or s.table i no_process) (get_or r.state.table i no_process))
    × (drop (page_places k) r.page ≡ drop (page_places k) (page_lent x)))
    c
    (past_n_stays o s x (not_opening o s x (λ h. omega arith) q) q (subst (λ k. Permutes k o) (sym c) P)
    (λ i b. grown_whole o n P z xs i (subst (λ k. i < k) c b)))
