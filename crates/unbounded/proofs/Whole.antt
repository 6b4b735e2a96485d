-- "A collect has eight rows and a view eight words": calls and turns keep it so, and a page that a turn finds has n values.
use Prim.Native.Nat.{ℕ, ◌+◌, ◌-◌, ◌*◌, ◌≤◌, ◌<◌}
use native.Mathlib.Omega.{arith}
use native.Mathlib.Decide.{ℕ_discrete, dec_lt}
use mathlib.Core.Path.{◌≡◌, refl, sym, ap, ◌∙◌, subst}
use mathlib.Core.Logic.{by_cases}
use mathlib.Core.Bool.{Bool, true, false, cond}
use mathlib.Core.List.{List, map}
use mathlib.Core.Option.{Option, none, some, none-ne-some, some-injective}
use lib.ListN.{length, get_or, replicate, length-map, get_or-replicate}
use lib.Seq.{get_or-set_same, length-take-le}
use lib.Dec.{eqb, ltb}
use borrow.Author.Tests.{ltb-false}
use Rattle.snapshot.specs.declared.Value.{Value}
use Rattle.snapshot.specs.Values.{zero_value, stored, page_places, listed}
use Rattle.snapshot.specs.Lists.{over}
use Rattle.snapshot.specs.Marks.{lends, Found}
use Rattle.snapshot.specs.Verdict.{Verdict, clean, lent, again, verdict}
use Rattle.snapshot.specs.Days as Days
use Rattle.snapshot.specs.Tally.{Job}
use Rattle.snapshot.specs.Days.{State, Item, turn_of, refusal, process_of, read_from, turn_by, accept}
use Rattle.snapshot.specs.declared.Refusal.{Refusal}
use Rattle.snapshot.proofs.Values.{length_listed}
use Rattle.snapshot.proofs.Lists.{length_over, get_d_over, get_d_over_past, get_d_map_below}
use Rattle.snapshot.proofs.DoubleCollect.{Ends, lender, verdict_ends}
use Rattle.snapshot.proofs.Admitted.{admitted_turn}
use Rattle.snapshot.proofs.Stepped.{refusal_changes_nothing, acceptance_does}
use Rattle.snapshot.proofs.Stepped.{grown, Holding, step_holds, opened_holds, grown_keeps}
use Rattle.unbounded.specs.declared.Register.{Register}
use Rattle.unbounded.specs.declared.Process.{Process}
use Rattle.unbounded.specs.declared.Task.{Task}
use Rattle.unbounded.specs.declared.Task.TheVariants.{Idle, Scan, Update, Ready}
use Rattle.unbounded.specs.Registers.{no_register, zero_register, laid, read_into, cleared, Order, collected_at, differs}
use Rattle.unbounded.specs.Processes.{is_idle, task_of, no_process, zero_process, emptied, begin}
use Rattle.unbounded.specs.Turns.{position, place_at, reads, first_after, second_after, end_after, decision, found}
use Rattle.unbounded.specs.Turns.{after_read, found_by, scan_turn, update_turn, written, turned, turned_with}
use Rattle.unbounded.specs.Days.{figure3, opened_for}
use Rattle.unbounded.proofs.Places.{page_of_long, length_read_into, read_into_other}
use Rattle.unbounded.proofs.Reading.{position_low, place_below, length_cleared}
use Rattle.unbounded.proofs.Scans.{Permutes}

-- a collect of eight registers, each with a view of eight values
pub record WholeCollect (rs : List Register) : Type 0 where
  pub places : length rs ≡ 8
  pub views : (i : ℕ) → i < 8 → length (get_or rs i no_register).view ≡ 8

-- every array of a record has its eight places, as in every record that code can lend
pub record Whole (p : Process) : Type 0 where
  pub register : length p.register.view ≡ 8
  pub view : length p.view ≡ 8
  pub first : WholeCollect p.first
  pub second : WholeCollect p.second

-- ---- collects

module _ (n : ℕ) (eight : n ≤ 8) where
  length_over_eight : {A : Type 0} (a b : List A) → n ≤ length a → length b ≡ 8 → length (over n a b) ≡ 8
  length_over_eight a b l m = length_over n a b (length-take-le n a l) (omega arith) ∙ m

  pub laid_eight : (r old : Register) → n ≤ length r.view → length old.view ≡ 8 → length (laid n r old).view ≡ 8
  unfolding laid
  laid_eight r old l m = length_over_eight r.view old.view l m

  module _ (rs : List Register) (c : WholeCollect rs) where
    whole_cleared : WholeCollect (cleared n rs)
    unfolding cleared
    whole_cleared =
        let zeros = map (laid n zero_register) rs in
        let size = c.places in
        let long : n ≤ length zeros = (let q = length-map rs (laid n zero_register) in omega arith) in
        record {
          places = length_cleared n rs (omega arith) ∙ size;
          views = λ i b. by_cases (dec_lt i n)
              (λ m.
              ap (λ r. length r.view)
              (get_d_over n zeros rs i no_register (length-take-le n zeros long) m
              ∙ get_d_map_below (laid n zero_register) rs i no_register no_register (omega arith))
              ∙ laid_eight zero_register (get_or rs i no_register) (omega arith) (c.views i b))
              (λ m. ap (λ r. length r.view) (get_d_over_past n zeros rs i no_register long (omega arith)) ∙ c.views i b);
        }

    module _ (r : Register) (l : n ≤ length r.view) where
      pub whole_read : (i : ℕ) → WholeCollect (read_into n r i rs)
      unfolding read_into
      whole_read i =
          let old = get_or rs i no_register in
          let size = c.places in
          record {
            places = length_read_into n r i rs ∙ size;
            views = λ k b. by_cases (ℕ_discrete k i)
                (λ q.
                ap (λ j. length (get_or (read_into n r i rs) j no_register).view) q
                ∙ ap (λ x. length x.view) (get_or-set_same rs i (laid n r old) no_register (omega arith))
                ∙ laid_eight r old l (c.views i (omega arith)))
                (λ q. ap (λ x. length x.view) (read_into_other n r i rs k q) ∙ c.views k b);
          }

      whole_first : (pos : ℕ) → WholeCollect (first_after n pos r rs)
      unfolding first_after
      whole_first pos = go (ltb pos n)
        where
          go : (b : Bool) → WholeCollect (cond b (read_into n r (place_at n pos) rs) rs)
          go true = whole_read (place_at n pos)
          go false = c

      whole_second : (pos : ℕ) → WholeCollect (second_after n pos r rs)
      unfolding second_after
      whole_second pos = go (ltb pos n)
        where
          go : (b : Bool) → WholeCollect (cond b rs (read_into n r (place_at n pos) rs))
          go true = c
          go false = whole_read (place_at n pos)

-- ---- a page that was found has n values

abbrev pub Full : ℕ → Option (Found Value) → Type 0
Full n none = Unit {0}
Full n (some f) = n ≤ length f.words

lender_below : (n : ℕ) (moved lends : ℕ → Bool) {j : ℕ} → Ends n moved lends (lent j) → j < n
lender_below n moved lends (lender j l m h) = l

module _ (o : Order) (n : ℕ) where
  decision_below : (p : ℕ) (a b : List Register) (ms : List Bool) (j : ℕ) → decision o n p a b ms ≡ some (lent j) → j < n
  unfolding decision
  decision_below p a b ms j = go (eqb (p + 1) (2 * n))
    where
      go : (c : Bool) → cond c (some (verdict n (differs o a b) (lends (differs o a b) ms))) none ≡ some (lent j) → j < n
      go true q =
          lender_below n (differs o a b) (lends (differs o a b) ms)
          (subst (Ends n (differs o a b) (lends (differs o a b) ms))
          (some-injective (verdict n (differs o a b) (lends (differs o a b) ms)) (lent j) q)
          (verdict_ends n (differs o a b) (lends (differs o a b) ms)))
      go false q = absurd (none-ne-some (lent j) q)

  found_full : (b : List Register) (end : ℕ) → ((j : ℕ) → j < n → n ≤ length (collected_at o b j).view) →
      (v : Option Verdict) → ((j : ℕ) → v ≡ some (lent j) → j < n) → Full n (found o n b end v)
  found_full b end long none h = tt
  found_full b end long (some clean) h = omega (arith, page_of_long o n b)
  found_full b end long (some (lent j)) h =
      omega (arith, length-take-le n (collected_at o b j).view (long j (h j refl)))
  found_full b end long (some again) h = tt

-- ---- records

module _ (n : ℕ) (eight : n ≤ 8) (p : Process) (w : Whole p) where
  whole_emptied : (r : Register) (k : Task) → length r.view ≡ 8 → Whole (emptied n r k p)
  whole_emptied r k q =
      record {
        register = q;
        view = length_over_eight n eight (replicate 8 zero_value) p.view (omega arith) w.view;
        first = whole_cleared n eight p.first w.first;
        second = whole_cleared n eight p.second w.second;
      }

  pub whole_begin : (k : Task) → Whole (begin n k p)
  unfolding begin
  whole_begin k = whole_emptied p.register k w.register

  whole_written : (now x at : ℕ) → length (written n now x at p).view ≡ 8
  unfolding written
  whole_written now x at =
      laid_eight n eight (record { value = stored now x; seq = p.register.seq + 1; view = p.view; at = at }) p.register
      (omega (arith, w.view)) w.register

  module _ (o : Order) (P : Permutes n o) (now : ℕ) (r : Register) where
    pub found_by_full : n ≤ length r.view → (pos : ℕ) → Full n (found_by o n now pos r p)
    unfolding found_by
    found_by_full l pos =
        let a = first_after n pos r p.first in
        let b = second_after n pos r p.second in
        found_full o n b (end_after n pos now p.first_end)
        (λ j m.
        let m' = P.place_within j m in
        omega (arith, (whole_second n eight p.second w.second r l pos).views (o.place j) (omega arith)))
        (decision o n pos a b p.moved) (decision_below o n pos a b p.moved)

    whole_after_read : n ≤ length r.view → (pos : ℕ) (k : Task) (v : List Value) → length v ≡ 8 →
        Whole (after_read o n now pos r p k v)
    unfolding after_read
    whole_after_read l pos k v q =
        record {
          register = w.register;
          view = q;
          first = whole_first n eight p.first w.first r l pos;
          second = whole_second n eight p.second w.second r l pos;
        }

    -- a turn that reads register r, if it reads one
    module _ (page : List ℕ) where
      scan_whole : n ≤ length r.view → (t : ℕ) (f : Option (Found Value)) → Whole (scan_turn o n now r page p t f).state
      scan_whole l t none = whole_after_read l (position n t) (Scan (t + 1)) p.view w.view
      scan_whole l t (some f) = whole_begin Idle

      update_whole : n ≤ length r.view → (x t : ℕ) (f : Option (Found Value)) → Full n f →
          Whole (update_turn o n now r page p x t f).state
      update_whole l x t none h = whole_after_read l (position n t) (Update x (t + 1)) p.view w.view
      update_whole l x t (some f) h =
          whole_after_read l (position n t) (Ready x f.instant (t + 1)) (over n f.words p.view)
          (length_over_eight n eight f.words p.view h w.view)

      pub whole_turned : ((j : ℕ) → reads o n p.task ≡ some j → n ≤ length r.view) → Whole (turned o n now r page p).state
      unfolding turned
      whole_turned = go p.task
        where
          go : (k : Task) → ((j : ℕ) → reads o n k ≡ some j → n ≤ length r.view) → Whole (turned_with o n now r page p k).state
          go Idle l = w
          go (Scan t) l =
              scan_whole (l (o.register (place_at n (position n t))) refl) t (found_by o n now (position n t) r p)
          go (Update x t) l =
              let m = l (o.register (place_at n (position n t))) refl in
              update_whole m x t (found_by o n now (position n t) r p) (found_by_full m (position n t))
          go (Ready x at t) l = whole_emptied (written n now x at p) Idle (whole_written now x at)

zero_whole : Whole zero_process
zero_whole =
    let c : WholeCollect (replicate 8 zero_register)
    = record { places = refl; views = λ i b. ap (λ r. length r.view) (get_or-replicate 8 i zero_register no_register b) } in
    record { register = refl; view = refl; first = c; second = c }

-- ---- days

-- a turn reads a register of the table
pub reads_within : (o : Order) (n : ℕ) → Permutes n o → 0 < n → (k : Task) (j : ℕ) → reads o n k ≡ some j → j < n
reads_within o n P z Idle j q = absurd (none-ne-some j q)
reads_within o n P z (Scan t) j q =
    subst (λ i. i < n) (some-injective (o.register (place_at n (position n t))) j q)
    (P.register_within (place_at n (position n t)) (place_below n (position n t) (position_low n t z)))
reads_within o n P z (Update x t) j q =
    subst (λ i. i < n) (some-injective (o.register (place_at n (position n t))) j q)
    (P.register_within (place_at n (position n t)) (place_below n (position n t) (position_low n t z)))
reads_within o n P z (Ready x at t) j q = absurd (none-ne-some j q)

module _ (o : Order) (n : ℕ) (P : Permutes n o) (z : 0 < n) where
  pub calls_whole : (j : Job) (p : Process) → n ≤ 8 → Whole p → Whole ((figure3 o).called n j p)
  calls_whole j p l w = whole_begin n l p w (task_of j 0)

  pub turns_whole : (i now : ℕ) (other : Process) (page : List ℕ) (p : Process) → n ≤ 8 → is_idle p.task ≡ false →
      ((j : ℕ) → reads o n p.task ≡ some j → j < n → Whole other) → Whole p →
      Whole ((figure3 o).turned n i now other page p).state
  turns_whole i now other page p l busy read w =
      whole_turned n l p w o P now other.register page
      (λ j q. omega (arith, (read j q (reads_within o n P z p.task j q)).register))

  -- a day for n processes, every record of which is whole
  abbrev pub WholeDay : State Process → Type 0
  WholeDay = Holding (figure3 o) n z Whole calls_whole turns_whole

  pub opened_whole : WholeDay (opened_for n)
  unfolding Days.opened_for
  opened_whole = opened_holds (figure3 o) n z Whole calls_whole turns_whole zero_whole

  pub stepped_whole : (s : State Process) (x : Item) → WholeDay s → WholeDay (Days.stepped (figure3 o) s x).state
  stepped_whole = step_holds (figure3 o) n z Whole calls_whole turns_whole

  -- every record of a day grown from an opening is whole
  pub grown_whole : (xs : List Item) (i : ℕ) → i < n → Whole (get_or (grown (figure3 o) (opened_for n) xs).table i no_process)
  unfolding Days.opened_for
  grown_whole = grown_keeps (figure3 o) n z Whole calls_whole turns_whole zero_whole

  -- ---- a turn leaves its page list as long as it was

  turned_long : (now : ℕ) (r : Register) (page : List ℕ) (p : Process) → n ≤ 8 → Whole p → page_places n ≤ length page →
      ((j : ℕ) → reads o n p.task ≡ some j → n ≤ length r.view) → length (turned o n now r page p).page ≡ length page
  unfolding turned
  turned_long now r page p l w m = go p.task
    where
      scan_long : (t : ℕ) (f : Option (Found Value)) → Full n f → length (scan_turn o n now r page p t f).page ≡ length page
      scan_long t none h = refl
      scan_long t (some f) h =
          length_over (page_places n) (listed f.words) page
          (length-take-le (page_places n) (listed f.words) (omega (arith, length_listed f.words))) m

      update_long : (x t : ℕ) (f : Option (Found Value)) → length (update_turn o n now r page p x t f).page ≡ length page
      update_long x t none = refl
      update_long x t (some f) = refl

      go : (k : Task) → ((j : ℕ) → reads o n k ≡ some j → n ≤ length r.view) →
          length (turned_with o n now r page p k).page ≡ length page
      go Idle h = refl
      go (Scan t) h =
          scan_long t (found_by o n now (position n t) r p)
          (found_by_full n l p w o P now r (h (o.register (place_at n (position n t))) refl) (position n t))
      go (Update x t) h = update_long x t (found_by o n now (position n t) r p)
      go (Ready x at t) h = refl

  accepted_long : (s : State Process) (d : ℕ) (page : List ℕ) → WholeDay s → refusal (figure3 o) s (turn_of d page) ≡ none →
      length (accept (figure3 o) s (turn_of d page)).page ≡ length page
  unfolding refusal accept turn_by
  accepted_long s d page g q =
      let a = admitted_turn (figure3 o) s d page q in
      let c = g.count in
      let p = process_of (figure3 o) s d in
      let read : ℕ → Process = λ k. read_from (figure3 o) s.table (reads o k p.task) in
      let among = a.suited.among in
      let room = ltb-false (length page) (page_places s.day.count) a.suited.long in
      let small : n ≤ 8 = subst (λ k. k ≤ 8) c a.suited.small in
      subst (λ k. length (turned o k (s.day.event + 1) (read k).register page p).page ≡ length page) (sym c)
      (turned_long (s.day.event + 1) (read n).register page p small (g.kept (d - 1) (omega (arith, among, c)))
      (omega (arith, room, c)) (λ j e.
      let view = (g.kept j (reads_within o n P z p.task j e)).register in
      let same : length (read n).register.view ≡ 8 =
      ap (λ k. length (read_from (figure3 o) s.table k).register.view) e ∙ view in
      omega (arith, same, small)))

  pub turn_page_long : (s : State Process) (d : ℕ) (page : List ℕ) → WholeDay s →
      length (Days.stepped (figure3 o) s (turn_of d page)).page ≡ length page
  turn_page_long s d page g = go (refusal (figure3 o) s (turn_of d page)) refl
    where
      go : (k : Option Refusal) → refusal (figure3 o) s (turn_of d page) ≡ k →
          length (Days.stepped (figure3 o) s (turn_of d page)).page ≡ length page
      go none q = ap (λ r. length r.page) (acceptance_does (figure3 o) s (turn_of d page) q) ∙ accepted_long s d page g q
      go (some k) q = ap (λ r. length r.page) (refusal_changes_nothing (figure3 o) s (turn_of d page) k q)
