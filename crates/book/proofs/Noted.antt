-- What the code notes of a day file is its book (`noted_count`, `noted_book`): a place is put where its operation is placed, and
-- the word kept for a process is that of its open update.
use Prim.Native.Nat.{ℕ, suc, ◌+◌, ◌-◌, ◌≤◌, ◌<◌}
use native.Mathlib.Omega.{arith}
use native.Mathlib.Decide.{ℕ_discrete}
use mathlib.Core.Path.{◌≡◌, refl, sym, ap, ap₂, ◌∙◌, subst}
use mathlib.Core.Logic.{◌≢◌, by_cases}
use mathlib.Core.Bool.{Bool, true, false, cond}
use mathlib.Core.List.{List, [], ◌∷◌, ◌++◌, map}
use mathlib.Core.Option
use mathlib.Core.Option.{Option, none, some, none-ne-some, some-injective}
use lib.Dec.{leb}
use lib.ListN.{length, get_or, set, drop, length-map, length-drop, length-set, length-replicate, get_or-replicate}
use lib.Seq.{drop-drop, get_or-set_same, get_or-set_other}
use Rattle.snapshot.specs.declared.Value.{Value}
use Rattle.snapshot.specs.Values.{zero_value, stored, paired}
use Rattle.snapshot.specs.Lists.{Pairs, place, places}
use Rattle.snapshot.specs.Tally.{Job, scan, update, Seen, Call, Tally, started, call_of, advanced, opens, gains, puts, puts_if, tallied}
use Rattle.snapshot.specs.Demand.{Among, PageFits, WrittenFits, IsUpdate, Waiting}
use Rattle.snapshot.specs.Refusals.{outside}
use Rattle.snapshot.specs.Days.{sees}
use Rattle.snapshot.specs.Book.{Operation, operations, finished_by, tally_after, finished}
use Rattle.snapshot.specs.declared.Answer.{Answer}
use Rattle.snapshot.specs.declared.Answer.TheVariants.{Refused, Opened, Called, Read, Page, Written}
use Rattle.snapshot.specs.declared.Request.{Request}
use Rattle.snapshot.specs.declared.Request.TheVariants.{Open, Update, Scan, Turn}
use Rattle.snapshot.proofs.Values.{words_paired}
use Rattle.snapshot.proofs.Placing.{up_place, map_place, places_append}
use Rattle.snapshot.proofs.Booked.{Sane, sane_advanced, call_own, call_other}
use Rattle.snapshot.proofs.Follows.{Tells, Follows}
use Rattle.requests.specs.Requests.{item_of}
use Rattle.unbounded.specs.Days.{most_turns}
use Rattle.dayfile.specs.Files.{readings}
use Rattle.dayfile.specs.declared.Reading.{Reading}
use Rattle.dayfile.specs.declared.Reading.TheVariants.{Found, End, Refused as Broken}
use Rattle.days.specs.Happenings.{Box, blank_box, box_after, happening_in, happenings, day_of, records_in}
use Rattle.places.specs.Places.{eight, put_in}
use Rattle.places.specs.Answers.{word_of, words_with, words_after, count_after, book_after}
use Rattle.places.proofs.Placed.{first, Up, put_placed}
use Rattle.places.proofs.Kept.{a_process}
use Rattle.book.specs.DayBooks.{heard_of, processes_in, start_of, end_of, book_in}
use Rattle.book.specs.Places.{kind_of, words_of, place_of}
use Rattle.book.specs.Passes.{Noted, note_of, notes, blank_noted}
use Rattle.book.proofs.DayFollows.{Numbered, day_follows, day_numbered, processes_few}

-- ---- the place of an operation

-- an operation is placed, and its place put
put_operation : (o : Operation) (b : List Operation) (before : List (List ℕ)) → Pairs Up (map place_of b) → length b < length before →
    put_in (place_of o) (length b) (map place_of b ++ drop (length b) before)
    ≡ map place_of (place (λ x. x.number) o b) ++ drop (length b + 1) before
put_operation o b before up l =
    ap (λ k. put_in (place_of o) k (map place_of b ++ drop (length b) before)) (sym (length-map b place_of))
    ∙ put_placed (place_of o) (map place_of b) (drop (length b) before) up (simp length-drop (omega (arith, l)))
    ∙ ap₂ {C = List (List ℕ)} (λ x y. x ++ y) (sym (map_place place_of first o b)) (drop-drop 1 (length b) before)

length_place : {A : Type 0} (number : A → ℕ) (x : A) (l : List A) → length (place number x l) ≡ length l + 1
length_place number x [] = refl
length_place number x (y ∷ l) = go (leb (number y) (number x)) (length_place number x l)
  where
    go : (b : Bool) → length (place number x l) ≡ length l + 1 → length (cond b (y ∷ place number x l) (x ∷ y ∷ l)) ≡ suc (length l) + 1
    go true e = omega (arith, e)
    go false e = omega arith

-- ---- the words that are kept

module _ (words : List ℕ) (long : length words ≡ 8) (d w : ℕ) (low : 1 ≤ d) (high : d ≤ 8) where
  kept_own : word_of (words_with words d w) d ≡ w
  kept_own =
      ap (λ b. cond b 0 (get_or (words_with words d w) (d - 1) 0)) (a_process d low high)
      ∙ ap (λ b. get_or (cond b words (set words (d - 1) w)) (d - 1) 0) (a_process d low high)
      ∙ get_or-set_same words (d - 1) w 0 (omega (arith, long, low, high))

  kept_other : (j : ℕ) → 1 ≤ j → j ≢ d → word_of (words_with words d w) j ≡ word_of words j
  kept_other j l q =
      ap (λ b. word_of (cond b words (set words (d - 1) w)) j) (a_process d low high)
      ∙ ap (λ v. cond (outside 1 8 j) 0 v) (get_or-set_other words (d - 1) (j - 1) w 0 (λ e. q (omega (arith, e, l, low))))

  with_long : length (words_with words d w) ≡ 8
  with_long = ap (λ b. length (cond b words (set words (d - 1) w))) (a_process d low high) ∙ length-set words (d - 1) w ∙ long

-- ---- what is noted is the book so far

abbrev word_in : Job → ℕ
word_in scan = 0
word_in (update k w) = w

module _ (n : ℕ) (few : n ≤ 8) (before : List (List ℕ)) where
  record Tied (t : Tally Value) (b : List Operation) (s : Noted) : Type 0 where
    sane : Sane n t
    count : s.count ≡ length b
    ascending : Pairs Up (map place_of b)
    filled : length b ≤ length before → s.book ≡ map place_of b ++ drop (length b) before
    long : length s.words ≡ 8
    kept : (d : ℕ) (c : Call) (k w : ℕ) → Among n d → call_of t d ≡ some c → c.job ≡ update k w → word_of s.words d ≡ w

  -- an operation more
  module _ {t : Tally Value} {b : List Operation} {s : Noted} (i : Tied t b s) (ws : List Value) (d : ℕ) (m : Among n d) (o : Operation) where
    answered_tied : Tied (advanced t ws d none) (place (λ x. x.number) o b)
        (record { words = s.words; count = s.count + 1; book = put_in (place_of o) s.count s.book })
    answered_tied =
        record {
          sane = sane_advanced i.sane ws d m none;
          count = ap (λ k. k + 1) i.count ∙ sym (length_place (λ x. x.number) o b);
          ascending = subst (Pairs Up) (sym (map_place place_of first o b)) (up_place first (place_of o) (map place_of b) i.ascending);
          filled = λ l. let l' = subst (λ k. k ≤ length before) (length_place (λ x. x.number) o b) l in
              ap₂ (put_in (place_of o)) i.count (i.filled (omega (arith, l')))
              ∙ put_operation o b before i.ascending (omega (arith, l'))
              ∙ ap (λ k. map place_of (place (λ x. x.number) o b) ++ drop k before) (sym (length_place (λ x. x.number) o b));
          long = i.long;
          kept = λ j c k w a q u. by_cases (ℕ_discrete j d)
              (λ e. absurd (none-ne-some c (sym (call_own i.sane ws d m none) ∙ ap (call_of (advanced t ws d none)) (sym e) ∙ q)))
              (λ e. i.kept j c k w a (sym (call_other i.sane ws d m none j a e) ∙ q) u);
        }

  -- a call, or a turn that goes on
  module _ {t : Tally Value} {b : List Operation} {s : Noted} (i : Tied t b s) (d : ℕ) (m : Among n d) (o : Option Call) (words : List ℕ)
      (long : length words ≡ 8) where
    event_tied : ((c : Call) (k w : ℕ) → o ≡ some c → c.job ≡ update k w → word_of words d ≡ w) →
        ((j : ℕ) → Among n j → j ≢ d → word_of words j ≡ word_of s.words j) →
        Tied (advanced t t.words d o) b (record { words = words; count = s.count; book = s.book })
    event_tied own others =
        record {
          sane = sane_advanced i.sane t.words d m o;
          count = i.count;
          ascending = i.ascending;
          filled = i.filled;
          long = long;
          kept = λ j c k w a q u. by_cases (ℕ_discrete j d)
              (λ e. ap (word_of words) e
              ∙ own c k w (sym (call_own i.sane t.words d m o) ∙ ap (call_of (advanced t t.words d o)) (sym e) ∙ q) u)
              (λ e. others j a e ∙ i.kept j c k w a (sym (call_other i.sane t.words d m o j a e) ∙ q) u);
        }

  -- ---- a record and its answer

  abbrev noted_with : Noted → Request → (e : ℕ) → (shown : List ℕ) → Answer → Noted
  noted_with s r e shown a =
      record {
        words = words_after s.words r a;
        count = count_after s.count a;
        book = book_after s.words s.count r e shown s.book a;
      }

  -- the tally and the book after it
  abbrev tally_with : Tally Value → Seen → Answer → Tally Value
  tally_with t x a = tallied stored t x a

  abbrev book_with_lem : Tally Value → List Operation → Seen → List Value → Answer → List Operation
  book_with_lem t b x shown a = places (λ o. o.number) (finished_by (λ v. v.word) t x shown a) b

  module _ {t : Tally Value} {b : List Operation} {s : Noted} (i : Tied t b s) (e : ℕ) (words lasts : List ℕ) where
    abbrev shown : List Value
    shown = paired words lasts

    abbrev TiedWith : Request → Answer → Type 0
    TiedWith r a =
        let x = sees (item_of words r) in
        Tells n (most_turns n) stored t x shown a → e ≡ (tally_with t x a).event →
        Tied (tally_with t x a) (book_with_lem t b x shown a) (noted_with s r e words a)

    no_update : {j : Job} {k w : ℕ} → j ≡ scan → j ≡ update k w → ⊥
    no_update p q = subst IsUpdate (sym q ∙ p) tt

    called_tied : (r : Request) → TiedWith r Called
    unfolding words_after count_after book_after
    called_tied (Open k) f q = absurd f
    called_tied (Update d w) f q =
        let m = f.0 in
        let high : d ≤ 8 = omega (arith, m, few) in
        event_tied i d m (some (opens (suc t.event) (update d w))) (words_with s.words d w)
        (with_long s.words i.long d w m.0 high)
        (λ c k v p u. kept_own s.words i.long d w m.0 high
        ∙ update_word (ap (λ z. z.job) (some-injective (opens (suc t.event) (update d w)) c p) ∙ u))
        (λ j a p. kept_other s.words i.long d w m.0 high j a.0 p)
      where
        update_word : {k v : ℕ} → update d w ≡ update k v → w ≡ v
        update_word p = ap word_in p
    called_tied (Scan d) f q =
        event_tied i d f.0 (some (opens (suc t.event) scan)) s.words i.long
        (λ c k v p u. absurd (no_update (ap (λ z. z.job) (sym (some-injective (opens (suc t.event) scan) c p))) u)) (λ j a p. refl)
    called_tied (Turn d) f q = absurd f

    read_tied : (d : ℕ) (c : Option Call) → call_of t d ≡ c → Among n d → Waiting c →
        Tied (advanced t t.words d (Option.map gains c)) b s
    read_tied d none q m w = absurd w
    read_tied d (some c) q m w =
        event_tied i d m (some (gains c)) s.words i.long
        (λ x k v p u. i.kept d c k v m q (ap (λ z. z.job) (some-injective (gains c) x p) ∙ u)) (λ j a p. refl)

    page_tied : (d at turns : ℕ) (c : Option Call) → call_of t d ≡ c → Among n d → PageFits (most_turns n) t at turns shown c →
        Tied (advanced t t.words d none) (places (λ o. o.number) (operations d (map (λ v. v.word) shown) at (suc t.event) c) b)
        (record { words = s.words; count = s.count + 1; book = put_in (at ∷ 3 ∷ d ∷ eight words) s.count s.book })
    page_tied d at turns none q m f = absurd f
    page_tied d at turns (some c) q m f =
        let e = suc t.event in
        let o : Operation =
        record { process = d; job = c.job; words = map (λ v. v.word) shown; called = c.number; number = at; answered = e } in
        subst (λ p. Tied (advanced t t.words d none) (place (λ o. o.number) o b)
        (record { words = s.words; count = s.count + 1; book = put_in p s.count s.book }))
        (ap (λ j. at ∷ kind_of j ∷ d ∷ eight (words_of (map (λ v. v.word) shown) j)) f.0
        ∙ ap (λ ws. at ∷ 3 ∷ d ∷ eight ws) (words_paired words lasts))
        (answered_tied i t.words d m o)

    written_tied : (d turns : ℕ) (c : Option Call) → call_of t d ≡ c → Among n d → WrittenFits (most_turns n) turns c → e ≡ suc t.event →
        Tied (advanced t (puts_if (stored (suc t.event)) t.words c) d none) (places (λ o. o.number) (operations d [] (suc t.event) (suc t.event) c) b)
        (record { words = s.words; count = s.count + 1; book = put_in (e ∷ 2 ∷ d ∷ eight (word_of s.words d ∷ [])) s.count s.book })
    written_tied d turns none q m f now = absurd f
    written_tied d turns (some c) q m f now = go c.job refl f.0
      where
        o : Operation
        o = record { process = d; job = c.job; words = []; called = c.number; number = suc t.event; answered = suc t.event }

        go : (j : Job) → c.job ≡ j → IsUpdate j → Tied (advanced t (puts (stored (suc t.event)) t.words c.job) d none) (place (λ o. o.number) o b)
            (record { words = s.words; count = s.count + 1; book = put_in (e ∷ 2 ∷ d ∷ eight (word_of s.words d ∷ [])) s.count s.book })
        go scan u g = absurd g
        go (update k w) u g =
            subst (λ p. Tied (advanced t (puts (stored (suc t.event)) t.words c.job) d none) (place (λ o. o.number) o b)
            (record { words = s.words; count = s.count + 1; book = put_in p s.count s.book }))
            (ap (λ j. suc t.event ∷ kind_of j ∷ d ∷ eight (words_of [] j)) u
            ∙ ap₂ {C = List ℕ} (λ k w. k ∷ 2 ∷ d ∷ eight (w ∷ [])) (sym now) (sym (i.kept d c k w m q u)))
            (answered_tied i (puts (stored (suc t.event)) t.words c.job) d m o)

    record_tied : (r : Request) (a : Answer) → TiedWith r a
    unfolding words_after count_after book_after
    record_tied r (Refused k) f q = i
    record_tied r Opened f q = i
    record_tied r Called f q = called_tied r f q
    record_tied (Open k) Read f q = absurd f
    record_tied (Update d w) Read f q = absurd f
    record_tied (Scan d) Read f q = absurd f
    record_tied (Turn d) Read f q = read_tied d (call_of t d) refl f.0 f.1
    record_tied (Open k) (Page lender at turns) f q = absurd f
    record_tied (Update d w) (Page lender at turns) f q = absurd f
    record_tied (Scan d) (Page lender at turns) f q = absurd f
    record_tied (Turn d) (Page lender at turns) f q = page_tied d at turns (call_of t d) refl f.0 f.1
    record_tied (Open k) (Written turns) f q = absurd f
    record_tied (Update d w) (Written turns) f q = absurd f
    record_tied (Scan d) (Written turns) f q = absurd f
    record_tied (Turn d) (Written turns) f q = written_tied d turns (call_of t d) refl f.0 f.1 q

  -- ---- the whole file

  file_tied : (xs : List Reading) (x : Box) (t : Tally Value) (b : List Operation) (s : Noted) → Tied t b s →
      let hs = records_in (happenings x xs) in
      Follows n (most_turns n) stored t (map heard_of hs) → Numbered t hs →
      Tied (tally_after stored t (map heard_of hs)) (places (λ o. o.number) (finished stored (λ v. v.word) t (map heard_of hs)) b)
      (notes s (happenings x xs))
  unfolding words_after count_after book_after
  file_tied [] x t b s i f q = i
  file_tied (End ∷ xs) x t b s i f q = file_tied xs (box_after x End) t b s i f q
  file_tied (Broken k ∷ xs) x t b s i f q = file_tied xs (box_after x (Broken k)) t b s i f q
  file_tied (Found r next ∷ xs) x t b s i f q =
      let h = happening_in x (Found r next) in
      let y = sees (item_of h.words r) in
      let a = h.outcome.answer in
      let u = tally_with t y a in
      let hs = map heard_of (records_in (happenings (box_after x (Found r next)) xs)) in
      subst (λ z. Tied (tally_after stored u hs) z (notes (note_of s h) (happenings (box_after x (Found r next)) xs)))
      (sym (places_append (λ o. o.number) (finished_by (λ v. v.word) t y (heard_of h).shown a) (finished stored (λ v. v.word) u hs) b))
      (file_tied xs (box_after x (Found r next)) u (book_with_lem t b y (heard_of h).shown a) (note_of s h)
      (record_tied i h.outcome.day.event h.words h.lasts r a f.0 q.0) f.1 q.1)

  first_tied : Tied (started n n zero_value) [] (blank_noted before)
  first_tied =
      record {
        sane = record { calls = length-replicate n none; instants = refl; now = refl };
        count = refl;
        ascending = tt;
        filled = λ l. refl;
        long = refl;
        kept = λ d c k w m q u. absurd (none-ne-some c (sym (get_or-replicate n (d - 1) none none (omega (arith, m))) ∙ q));
      }

-- what a pass over a day file notes
day_tied : (bs : List ℕ) (before : List (List ℕ)) →
    Tied (processes_in bs) (processes_few bs) before (end_of bs) (book_in bs) (notes (blank_noted before) (day_of bs))
unfolding day_of book_in
day_tied bs before =
    file_tied (processes_in bs) (processes_few bs) before (readings bs) blank_box (start_of bs) [] (blank_noted before)
    (first_tied (processes_in bs) (processes_few bs) before) (day_follows bs) (day_numbered bs)

pub noted_count : (bs : List ℕ) (before : List (List ℕ)) → (notes (blank_noted before) (day_of bs)).count ≡ length (book_in bs)
noted_count bs before = (day_tied bs before).count

pub noted_book : (bs : List ℕ) (before : List (List ℕ)) → length (book_in bs) ≤ length before →
    (notes (blank_noted before) (day_of bs)).book ≡ map place_of (book_in bs) ++ drop (length (book_in bs)) before
noted_book bs before l = (day_tied bs before).filled l
