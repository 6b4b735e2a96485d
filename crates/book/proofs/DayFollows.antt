-- What is heard of a day file follows the tally: the records before the day's opening are refused, and after it demand 3 holds.
use Prim.Native.Nat.{ℕ, ◌≤◌, ◌<◌}
use native.Mathlib.Omega.{arith}
use mathlib.Core.Path.{◌≡◌, refl, sym, ap, ◌∙◌, subst}
use mathlib.Core.Bool.{not}
use mathlib.Core.List.{List, [], ◌∷◌, map}
use mathlib.Core.Option.{Option, none, some}
use lib.Dec.{T}
use lib.ListN.{length, take}
use Rattle.snapshot.specs.declared.Value.{Value}
use Rattle.snapshot.specs.Values.{zero_value, stored, page_places, words_in, lasts_in, paired, values_in}
use Rattle.snapshot.specs.Tally.{Job, scan, update, Seen, call, Tally, started, tallied}
use Rattle.snapshot.specs.Demand.{Holds}
use Rattle.snapshot.specs.Days as Days
use Rattle.snapshot.specs.Days.{Item, open_for, sees, accept}
use Rattle.snapshot.specs.Book.{Heard}
use Rattle.snapshot.specs.declared.Refusal.{Refusal}
use Rattle.snapshot.specs.declared.Refusal.TheVariants.{OpenState}
use Rattle.snapshot.specs.declared.Request.{Request}
use Rattle.snapshot.specs.declared.Request.TheVariants.{Open, Update, Scan, Turn}
use Rattle.snapshot.specs.declared.Answer.{Answer}
use Rattle.snapshot.specs.declared.Answer.TheVariants as Answers
use Rattle.snapshot.proofs.Values.{values_in_front}
use Rattle.snapshot.proofs.Stepped.{stepped_is_step, acceptance_does}
use Rattle.snapshot.proofs.Follows.{Tells, Follows, holds_follows}
use Rattle.dayfile.specs.Files.{readings}
use Rattle.dayfile.specs.declared.Reading.{Reading}
use Rattle.dayfile.specs.declared.Reading.TheVariants.{Found, End, Refused}
use Rattle.unbounded.specs.Registers.{ascending}
use Rattle.unbounded.specs.Days.{most_turns, figure3, method, opened_for}
use Rattle.unbounded.proofs.Demand3.{demand3, opening_opens}
use Rattle.requests.specs.Requests.{is_opening}
use Rattle.memory.specs.Tables.{refusal_in}
use Rattle.memory.proofs.Accepted.{admits}
use Rattle.days.specs.Asking.{is_none, lent_to}
use Rattle.days.specs.Happenings.{Box, blank_box, box_after, Happening, happening_in, happenings, day_of, day_after, records_in}
use Rattle.book.specs.DayBooks.{heard_of, heard_in, processes_in, start_of}
use Rattle.snapshot.proofs.Keeping.{opening_refused, stepped_count}
use Rattle.days.proofs.Boxes.{lending, lent, item, result, lent_to_opening, lent_to_others, unread_stays}
use Rattle.days.proofs.Boxes.{refused_answer, refused_stays, size_stays, lent_after}

-- ---- what is claimed, of any readings on any box

-- what is heard of them, and the number of processes once they happened
abbrev heard_from : Box → List Reading → List (Heard Value)
heard_from b xs = map heard_of (records_in (happenings b xs))

abbrev count_after : Box → List Reading → ℕ
count_after b xs = (day_after b.day (happenings b xs)).count

-- what an answer tells on a day for n, and the tally after it
abbrev TellsAt : ℕ → Tally Value → Seen → List Value → Answer → Type 0
TellsAt n t x ws a = Tells n (most_turns n) stored t x ws a

abbrev tally_by : Tally Value → Seen → Answer → Tally Value
tally_by t x a = tallied stored t x a

-- the day's event number after each record is the tally's
abbrev pub Numbered : Tally Value → List Happening → Type 0
Numbered t [] = Unit {0}
Numbered t (h ∷ hs) =
    let u = tally_by t (heard_of h).seen (heard_of h).answer in
    (h.outcome.day.event ≡ u.event) × Numbered u hs

-- of a day for n, where the tally stands at t: the day is for n at the end, what is heard follows the tally, and the tally's
-- numbers are the day's
record Told (n : ℕ) (t : Tally Value) (b : Box) (xs : List Reading) : Type 0 where
  few : n ≤ 8
  count : count_after b xs ≡ n
  follows : Follows n (most_turns n) stored t (heard_from b xs)
  numbered : Numbered t (records_in (happenings b xs))

-- ---- one reading more in front

module _ (n : ℕ) (t : Tally Value) (b : Box) (xs : List Reading) where
  -- a record that is told of
  told_more : (r : Request) (next : ℕ) → let x = Found r next in let h = heard_of (happening_in b x) in
      TellsAt n t h.seen h.shown h.answer → (box_after b x).day.event ≡ (tally_by t h.seen h.answer).event →
      Told n (tally_by t h.seen h.answer) (box_after b x) xs → Told n t b (x ∷ xs)
  told_more r next f e w =
      record { few = w.few; count = w.count; follows = (f, w.follows); numbered = (e, w.numbered) }

  -- a record whose answer says nothing
  told_silent : (r : Request) (next : ℕ) (a : Answer) → let x = Found r next in let h = heard_of (happening_in b x) in
      h.answer ≡ a → TellsAt n t h.seen h.shown a → tally_by t h.seen a ≡ t → (box_after b x).day.event ≡ t.event →
      Told n t (box_after b x) xs → Told n t b (x ∷ xs)
  told_silent r next a q f same e w =
      let x = Found r next in
      let h = heard_of (happening_in b x) in
      let stays = ap (tally_by t h.seen) q ∙ same in
      told_more r next (subst (TellsAt n t h.seen h.shown) (sym q) f) (e ∙ ap (λ u. u.event) (sym stays))
      (subst (λ s. Told n s (box_after b x) xs) (sym stays) w)

  module _ (told : Told n t b xs) where
    -- no record: nothing is heard
    told_unread : (x : Reading) → T (is_none x) → Told n t b (x ∷ xs)
    told_unread (Found r next) u = absurd u
    told_unread End u =
        let w = subst (λ c. Told n t c xs) (sym (unread_stays b End u)) told in
        record { few = w.few; count = w.count; follows = w.follows; numbered = w.numbered }
    told_unread (Refused k) u =
        let w = subst (λ c. Told n t c xs) (sym (unread_stays b (Refused k) u)) told in
        record { few = w.few; count = w.count; follows = w.follows; numbered = w.numbered }

    -- a record that is refused: the box is the same, and so is the tally
    told_refused : b.day.event ≡ t.event → (r : Request) (next : ℕ) (k : Refusal) → refusal_in (lent b r) (item b r) ≡ some k →
        Told n t b (Found r next ∷ xs)
    told_refused e r next k q =
        told_silent r next (Answers.Refused k) (refused_answer b r next k q) tt refl
        (ap (λ c. c.day.event) (refused_stays b r next k q) ∙ e)
        (subst (λ c. Told n t c xs) (sym (refused_stays b r next k q)) told)

-- ---- a day that is open

-- a box on a day for n, where the tally stands at t
record InDay (n : ℕ) (b : Box) (t : Tally Value) : Type 0 where
  opened : 0 < n
  few : n ≤ 8
  count : b.day.count ≡ n
  size : length b.table ≡ 8
  holds : (items : List Item) → Holds (method ascending n) (lending b n) t items

-- of a call nothing is told that looks at the values of a page
call_tells : (n : ℕ) (t : Tally Value) (d : ℕ) (j : Job) (us vs : List Value) (a : Answer) → TellsAt n t (call d j) us a →
    TellsAt n t (call d j) vs a
call_tells n t d j us vs (Answers.Refused k) f = f
call_tells n t d j us vs Answers.Opened f = f
call_tells n t d j us vs Answers.Called f = f
call_tells n t d j us vs Answers.Read f = f
call_tells n t d j us vs (Answers.Page lender at turns) f = f
call_tells n t d j us vs (Answers.Written turns) f = f

module _ (n : ℕ) (b : Box) (t : Tally Value) (i : InDay n b t) where
  -- the values that a page list shows
  abbrev shown_in : List ℕ → List Value
  shown_in page = values_in n (take (page_places n) page)

  is_open : 0 < b.day.count
  is_open = let c = i.count in let l = i.opened in omega arith

  -- a call or a turn
  module _ (r : Request) (other : T (not (is_opening r))) (next : ℕ) where
    abbrev x : Item
    x = item b r

    abbrev after : Box
    after = box_after b (Found r next)

    all_lent : lent_to b.day r ≡ n
    all_lent = lent_to_others b.day r other (let c = i.count in let l = i.few in omega arith) ∙ i.count

    lent_holds : (items : List Item) → Holds (method ascending n) (lent b r) t items
    lent_holds items = subst (λ k. Holds (method ascending n) (lending b k) t items) (sym all_lent) (i.holds items)

    -- demand 3 says what it tells, the values of a page being those that its page list shows
    item_tells : TellsAt n t (sees x) (shown_in (result b r).page) (result b r).answer
    item_tells =
        subst (λ z. TellsAt n t (sees x) (shown_in z.page) z.answer) (sym (stepped_is_step (figure3 ascending) (lent b r) x n))
        (holds_follows (method ascending n) (lent b r) t (x ∷ []) (lent_holds (x ∷ []))).0

    -- and goes on
    item_holds : (items : List Item) → Holds (method ascending n) (result b r).state (tally_by t (sees x) (result b r).answer) items
    item_holds items =
        subst (λ z. Holds (method ascending n) z.state (tally_by t (sees x) z.answer) items)
        (sym (stepped_is_step (figure3 ascending) (lent b r) x n)) (lent_holds (x ∷ items)).4

    count_after_lem : after.day.count ≡ n
    count_after_lem = stepped_count (figure3 ascending) (lent b r) x is_open ∙ i.count

    in_day_after : InDay n after (tally_by t (sees x) (result b r).answer)
    in_day_after =
        record {
          opened = i.opened;
          few = i.few;
          count = count_after_lem;
          size = size_stays b r next ∙ i.size;
          holds = λ items. subst (λ s. Holds (method ascending n) s (tally_by t (sees x) (result b r).answer) items)
              (sym (ap (lending after) (sym all_lent) ∙ lent_after b r next i.size)) (item_holds items);
        }

  -- what a record tells: the values shown are looked at only where they are those of a page
  record_tells : (r : Request) → T (not (is_opening r)) → (next : ℕ) → let h = heard_of (happening_in b (Found r next)) in
      TellsAt n t h.seen h.shown h.answer
  record_tells (Open k) o next = absurd o
  record_tells (Update d w) o next =
      let r = Update d w in
      let z = result b r in
      call_tells n t d (update d w) (shown_in z.page) (heard_of (happening_in b (Found r next))).shown z.answer (item_tells r o next)
  record_tells (Scan d) o next =
      let r = Scan d in
      let z = result b r in
      call_tells n t d scan (shown_in z.page) (heard_of (happening_in b (Found r next))).shown z.answer (item_tells r o next)
  record_tells (Turn d) o next =
      let r = Turn d in
      let z = result b r in
      subst (λ k. TellsAt n t (sees (item b r)) (paired (words_in k z.page) (lasts_in k z.page)) z.answer)
      (sym (count_after_lem r o next))
      (subst (λ vs. TellsAt n t (sees (item b r)) vs z.answer) (values_in_front n z.page) (item_tells r o next))

-- demand 3, record by record; a further opening is refused
in_day_told : (n : ℕ) (b : Box) (t : Tally Value) (xs : List Reading) → InDay n b t → Told n t b xs
in_day_told n b t [] i =
    record { few = i.few; count = i.count; follows = tt; numbered = tt }
in_day_told n b t (End ∷ xs) i = told_unread n t b xs (in_day_told n b t xs i) End tt
in_day_told n b t (Refused k ∷ xs) i = told_unread n t b xs (in_day_told n b t xs i) (Refused k) tt
in_day_told n b t (Found (Open k) next ∷ xs) i =
    told_refused n t b xs (in_day_told n b t xs i) (i.holds []).0 (Open k) next OpenState
    (opening_refused (figure3 ascending) (lent b (Open k)) k (is_open n b t i))
in_day_told n b t (Found (Update d w) next ∷ xs) i =
    let r = Update d w in
    let j = in_day_after n b t i r tt next in
    told_more n t b xs r next (record_tells n b t i r tt next) (j.holds []).0 (in_day_told n (box_after b (Found r next)) (tally_by t (sees (item b r)) (result b r).answer) xs j)
in_day_told n b t (Found (Scan d) next ∷ xs) i =
    let r = Scan d in
    let j = in_day_after n b t i r tt next in
    told_more n t b xs r next (record_tells n b t i r tt next) (j.holds []).0 (in_day_told n (box_after b (Found r next)) (tally_by t (sees (item b r)) (result b r).answer) xs j)
in_day_told n b t (Found (Turn d) next ∷ xs) i =
    let r = Turn d in
    let j = in_day_after n b t i r tt next in
    told_more n t b xs r next (record_tells n b t i r tt next) (j.holds []).0 (in_day_told n (box_after b (Found r next)) (tally_by t (sees (item b r)) (result b r).answer) xs j)

-- ---- a day that is not open yet

-- a box whose day is not open
record Unopened (b : Box) : Type 0 where
  closed : b.day.count ≡ 0
  event : b.day.event ≡ 0
  size : length b.table ≡ 8

module _ (b : Box) (u : Unopened b) where
  -- an accepted opening begins a day for as many processes as it asks for
  module _ (k next : ℕ) (q : refusal_in (lent b (Open k)) (open_for k) ≡ none) where
    abbrev begun : Box
    begun = box_after b (Found (Open k) next)

    opened_state : (result b (Open k)).state ≡ opened_for k
    opened_state =
        ap (λ z. z.state) (acceptance_does (figure3 ascending) (lent b (Open k)) (open_for k) q)
        ∙ (opening_opens ascending (lent b (Open k)) k q).0

    begun_state : lending begun k ≡ opened_for k
    begun_state =
        let l = opening_opens ascending (lent b (Open k)) k q in
        ap (lending begun) (sym (lent_to_opening b.day k l.2)) ∙ lent_after b (Open k) next u.size ∙ opened_state

    in_day_begun : InDay k begun (started k k zero_value)
    unfolding Days.opened_for
    in_day_begun =
        let l = opening_opens ascending (lent b (Open k)) k q in
        record {
          opened = l.1;
          few = l.2;
          count = ap (λ s. s.day.count) opened_state;
          size = size_stays b (Open k) next ∙ u.size;
          holds = λ items. subst (λ s. Holds (method ascending k) s (started k k zero_value) items) (sym begun_state)
              (demand3 k l.1 l.2 items);
        }

    opened_answer : (result b (Open k)).answer ≡ Answers.Opened
    unfolding accept
    opened_answer = ap (λ z. z.answer) (acceptance_does (figure3 ascending) (lent b (Open k)) (open_for k) q)

    told_opened : (xs : List Reading) → Told k (started k k zero_value) b (Found (Open k) next ∷ xs)
    told_opened xs =
        let t : Tally Value = started k k zero_value in
        told_silent k t b xs (Open k) next Answers.Opened opened_answer tt refl (in_day_begun.holds []).0
        (in_day_told k begun t xs in_day_begun)

  -- and nothing else is accepted
  others_refused : (r : Request) → T (not (is_opening r)) → refusal_in (lent b r) (item b r) ≡ none → ⊥
  others_refused r o q =
      let l = (admits b.day (lent b r).table b.page r o q).suited.opened in
      let c = u.closed in
      omega arith

  -- for some number of processes
  abbrev ToldForSome : List Reading → Type 0
  ToldForSome xs = (n : ℕ) × Told n (started n n zero_value) b xs

  first_told : (r : Request) (next : ℕ) (xs : List Reading) (c : Option Refusal) → refusal_in (lent b r) (item b r) ≡ c →
      ToldForSome xs → ToldForSome (Found r next ∷ xs)
  first_told r next xs (some k) q (n, w) = (n, told_refused n (started n n zero_value) b xs w u.event r next k q)
  first_told (Open k) next xs none q w = (k, told_opened k next q xs)
  first_told (Update d v) next xs none q w = absurd (others_refused (Update d v) tt q)
  first_told (Scan d) next xs none q w = absurd (others_refused (Scan d) tt q)
  first_told (Turn d) next xs none q w = absurd (others_refused (Turn d) tt q)

  -- what comes before the opening is refused
  unopened_told : (xs : List Reading) → ToldForSome xs
  unopened_told [] = (0, record { few = omega arith; count = u.closed; follows = tt; numbered = tt })
  unopened_told (End ∷ xs) = let w = unopened_told xs in (w.0, told_unread w.0 (started w.0 w.0 zero_value) b xs w.1 End tt)
  unopened_told (Refused k ∷ xs) =
      let w = unopened_told xs in
      (w.0, told_unread w.0 (started w.0 w.0 zero_value) b xs w.1 (Refused k) tt)
  unopened_told (Found r next ∷ xs) = first_told r next xs (refusal_in (lent b r) (item b r)) refl (unopened_told xs)

-- ---- a day file

-- the number of processes is that of the day at the end
file_told : (bs : List ℕ) → let n = processes_in bs in Told n (started n n zero_value) blank_box (readings bs)
unfolding day_of
file_told bs =
    let w = unopened_told blank_box (record { closed = refl; event = refl; size = refl }) (readings bs) in
    subst (λ n. Told n (started n n zero_value) blank_box (readings bs)) (sym w.1.count) w.1

-- every answer of a day file fits the tally
pub day_follows : (bs : List ℕ) → let n = processes_in bs in Follows n (most_turns n) stored (started n n zero_value) (heard_in bs)
unfolding day_of
day_follows bs = (file_told bs).follows

-- the tally's numbers are the day's
pub day_numbered : (bs : List ℕ) → Numbered (start_of bs) (records_in (day_of bs))
unfolding day_of
day_numbered bs = (file_told bs).numbered

pub processes_few : (bs : List ℕ) → processes_in bs ≤ 8
processes_few bs = (file_told bs).few
