-- What asking a record leaves of a box whose records lie as words: that of the box after it (`asked_after`), and where no record was
-- found, all of it (`unread_after`).
use Prim.Native.Nat.{ℕ, zero, suc, ◌≤◌}
use native.Mathlib.Omega.{arith}
use mathlib.Core.Path.{◌≡◌, refl, sym, ap, ap₂, ◌∙◌, subst}
use mathlib.Core.List.{List, [], ◌∷◌, ◌++◌}
use lib.Dec.{T}
use lib.ListN.{length, take, drop}
use lib.Seq.{length-take-le}
use Rattle.std.specs.Prelude.{Some, None}
use Rattle.snapshot.specs.Demand.{Result}
use Rattle.snapshot.specs.Replies.{reply_of}
use Rattle.snapshot.specs.Days.{State}
use Rattle.snapshot.specs.declared.Day.{Day}
use Rattle.snapshot.specs.declared.Outcome.{Outcome}
use Rattle.snapshot.specs.declared.Request.{Request}
use Rattle.snapshot.specs.declared.Request.TheVariants.{Open, Update, Scan, Turn}
use Rattle.requests.specs.Requests.{item_of, page_after}
use Rattle.dayfile.specs.declared.Reading.{Reading}
use Rattle.dayfile.specs.declared.Reading.TheVariants.{Found, End, Refused}
use Rattle.unbounded.specs.declared.Process.{Process}
use Rattle.unbounded.specs.Days.{stepped}
use Rattle.memory.specs.Tables.{state_of, outcome_of}
use Rattle.packed.specs.Packing.{unpack_record}
use Rattle.packed_rows.specs.Rows.{unpacked_all, LongRows}
use Rattle.packed_table.specs.Tables.{table_after, stepped_in}
use Rattle.packed_table.proofs.Chained.{unpacked_after, long_after}
use Rattle.days.specs.Asking.{is_none, request_in, request_of, lent_to, unasked_of}
use Rattle.days.specs.Happenings.{Box, outcome_in}
use Rattle.days.proofs.Boxes.{unread_stays}
use Rattle.days.proofs.Kept.{lent_to_le}
use Rattle.numbers.specs.declared.ReplyNumbers.{ReplyNumbers}
use Rattle.numbers.specs.declared.RecordNumbers.{RecordNumbers}
use Rattle.numbers.specs.Replies.{reply_numbers, request_numbers}
use Rattle.packed_requests.specs.Requests.{reply_in, table_in, page_in}
use Rattle.packed_days.specs.Boxes.{box_in, IsAfter, IsReplied}

-- ---- the records that some of the words are

unpacked_take : (n : ℕ) (t : List (List ℕ)) → unpacked_all (take n t) ≡ take n (unpacked_all t)
unpacked_take zero t = refl
unpacked_take (suc n) [] = refl
unpacked_take (suc n) (r ∷ t) = ap {B = List Process} (λ ps. unpack_record r ∷ ps) (unpacked_take n t)

unpacked_drop : (n : ℕ) (t : List (List ℕ)) → unpacked_all (drop n t) ≡ drop n (unpacked_all t)
unpacked_drop zero t = refl
unpacked_drop (suc n) [] = refl
unpacked_drop (suc n) (r ∷ t) = unpacked_drop n t

unpacked_append : (t u : List (List ℕ)) → unpacked_all (t ++ u) ≡ unpacked_all t ++ unpacked_all u
unpacked_append [] u = refl
unpacked_append (r ∷ t) u = ap {B = List Process} (λ ps. unpack_record r ∷ ps) (unpacked_append t u)

-- ---- their words

long_tail : (r : List ℕ) (t : List (List ℕ)) → LongRows (r ∷ t) → LongRows t
long_tail r t long i l = long (suc i) (omega (arith, l))

long_take : (n : ℕ) (t : List (List ℕ)) → LongRows t → LongRows (take n t)
long_take zero t long i l = absurd (omega (arith, l))
long_take (suc n) [] long i l = absurd (omega (arith, l))
long_take (suc n) (r ∷ t) long zero l = long 0 (omega arith)
long_take (suc n) (r ∷ t) long (suc i) l = long_take n t (long_tail r t long) i (omega (arith, l))

long_drop : (n : ℕ) (t : List (List ℕ)) → LongRows t → LongRows (drop n t)
long_drop zero t long = long
long_drop (suc n) [] long = long
long_drop (suc n) (r ∷ t) long = long_drop n t (long_tail r t long)

long_append : (t u : List (List ℕ)) → LongRows t → LongRows u → LongRows (t ++ u)
long_append [] u long more i l = more i l
long_append (r ∷ t) u long more zero l = long 0 (omega arith)
long_append (r ∷ t) u long more (suc i) l = long_append t u (long_tail r t long) more i (omega (arith, l))

-- ---- what was read

module _ (d : Day) (t : List (List ℕ)) (page : List ℕ) (long : LongRows t) where
  abbrev b : Box
  b = box_in d t page

  pub unread_after : (x : Reading) → request_in x ≡ None → (o : Outcome) → o ≡ unasked_of d →
      (o ≡ outcome_in b x) × IsAfter x b o.day t page
  unread_after x none o is = go x none
    where
      after : (x : Reading) → T (is_none x) → IsAfter x b o.day t page
      after x none = record { box = ap (λ q. box_in q.day t page) is ∙ sym (unread_stays b x none); long = long }

      go : (x : Reading) → request_in x ≡ None → (o ≡ outcome_in b x) × IsAfter x b o.day t page
      go (Found r next) q = let z : ◌≡◌ {A = ℕ} 0 1 = cc in absurd (omega arith)
      go End q = (is, after End tt)
      go (Refused k) q = (is, after (Refused k) tt)

  module _ (r : Request) (next : ℕ) where
    abbrev n : ℕ
    n = lent_to d r

    abbrev result : Result (State Process)
    result = stepped_in d (take n t) r page

    same : result ≡ stepped (state_of d (take n (unpacked_all t))) (item_of page r)
    same = ap (λ ps. stepped (state_of d ps) (item_of page r)) (unpacked_take n t)

    pub record_after : (o : Outcome) → o ≡ outcome_of result → (lent : List (List ℕ)) → lent ≡ table_after (take n t) r result →
        (shown : List ℕ) → shown ≡ page_after page result r →
        (o ≡ outcome_in b (Found r next)) × IsAfter (Found r next) b o.day (lent ++ drop n t) shown
    record_after o is lent left shown page-is =
        let short = long_take n t long in
        let Lent-is = ap unpacked_all left ∙ unpacked_after d (take n t) r page short ∙ ap (λ z. z.state.table) same in
        let records = unpacked_append lent (drop n t) ∙ ap₂ (λ ps qs. ps ++ qs) Lent-is (unpacked_drop n t) in
        let told = is ∙ ap outcome_of same in
        let shows = page-is ∙ ap (λ z. page_after page z r) same in (
          told,
          record {
            box = λ i. record { day = (told i).day; table = records i; page = shows i };
            long = long_append lent (drop n t) (subst LongRows (sym left) (long_after d (take n t) r page short)) (long_drop n t long);
          },
        )

  -- as the code finds it
  pub asked_after : (x : Reading) (q : Request) → request_in x ≡ Some q → (m : ℕ) → m ≡ lent_to d (request_of x) →
      let result = stepped_in d (take m t) q page in
      (o : Outcome) → o ≡ outcome_of result → (lent : List (List ℕ)) → lent ≡ table_after (take m t) q result →
      (shown : List ℕ) → shown ≡ page_after page result q →
      (o ≡ outcome_in b x) × IsAfter x b o.day (lent ++ drop m t) shown
  asked_after (Found r next) q found m k o told lent left shown shows =
      let q-is : q ≡ r = cc in
      subst (λ j. (o ≡ outcome_in b (Found r next)) × IsAfter (Found r next) b o.day (lent ++ drop j t) shown) (sym k)
      (record_after r next o (told ∙ (λ i. outcome_of (stepped_in d (take (k i) t) (q-is i) page))) lent
      (left ∙ (λ i. table_after (take (k i) t) (q-is i) (stepped_in d (take (k i) t) (q-is i) page))) shown
      (shows ∙ (λ i. page_after page (stepped_in d (take (k i) t) (q-is i) page) (q-is i))))
  asked_after End q found m k o told lent left shown shows = let z : ◌≡◌ {A = ℕ} 0 1 = cc in absurd (omega arith)
  asked_after (Refused e) q found m k o told lent left shown shows = let z : ◌≡◌ {A = ℕ} 0 1 = cc in absurd (omega arith)

-- and where the outcome is replied by numbers
pub replied_by : {x : Reading} {b : Box} {o : Outcome} {t : List (List ℕ)} {page : List ℕ} →
    (o ≡ outcome_in b x) × IsAfter x b o.day t page → (r : ReplyNumbers) → r ≡ reply_numbers o.day (reply_of [] o.answer) →
    IsReplied x b r t page
replied_by {x} {b} {o} {t} {page} after r said =
    record {
      reply = said ∙ ap (λ q. reply_numbers q.day (reply_of [] q.answer)) after.0;
      after = subst (λ (q : Outcome). IsAfter x b q.day t page) after.0 after.1;
    }

-- as many records as are lent, at most eight
pub lent_fits : (d : Day) (q : Request) (t : List (List ℕ)) (n : ℕ) → length t ≡ 8 → n ≡ lent_to d q →
    (n ≤ length t) × (n ≡ length (take n t))
lent_fits d q t n eight is =
    let few = lent_to_le d q in
    let inside : n ≤ length t = omega (arith, eight, is, few) in
    (inside, sym (length-take-le n t inside))

-- a request by its own numbers is that request
module _ (d : Day) (t : List (List ℕ)) (page : List ℕ) (x : Request) where
  abbrev step : Result (State Process)
  step = stepped_in d t x page

  pub by_numbers : (q : RecordNumbers) → q ≡ request_numbers x 0 →
      (reply_in d t q.kind q.process q.word page ≡ reply_numbers step.state.day (reply_of [] step.answer))
      × (table_in d t q.kind q.process q.word page ≡ table_after t x step)
      × (page_in d t q.kind q.process q.word page ≡ page_after page step x)
  by_numbers q is = (
    ap (λ z. reply_in d t z.kind z.process z.word page) is ∙ (go x).0,
    ap (λ z. table_in d t z.kind z.process z.word page) is ∙ (go x).1,
    ap (λ z. page_in d t z.kind z.process z.word page) is ∙ (go x).2,
  )
    where
      go : (x : Request) → let z = request_numbers x 0 in let s = stepped_in d t x page in
          (reply_in d t z.kind z.process z.word page ≡ reply_numbers s.state.day (reply_of [] s.answer))
          × (table_in d t z.kind z.process z.word page ≡ table_after t x s)
          × (page_in d t z.kind z.process z.word page ≡ page_after page s x)
      go (Open count) = (refl, refl, refl)
      go (Update process word) = (refl, refl, refl)
      go (Scan process) = (refl, refl, refl)
      go (Turn process) = (refl, refl, refl)
