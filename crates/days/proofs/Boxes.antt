-- What a reading does to a box: one that is no record, or a record that is refused, leaves it as it was, and any other does to the
-- records that are lent what its item does.
use Prim.Native.Nat.{ℕ, ◌≤◌}
use native.Mathlib.Omega.{arith}
use mathlib.Core.Path.{◌≡◌, refl, sym, ap, ◌∙◌}
use mathlib.Core.Bool.{Bool, true, false, cond, not}
use mathlib.Core.List.{List, ◌++◌}
use mathlib.Core.Option.{some}
use lib.Dec.{T, ltb}
use lib.ListN.{length, take, drop, take-append-drop}
use lib.Seq.{take_at, length_front, length-take-le}
use borrow.Author.Tests.{ltb-false}
use Rattle.snapshot.specs.Demand.{Result, refusal_of}
use Rattle.snapshot.specs.Days.{State, Item, page_lent}
use Rattle.snapshot.specs.declared.Day.{Day}
use Rattle.snapshot.specs.declared.Refusal.{Refusal}
use Rattle.snapshot.specs.declared.Request.{Request}
use Rattle.snapshot.specs.declared.Request.TheVariants.{Open, Update, Scan, Turn}
use Rattle.snapshot.specs.declared.Answer.TheVariants as Answers
use Rattle.snapshot.proofs.Stepped.{refusal_changes_nothing}
use Rattle.dayfile.specs.declared.Reading.{Reading}
use Rattle.dayfile.specs.declared.Reading.TheVariants.{Found, End, Refused}
use Rattle.unbounded.specs.declared.Process.{Process}
use Rattle.unbounded.specs.Registers.{ascending}
use Rattle.unbounded.specs.Days.{figure3, stepped}
use Rattle.unbounded.proofs.Answered.{refused_answers}
use Rattle.requests.specs.Requests.{item_of, page_after, is_opening}
use Rattle.memory.specs.Tables.{state_of, refusal_in}
use Rattle.memory.proofs.Accepted.{after_refusal}
use Rattle.days.specs.Asking.{is_none, lent_to}
use Rattle.days.specs.Happenings.{Box, box_after, outcome_in, lent_in}
use Rattle.days.proofs.Kept.{lent_to_le}
use Rattle.snapshot.proofs.Keeping.{stepped_size}

-- ---- how many records are lent

few_lent : (n : ℕ) → n ≤ 8 → cond (ltb n 8) n 8 ≡ n
few_lent n l = go (ltb n 8) refl
  where
    go : (b : Bool) → ltb n 8 ≡ b → cond b n 8 ≡ n
    go true q = refl
    go false q = let m = ltb-false n 8 q in omega arith

-- to an opening for at most eight, as many as it asks for
pub lent_to_opening : (d : Day) (k : ℕ) → k ≤ 8 → lent_to d (Open k) ≡ k
unfolding lent_to
lent_to_opening d k l = few_lent k l

-- to any other, on a day for at most eight, as many as the day has processes
pub lent_to_others : (d : Day) (r : Request) → T (not (is_opening r)) → d.count ≤ 8 → lent_to d r ≡ d.count
unfolding lent_to
lent_to_others d (Open k) o l = absurd o
lent_to_others d (Update p w) o l = few_lent d.count l
lent_to_others d (Scan p) o l = few_lent d.count l
lent_to_others d (Turn p) o l = few_lent d.count l

-- ---- what a reading does

-- the day with its first n records, and with those that are lent to r
abbrev pub lending : Box → ℕ → State Process
lending b n = state_of b.day (take n b.table)

abbrev pub lent : Box → Request → State Process
lent b r = lending b (lent_to b.day r)

-- the item that r is, and what it comes to
abbrev pub item : Box → Request → Item
item b r = item_of b.page r

abbrev pub result : Box → Request → Result (State Process)
result b r = stepped (lent b r) (item b r)

module _ (b : Box) where
  -- the box where the records that are lent, and those that are not, stay
  same_box : (n : ℕ) (page : List ℕ) → page ≡ b.page →
      ◌≡◌ {A = Box} (record { day = b.day; table = take n b.table ++ drop n b.table; page = page }) b
  same_box n page q = λ i. record { day = b.day; table = take-append-drop n b.table i; page = q i }

  pub unread_stays : (x : Reading) → T (is_none x) → box_after b x ≡ b
  unread_stays (Found r next) u = absurd u
  unread_stays End u = same_box (lent_in b End) b.page refl
  unread_stays (Refused k) u = same_box (lent_in b (Refused k)) b.page refl

  module _ (r : Request) (next : ℕ) where
    -- the box with what a result leaves
    abbrev box_with : Result (State Process) → Box
    box_with z =
        record {
          day = z.state.day;
          table = z.state.table ++ drop (lent_to b.day r) b.table;
          page = page_after b.page z r;
        }

    module _ (k : Refusal) (q : refusal_in (lent b r) (item b r) ≡ some k) where
      refused_result : result b r ≡ record { state = lent b r; answer = Answers.Refused k; page = page_lent (item b r) }
      refused_result = refusal_changes_nothing (figure3 ascending) (lent b r) (item b r) k q

      pub refused_answer : (outcome_in b (Found r next)).answer ≡ Answers.Refused k
      refused_answer = ap (λ z. z.answer) refused_result

      pub refused_stays : box_after b (Found r next) ≡ b
      refused_stays =
          let z : Result (State Process) = record { state = lent b r; answer = Answers.Refused k; page = page_lent (item b r) } in
          ap box_with refused_result ∙ same_box (lent_to b.day r) (page_after b.page z r) (sym (after_refusal b.page z r refl))

    -- a record that is answered with a refusal
    pub answered_stays : (k : Refusal) → refusal_of (outcome_in b (Found r next)).answer ≡ some k → box_after b (Found r next) ≡ b
    answered_stays k q = refused_stays k (sym (refused_answers (lent b r) (item b r)) ∙ q)

    pub size_stays : length (box_after b (Found r next)).table ≡ length b.table
    size_stays =
        length_front b.table (result b r).state.table (lent_to b.day r) (stepped_size (figure3 ascending) (lent b r) (item b r))

    -- the records that were lent are those that the item leaves
    pub lent_after : length b.table ≡ 8 → lending (box_after b (Found r next)) (lent_to b.day r) ≡ (result b r).state
    lent_after l =
        let n = lent_to b.day r in
        let few = lent_to_le b.day r in
        ap (state_of (result b r).state.day) (take_at (result b r).state.table (drop n b.table) n
        (stepped_size (figure3 ascending) (lent b r) (item b r) ∙ length-take-le n b.table (omega arith)))
