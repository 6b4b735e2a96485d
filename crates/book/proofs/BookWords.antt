-- Every scan in a day file's book shows a word for each process.
use Prim.Native.Nat.{ℕ}
use mathlib.Core.Path.{◌≡◌, ◌∙◌}
use mathlib.Core.List.{List, [], ◌∷◌, map}
use mathlib.Core.Option.{Option, none, some}
use lib.ListN.{length, length-map}
use Rattle.snapshot.specs.declared.Value.{Value}
use Rattle.snapshot.specs.Values.{zero_value, stored}
use Rattle.snapshot.specs.Lists.{All, places, place}
use Rattle.snapshot.specs.Tally.{Job, scan, update, Seen, opening, call, turn, Call, Tally, started, call_of, tallied}
use Rattle.snapshot.specs.Demand.{IsUpdate, WrittenFits}
use Rattle.snapshot.specs.Book.{Heard, Operation, operations, finished_by, finished}
use Rattle.snapshot.specs.declared.Answer.{Answer}
use Rattle.snapshot.specs.declared.Answer.TheVariants.{Refused, Opened, Called, Read, Page, Written}
use Rattle.snapshot.proofs.Follows.{Tells, Follows}
use Rattle.snapshot.proofs.Placing.{all_append, all_place}
use Rattle.book.specs.DayBooks.{heard_in, processes_in, finished_in, book_in}
use Rattle.book.proofs.DayFollows.{day_follows}
use Rattle.book.proofs.PageWords.{WordsOf, page_words}

-- a scan shows n words
abbrev pub ShowsWords : ℕ → List ℕ → Job → Type 0
ShowsWords n ws scan = length ws ≡ n
ShowsWords n ws (update i w) = Unit {0}

module _ (n : ℕ) where
  -- an operation does
  abbrev Shown : Operation → Type 0
  Shown o = ShowsWords n o.words o.job

  module _ (d k e : ℕ) where
    page_shown : (ws : List ℕ) → length ws ≡ n → (c : Option Call) → All Shown (operations d ws k e c)
    page_shown ws long none = tt
    page_shown ws long (some c) = (go c.job, tt)
      where
        go : (j : Job) → ShowsWords n ws j
        go scan = long
        go (update i w) = tt

    written_shown : (most : Job → ℕ) (turns : ℕ) (c : Option Call) → WrittenFits most turns c → All Shown (operations d [] k e c)
    written_shown most turns none f = absurd f
    written_shown most turns (some c) f = (go c.job f.0, tt)
      where
        go : (j : Job) → IsUpdate j → ShowsWords n [] j
        go scan u = absurd u
        go (update i w) u = tt

  module _ (most : Job → ℕ) where
    answer_shown : (t : Tally Value) (x : Seen) (ws : List Value) (a : Answer) → Tells n most stored t x ws a → WordsOf n ws a →
        All Shown (finished_by (λ v. v.word) t x ws a)
    answer_shown t x ws (Refused k) f long = tt
    answer_shown t x ws Opened f long = tt
    answer_shown t x ws Called f long = tt
    answer_shown t x ws Read f long = tt
    answer_shown t opening ws (Page lender at turns) f long = tt
    answer_shown t (call d j) ws (Page lender at turns) f long = tt
    answer_shown t (turn d) ws (Page lender at turns) f long =
        page_shown d at _ (map (λ v. v.word) ws) (length-map ws (λ v. v.word) ∙ long) (call_of t d)
    answer_shown t opening ws (Written turns) f long = tt
    answer_shown t (call d j) ws (Written turns) f long = tt
    answer_shown t (turn d) ws (Written turns) f long = written_shown d _ _ most turns (call_of t d) f.1

    finished_shown : (t : Tally Value) (hs : List (Heard Value)) → Follows n most stored t hs →
        All (λ h. WordsOf n h.shown h.answer) hs → All Shown (finished stored (λ v. v.word) t hs)
    finished_shown t [] f long = tt
    finished_shown t (h ∷ hs) f long =
        let u = tallied stored t h.seen h.answer in
        all_append Shown (finished_by (λ v. v.word) t h.seen h.shown h.answer) (finished stored (λ v. v.word) u hs)
        (answer_shown t h.seen h.shown h.answer f.0 long.0) (finished_shown u hs f.1 long.1)

  places_shown : (os b : List Operation) → All Shown os → All Shown b → All Shown (places (λ o. o.number) os b)
  places_shown [] b q r = r
  places_shown (o ∷ os) b q r = places_shown os (place (λ o. o.number) o b) q.1 (all_place (λ o. o.number) o Shown b r q.0)

pub book_words : (bs : List ℕ) → All (λ o. ShowsWords (processes_in bs) o.words o.job) (book_in bs)
unfolding book_in
book_words bs =
    let n = processes_in bs in
    places_shown n (finished_in bs) [] (finished_shown n _ (started n n zero_value) (heard_in bs) (day_follows bs) (page_words bs)) tt
