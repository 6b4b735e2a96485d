-- What is heard of a list of items follows the tally: every answer fits it. Items that are refused, and an opening that is not, say
-- nothing of the tally, so that the records before a day's opening may stand in the list too.
use Prim.Native.Nat.{ℕ}
use mathlib.Core.List.{List, [], ◌∷◌}
use Rattle.snapshot.specs.declared.Answer.{Answer}
use Rattle.snapshot.specs.declared.Answer.TheVariants.{Refused, Opened, Called, Read, Page, Written}
use Rattle.snapshot.specs.Tally.{Job, Seen, Tally, tallied}
use Rattle.snapshot.specs.Demand.{Method, step, Fits, Holds}
use Rattle.snapshot.specs.Book.{Heard, heard}

module _ {Value : Type 0} (n : ℕ) (most : Job → ℕ) (stored : ℕ → ℕ → Value) where
  -- an answer fits the tally; a refusal, and an opening, need not
  abbrev pub Tells : Tally Value → Seen → List Value → Answer → Type 0
  Tells t x vs (Refused k) = Unit {0}
  Tells t x vs Opened = Unit {0}
  Tells t x vs Called = Fits n most t x vs Called
  Tells t x vs Read = Fits n most t x vs Read
  Tells t x vs (Page lender at turns) = Fits n most t x vs (Page lender at turns)
  Tells t x vs (Written turns) = Fits n most t x vs (Written turns)

  -- every answer of a list does, each against the tally after those before it
  abbrev pub Follows : Tally Value → List (Heard Value) → Type 0
  Follows t [] = Unit {0}
  Follows t (h ∷ hs) = Tells t h.seen h.shown h.answer × Follows (tallied stored t h.seen h.answer) hs

-- demand 3 says it
module _ (M : Method) where
  fits_tells : (t : Tally M.Value) (x : Seen) (vs : List M.Value) (a : Answer) → Fits M.processes M.most t x vs a →
      Tells M.processes M.most M.stored t x vs a
  fits_tells t x vs (Refused k) f = tt
  fits_tells t x vs Opened f = tt
  fits_tells t x vs Called f = f
  fits_tells t x vs Read f = f
  fits_tells t x vs (Page lender at turns) f = f
  fits_tells t x vs (Written turns) f = f

  pub holds_follows : (s : M.State) (t : Tally M.Value) (xs : List M.Item) → Holds M s t xs →
      Follows M.processes M.most M.stored t (heard M s xs)
  holds_follows s t [] h = tt
  holds_follows s t (x ∷ xs) h =
      let r = step M s x in (
        fits_tells t (M.sees x) (M.shown r.page) r.answer h.1,
        holds_follows r.state (tallied M.stored t (M.sees x) r.answer) xs h.4,
      )
