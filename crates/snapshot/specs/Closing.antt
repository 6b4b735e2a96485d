-- The closing rule (document 02, K2): "every accepted call can be ended on the same day, whatever is accepted later."
use Rattle.std.specs.Prelude.{ℕ, ◌≤◌, ◌≡◌, ◌⊎◌, Bool, true, false, ◌&&◌, List, [], ◌∷◌, ◌++◌, eqb, leb, length}
use Rattle.std.proofs.Math.Option.{none, some}
use Rattle.snapshot.specs.declared.Answer.{Answer}
use Rattle.snapshot.specs.declared.Answer.TheVariants.{Refused, Opened, Called, Read, Page, Written}
use Rattle.snapshot.specs.Lists.{keep}
use Rattle.snapshot.specs.Tally.{turn, by_seen, Call, Tally, call_of, tallied, call_owes}
use Rattle.snapshot.specs.Demand.{Method, step, Among, refusal_of}

-- an answer that ends a call
abbrev pub IsEnd : Answer → Type 0
IsEnd (Refused k) = ⊥
IsEnd Opened = ⊥
IsEnd Called = ⊥
IsEnd Read = ⊥
IsEnd (Page lender at turns) = Unit {0}
IsEnd (Written turns) = Unit {0}

module _ (M : Method) where
  -- the state and the tally after a list of items, each lent what the one before left
  abbrev pub state_after : M.State → List M.Item → M.State
  state_after s [] = s
  state_after s (x ∷ xs) = state_after (step M s x).state xs

  abbrev pub tally_after : M.State → Tally M.Value → List M.Item → Tally M.Value
  tally_after s t [] = t
  tally_after s t (x ∷ xs) = let r = step M s x in tally_after r.state (tallied M.stored t (M.sees x) r.answer) xs

  -- a turn of process d that lends a page list long enough, and how many of them are in a list
  abbrev pub is_turn_of : (d : ℕ) → M.Item → Bool
  is_turn_of d x = by_seen false (λ k j. false) (λ k. eqb k d && leb M.page_length (length (M.page_lent x))) (M.sees x)

  abbrev pub turns_in : (d : ℕ) → List M.Item → ℕ
  turns_in d xs = length (keep (is_turn_of d) xs)

  -- one of process d's turns ends its call, and each of them before that reads: none is refused. Of other items nothing is said
  abbrev pub Ends : (d : ℕ) → M.State → List M.Item → Type 0
  Ends d s [] = ⊥
  Ends d s (x ∷ xs) =
      let r = step M s x in
      ((is_turn_of d x ≡ true) × IsEnd r.answer) ⊎ ((is_turn_of d x ≡ true → r.answer ≡ Read) × Ends d r.state xs)

  -- after any list xs: whoever waits is answered by as many turns of its own as its call still owes, whatever else stands among them.
  -- That these are no more than the day has events left is part of demand 3 (`Endable`)
  abbrev pub Closable : M.State → Tally M.Value → Type 0
  Closable s t =
      (xs : List M.Item) (d : ℕ) (c : Call) → Among M.processes d → call_of (tally_after s t xs) d ≡ some c →
      (ys : List M.Item) → call_owes M.most (some c) ≤ turns_in d ys → Ends d (state_after s xs) ys

  -- a list of turns, none of which is refused
  abbrev pub TurnsTaken : M.State → List M.Item → Type 0
  TurnsTaken s [] = Unit {0}
  TurnsTaken s (x ∷ xs) =
      let r = step M s x in ((d : ℕ) × (M.sees x ≡ turn d)) × (refusal_of r.answer ≡ none) × TurnsTaken r.state xs

  abbrev pub NobodyWaits : Tally M.Value → Type 0
  NobodyWaits t = (d : ℕ) → Among M.processes d → call_of t d ≡ none

  -- "all work can still be ended": after any list xs, by turns alone, until nobody waits
  abbrev pub AllEnds : M.State → Tally M.Value → Type 0
  AllEnds s t =
      (xs : List M.Item) → (ys : List M.Item) × TurnsTaken (state_after s xs) ys × NobodyWaits (tally_after s t (xs ++ ys))
