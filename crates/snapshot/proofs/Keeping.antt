-- What one item keeps, for every machine: the length of the table, and the count of an open day.
use Prim.Native.Nat.{ℕ, ◌<◌}
use native.Mathlib.Omega.{arith}
use mathlib.Core.Path.{◌≡◌, refl, sym, ap, subst}
use mathlib.Core.Bool.{not}
use mathlib.Core.List.{[], ◌∷◌}
use mathlib.Core.Option.{Option, none, some}
use lib.Dec.{eqb}
use lib.ListN.{length, length-set, length-map}
use borrow.Author.Tests.{ne_eqb}
use Rattle.snapshot.specs.declared.Refusal.{Refusal}
use Rattle.snapshot.specs.declared.Refusal.TheVariants.{OpenState, CountRange, LentSize}
use Rattle.snapshot.specs.Refusals.{outside}
use Rattle.snapshot.specs.Days.{Machine, State, Item, open_for, update_call, scan_call, turn_of}
use Rattle.snapshot.specs.Days.{refusal, accept, opened_by, called_by, advance, stepped}
use Rattle.snapshot.proofs.Causes.{refused_first}
use Rattle.snapshot.proofs.Admitted.{admitted_opening}
use Rattle.snapshot.proofs.Stepped.{refusal_changes_nothing, acceptance_does}

module _ (M : Machine) (s : State M.Process) where
  -- an opening is refused on a day that is open
  pub opening_refused : (k : ℕ) → 0 < s.day.count → refusal M s (open_for k) ≡ some OpenState
  unfolding refusal
  opening_refused k l =
      refused_first (not (eqb s.day.count 0), OpenState)
      ((outside 1 8 k, CountRange) ∷ (not (eqb (length s.table) k), LentSize) ∷ [])
      (ap not (ne_eqb s.day.count 0 (λ q. omega arith)))

  -- ---- an accepted item

  accepted_size : (x : Item) → length (accept M s x).state.table ≡ length s.table
  unfolding accept opened_by called_by advance
  accepted_size (open_for k) = length-map s.table (λ p. M.zero_process)
  accepted_size (update_call d w) = simp length-set
  accepted_size (scan_call d) = simp length-set
  accepted_size (turn_of d page) = simp length-set

  accepted_count : (x : Item) → 0 < s.day.count → refusal M s x ≡ none → (accept M s x).state.day.count ≡ s.day.count
  unfolding refusal accept called_by advance
  accepted_count (open_for k) l q = absurd (omega (arith, admitted_opening M s k q))
  accepted_count (update_call d w) l q = refl
  accepted_count (scan_call d) l q = refl
  accepted_count (turn_of d page) l q = refl

  -- ---- any item

  module _ (x : Item) where
    -- what holds of the state, and of what an accepted item leaves, holds after the item
    stepped_keeps : (P : State M.Process → Type 0) → P s → (refusal M s x ≡ none → P (accept M s x).state) → P (stepped M s x).state
    stepped_keeps P kept done = go (refusal M s x) refl
      where
        go : (k : Option Refusal) → refusal M s x ≡ k → P (stepped M s x).state
        go none q = subst (λ r. P r.state) (sym (acceptance_does M s x q)) (done q)
        go (some k) q = subst (λ r. P r.state) (sym (refusal_changes_nothing M s x k q)) kept

    pub stepped_size : length (stepped M s x).state.table ≡ length s.table
    stepped_size = stepped_keeps (λ r. length r.table ≡ length s.table) refl (λ q. accepted_size x)

    pub stepped_count : 0 < s.day.count → (stepped M s x).state.day.count ≡ s.day.count
    stepped_count l = stepped_keeps (λ r. r.day.count ≡ s.day.count) refl (accepted_count x l)
