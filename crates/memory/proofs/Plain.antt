-- A table whose records are kept as they are: what a request leaves of it are the records that the step of the definitions leaves.
use Prim.Native.Nat.{ℕ, ◌-◌}
use mathlib.Core.Path.{◌≡◌, refl, sym, ap, ◌∙◌}
use mathlib.Core.Bool.{not}
use mathlib.Core.List.{List}
use mathlib.Core.Option.{Option, none, some}
use lib.Dec.{T}
use lib.ListN.{get_or, set}
use lib.Seq.{get_or-set_same}
use Rattle.snapshot.specs.Requests.{number_in}
use Rattle.snapshot.specs.Demand.{Result}
use Rattle.snapshot.specs.Days.{State, accept, advance, called_by, turn_by}
use Rattle.snapshot.specs.declared.Day.{Day}
use Rattle.snapshot.specs.declared.Refusal.{Refusal}
use Rattle.snapshot.specs.declared.Request.{Request}
use Rattle.snapshot.specs.declared.Request.TheVariants.{Open, Update, Scan, Turn}
use Rattle.requests.specs.Requests.{item_of, is_opening}
use Rattle.unbounded.specs.declared.Process.{Process}
use Rattle.unbounded.specs.Processes.{no_process}
use Rattle.unbounded.specs.Days.{stepped}
use Rattle.process_records.specs.Forms.{plain, kept, left_by}
use Rattle.process_records.proofs.Kept.{kept_plain, item_left}
use Rattle.memory.specs.Tables.{state_of, refusal_in, accepted_in}
use Rattle.memory.specs.Left.{is_refused, table_left, stepped_on}
use Rattle.memory.proofs.Accepted.{stepped_refused, stepped_accepted, admits_inside}
use Rattle.memory.proofs.Left.{left_refused, after_accepted, answered}

-- an accepted call or turn leaves every record but that of its process
advanced : (s : State Process) (page : List ℕ) (x : Request) → T (not (is_opening x)) →
    (q : Process) × ((accepted_in s (item_of page x)).state.table ≡ set s.table (number_in x - 1) q)
unfolding accept advance called_by turn_by
advanced s page (Open k) o = absurd o
advanced s page (Update d w) o = (_, refl)
advanced s page (Scan d) o = (_, refl)
advanced s page (Turn d) o = (_, refl)

module _ (day : Day) (ps : List Process) (page : List ℕ) (x : Request) where
  abbrev s : State Process
  s = state_of day (kept plain ps)

  abbrev r : Result (State Process)
  r = stepped s (item_of page x)

  advanced_left : (y : Request) (o : T (not (is_opening y))) → refusal_in s (item_of page y) ≡ none →
      let qs = (accepted_in s (item_of page y)).state.table in left_by plain ps y qs ≡ qs
  advanced_left y o h =
      let i = number_in y - 1 in
      let a = advanced s page y o in
      item_left plain ps y _ o
      ∙ ap (λ qs. set ps i (get_or qs i no_process)) a.1
      ∙ ap (set ps i) (get_or-set_same (kept plain ps) i a.0 no_process (admits_inside day (kept plain ps) page y o h))
      ∙ ap (λ qs. set qs i a.0) (sym (kept_plain ps))
      ∙ sym a.1

  accepted_left : (y : Request) → refusal_in s (item_of page y) ≡ none →
      let qs = (accepted_in s (item_of page y)).state.table in left_by plain ps y qs ≡ qs
  accepted_left (Open k) h = kept_plain (accepted_in s (item_of page (Open k))).state.table
  accepted_left (Update d w) h = advanced_left (Update d w) tt h
  accepted_left (Scan d) h = advanced_left (Scan d) tt h
  accepted_left (Turn d) h = advanced_left (Turn d) tt h

  stepped_left : (k : Option Refusal) → refusal_in s (item_of page x) ≡ k → table_left plain ps x r ≡ r.state.table
  stepped_left none h =
      let same = stepped_accepted s (item_of page x) h in
      sym (after_accepted plain ps x r (sym (ap (λ q. is_refused q.answer) same) ∙ answered day (kept plain ps) page x h))
      ∙ sym (ap (λ q. left_by plain ps x q.state.table) same)
      ∙ accepted_left x h
      ∙ ap (λ q. q.state.table) same
  stepped_left (some k) h =
      sym (left_refused plain day ps x (item_of page x) k h).1
      ∙ sym (kept_plain ps)
      ∙ (stepped_refused s (item_of page x) k h).1

  pub plain_left : table_left plain ps x (stepped_on plain day ps x page) ≡ (stepped (state_of day ps) (item_of page x)).state.table
  plain_left =
      stepped_left (refusal_in s (item_of page x)) refl
      ∙ ap (λ qs. (stepped (state_of day qs) (item_of page x)).state.table) (kept_plain ps)
