-- Lists in which runs of turns stand (document 02, K4), for Figure 3's method: such a list is heard as the list of its single
-- turns, so demand 3, the waiting rule and the closing rule hold of it. Every n from 1 to 8.
use Prim.Native.Nat.{ℕ, ◌≤◌, ◌<◌}
use mathlib.Core.Path.{◌≡◌, sym, ◌∙◌, subst}
use mathlib.Core.List.{List, ◌++◌}
use mathlib.Core.Option.{some}
use lib.ListN.{length, length-replicate}
use Rattle.snapshot.specs.Values.{zero_value}
use Rattle.snapshot.specs.Tally.{Call, started, call_of, call_owes}
use Rattle.snapshot.specs.Demand.{Among, Holds}
use Rattle.snapshot.specs.Days as Days
use Rattle.snapshot.specs.Days.{State, Item}
use Rattle.snapshot.specs.Closing.{tally_after, turns_in, Ends, TurnsTaken, NobodyWaits}
use Rattle.snapshot.specs.Runs.{Asked, state_after_all, stepped_one_by_one, SameOneByOne}
use Rattle.snapshot.proofs.Runs.{runs_one_by_one}
use Rattle.unbounded.specs.declared.Process.{Process}
use Rattle.unbounded.specs.Registers.{ascending}
use Rattle.unbounded.specs.Processes.{zero_process}
use Rattle.unbounded.specs.Days.{most_turns, figure3, method, opened_for}
use Rattle.unbounded.proofs.Whole.{WholeDay, opened_whole, stepped_whole, turn_page_long}
use Rattle.unbounded.proofs.Demand3.{demand3, ascending_permutes}
use Rattle.unbounded.proofs.Closing.{closing, all_work_ends}

-- the items that a list is one by one, on a day for n processes
abbrev pub singles : (n : ℕ) → List Asked → List Item
singles n qs = stepped_one_by_one ((figure3 ascending).page_length n) qs

-- on every day for n processes with n records whose lists are whole, also on one that cannot have arisen
pub one_by_one : (n : ℕ) (z : 0 < n) (qs : List Asked) (s : State Process) → length s.table ≡ n →
    WholeDay ascending n (ascending_permutes n) z s → SameOneByOne (figure3 ascending) n s qs
one_by_one n z qs s size g =
    runs_one_by_one (figure3 ascending) n z (WholeDay ascending n (ascending_permutes n) z)
    (λ s x q g. stepped_whole ascending n (ascending_permutes n) z s x g)
    (λ s d page q g l. turn_page_long ascending n (ascending_permutes n) z s d page g ∙ l)
    qs s g.count size g

module _ (n : ℕ) (z : 0 < n) (eight : n ≤ 8) where
  since_opening : (qs : List Asked) → SameOneByOne (figure3 ascending) n (opened_for n) qs
  unfolding Days.opened_for
  since_opening qs =
      one_by_one n z qs (opened_for n) (length-replicate n zero_process) (opened_whole ascending n (ascending_permutes n) z)

  -- demand 3, with the waiting rule in it: what is heard of the list is what is heard of its single turns, and of these it holds
  pub demand3_with_runs : (qs : List Asked) →
      SameOneByOne (figure3 ascending) n (opened_for n) qs
      × Holds (method ascending n) (opened_for n) (started n n zero_value) (singles n qs)
  demand3_with_runs qs = (since_opening qs, demand3 n z eight (singles n qs))

  -- the closing rule: whoever waits after a list with runs in it is answered by as many turns as its call owes, in runs or not
  pub closing_with_runs : (qs : List Asked) (d : ℕ) (c : Call) → Among n d →
      let M = method ascending n in
      call_of (tally_after M (opened_for n) (started n n zero_value) (singles n qs)) d ≡ some c →
      (ps : List Asked) → call_owes (most_turns n) (some c) ≤ turns_in M d (singles n ps) →
      Ends M d (state_after_all (figure3 ascending) (opened_for n) qs) (singles n ps)
  closing_with_runs qs d c m q ps l =
      subst (λ u. Ends (method ascending n) d u (singles n ps)) (sym (since_opening qs).state_same)
      (closing n z eight (singles n qs) d c m q (singles n ps) l)

  -- and by turns alone, none refused, all work is ended
  pub all_work_ends_after_runs : (qs : List Asked) →
      let M = method ascending n in
      (ys : List Item) × TurnsTaken M (state_after_all (figure3 ascending) (opened_for n) qs) ys
      × NobodyWaits M (tally_after M (opened_for n) (started n n zero_value) (singles n qs ++ ys))
  all_work_ends_after_runs qs =
      let e = all_work_ends n z eight (singles n qs) in (
        e.0,
        subst (λ u. TurnsTaken (method ascending n) u e.0) (sym (since_opening qs).state_same) e.1,
        e.2,
      )
