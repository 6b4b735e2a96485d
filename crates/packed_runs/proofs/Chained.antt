-- A run on words is the run of the definitions on the records that they are: the same refusal, replies and pages, and the words
-- that it leaves are the records that the run leaves. So all that holds of runs holds of the library's.
use Prim.Native.Nat.{ℕ}
use mathlib.Core.Path.{◌≡◌, refl, sym, ap, ◌∙◌, subst}
use mathlib.Core.List.{List, [], ◌∷◌, ◌++◌}
use mathlib.Core.Option.{Option, none, some}
use lib.ListN.{length, take, drop}
use Rattle.snapshot.specs.declared.Day.{Day}
use Rattle.snapshot.specs.declared.Refusal.{Refusal}
use Rattle.snapshot.specs.declared.Request.TheVariants.{Turn}
use Rattle.snapshot.specs.Values.{page_places}
use Rattle.snapshot.specs.Refusals.{first_cause}
use Rattle.snapshot.specs.Days.{State}
use Rattle.snapshot.specs.Runs.{RunResult, run_causes, turns_from, run_unless, give_turn, ran}
use Rattle.unbounded.specs.declared.Process.{Process}
use Rattle.unbounded.specs.Registers.{ascending}
use Rattle.unbounded.specs.Days.{figure3}
use Rattle.memory.specs.Tables.{state_of}
use Rattle.packed_rows.specs.Rows.{unpacked_all, LongRows}
use Rattle.packed_rows.proofs.Rows.{records_long}
use Rattle.packed_table.specs.Tables.{table_after, stepped_in}
use Rattle.packed_table.proofs.Chained.{unpacked_after, long_after}
use Rattle.packed_runs.specs.Runs.{give_in, told_in, run_in}

-- a run's result with the records that its words are
abbrev pub unpacked_run : RunResult (State (List ℕ)) (List ℕ) → RunResult (State Process) (List ℕ)
unpacked_run r =
    record {
      state = state_of r.state.day (unpacked_all r.state.table);
      refusal = r.refusal;
      answers = r.answers;
      pages = r.pages;
    }

-- the run on words is that on records, and every row has its 369 words again
abbrev Same : RunResult (State (List ℕ)) (List ℕ) → RunResult (State Process) (List ℕ) → Type 0
Same r q = (unpacked_run r ≡ q) × LongRows r.state.table

turns_unpacked : (w : ℕ) (ds : List ℕ) (d : Day) (t replies : List (List ℕ)) (pages : List ℕ) → LongRows t →
    Same (turns_from give_in told_in w (record { day = d; table = t }) ds replies pages)
    (turns_from (give_turn (figure3 ascending)) told_in w (state_of d (unpacked_all t)) ds replies pages)
unfolding turns_from
turns_unpacked w [] d t replies pages long = (refl, long)
turns_unpacked w (p ∷ ds) d t replies pages long =
    let page = take w pages in
    let r = stepped_in d t (Turn p) page in
    let t' = table_after t (Turn p) r in
    let rest = turns_unpacked w ds r.state.day t' (drop 1 replies) (drop w pages) (long_after d t (Turn p) page long) in
    let same = rest.0 ∙ ap (λ ps. turns_from (give_turn (figure3 ascending)) told_in w (state_of r.state.day ps) ds
    (drop 1 replies) (drop w pages)) (unpacked_after d t (Turn p) page long) in (
      ap (λ q. record { state = q.state; refusal = none; answers = told_in r ∷ q.answers; pages = r.page ++ q.pages }) same,
      rest.1,
    )

pub run_unpacked : (d : Day) (t : List (List ℕ)) (ds : List ℕ) (replies : List (List ℕ)) (pages : List ℕ) → LongRows t →
    Same (run_in d t ds replies pages) (ran (figure3 ascending) told_in (state_of d (unpacked_all t)) ds replies pages)
unfolding run_in ran
run_unpacked d t ds replies pages long =
    subst (λ m. Same (run_in d t ds replies pages)
    (run_unless (give_turn (figure3 ascending)) told_in places (found m) (state_of d (unpacked_all t)) ds replies pages))
    (sym (records_long t)) (go (found (length t)))
  where
    places : ℕ
    places = page_places d.count

    found : ℕ → Option Refusal
    found m = first_cause (run_causes d.count m places (length ds) (length replies) (length pages))

    go : (k : Option Refusal) → Same (run_unless give_in told_in places k (record { day = d; table = t }) ds replies pages)
        (run_unless (give_turn (figure3 ascending)) told_in places k (state_of d (unpacked_all t)) ds replies pages)
    go none = turns_unpacked places ds d t replies pages long
    go (some k) = (refl, long)
