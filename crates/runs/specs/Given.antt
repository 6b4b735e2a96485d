-- A run whose turns are given so, by any method.
use Rattle.std.specs.Prelude.{ℕ, List, length, take, drop}
use Rattle.snapshot.specs.declared.Day.{Day}
use Rattle.snapshot.specs.Values.{page_places}
use Rattle.snapshot.specs.Refusals.{first_cause}
use Rattle.snapshot.specs.Demand.{Result}
use Rattle.snapshot.specs.Days.{State}
use Rattle.snapshot.specs.Runs.{RunResult, run_causes, run_unless}
use Rattle.runs.specs.declared.Plan.{Plan}
use Rattle.runs.specs.declared.Reached.{Reached}

-- a day and a table of records
abbrev pub on : {P : Type 0} → Day → List P → State P
on d t = record { day = d; table = t }

module _ {P : Type 0} (give : State P → ℕ → List ℕ → Result (State P)) where
  -- the turn of process d where a run has come so far
  abbrev pub turn_at : Reached → Plan → List P → ℕ → List ℕ → Result (State P)
  turn_at at plan t d pages = give (on at.day t) d (take plan.page (drop at.words pages))

  -- a run on a day and a table, each of whose turns is told so
  abbrev pub run_by : {A : Type 0} → (Result (State P) → A) → Day → (table : List P) → List ℕ → (answers : List A) →
      (pages : List ℕ) → RunResult (State P) A
  run_by told d t ds answers pages =
      let places = page_places d.count in
      run_unless give told places
      (first_cause (run_causes d.count (length t) places (length ds) (length answers) (length pages)))
      (on d t) ds answers pages
