-- The plan of a run, and how far a run has come.
use Rattle.std.specs.Prelude.{ℕ, List, ◌++◌, take, drop, Result, Ok, Err}
use Rattle.std.proofs.Math.Option.{Option, none, some}
use Rattle.snapshot.specs.declared.Day.{Day}
use Rattle.snapshot.specs.declared.Refusal.{Refusal}
use Rattle.snapshot.specs.Days.{State}
use Rattle.snapshot.specs.Runs.{RunResult}
use Rattle.runs.specs.declared.Plan.{Plan}
use Rattle.runs.specs.declared.Reached.{Reached}
use Rattle.runs.specs.declared.RunOutcome.{RunOutcome}

-- a refusal, or none, as a check
abbrev pub check_of : Option Refusal → Result (Unit {0}) Refusal
check_of none = Ok tt
check_of (some k) = Err k

-- a run of so many turns and words a page, or its refusal: one that is refused gives no turn
abbrev pub plan_with : (turns page : ℕ) → Plan
plan_with turns page = record { turns = turns; page = page }

abbrev pub plan_of : (page turns : ℕ) → Option Refusal → Result Plan Refusal
plan_of page turns none = Ok (plan_with turns page)
plan_of page turns (some k) = Err k

abbrev pub reached_at : Day → (turns words : ℕ) → Reached
reached_at d turns words = record { day = d; turns = turns; words = words }

abbrev pub outcome_at : Day → Result (Unit {0}) Refusal → RunOutcome
outcome_at d c = record { day = d; check = c }

-- the day after a run, and the refusal of the run itself, if any
abbrev pub run_outcome_of : {P A : Type 0} → RunResult (State P) A → RunOutcome
run_outcome_of r = outcome_at r.state.day (check_of r.refusal)

-- xs with ys in place of the m elements from a on
abbrev pub laid_from : {A : Type 0} → (a m : ℕ) → (ys xs : List A) → List A
laid_from a m ys xs = take a xs ++ (ys ++ drop m (drop a xs))
