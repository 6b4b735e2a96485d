-- The loop of a run on a day and a table, for every method: what it carries at first, after a turn, and at its end.
use Prim.Native.Nat.{ℕ, ◌+◌, ◌≤◌, ◌<◌}
use mathlib.Core.Path.{◌≡◌, refl, sym, ap, ◌∙◌, subst}
use mathlib.Core.Bool.{Bool, true, false}
use mathlib.Core.List.{List}
use mathlib.Core.Option.{Option, none}
use lib.Dec.{ltb}
use lib.ListN.{length, get_or, set, take, drop}
use Rattle.std.specs.Prelude as Result
use Rattle.std.specs.Prelude.{Ok, Err}
use borrow.Author.Tests.{ltb-true, ltb-false}
use Rattle.snapshot.specs.declared.Day.{Day}
use Rattle.snapshot.specs.declared.Refusal.{Refusal}
use Rattle.snapshot.specs.Refusals.{first_cause}
use Rattle.snapshot.specs.Demand.{Result}
use Rattle.snapshot.specs.Days.{State}
use Rattle.snapshot.specs.Runs.{RunResult, run_causes, run_unless}
use Rattle.runs.specs.declared.Plan.{Plan}
use Rattle.runs.specs.declared.Reached.{Reached}
use Rattle.runs.specs.Plans.{plan_with, plan_of, reached_at, outcome_at, run_outcome_of, laid_from}
use Rattle.runs.proofs.Onward.{onward}
use Rattle.runs.proofs.Fitting.{planned_given, planned_refused, plan_fits}
use Rattle.runs.proofs.Going.{Going, next_inside, going_next, run_begins, run_ends}

-- what `goes` says: there is another turn, or none
pub goes_on : {i turns : ℕ} {b : Bool} → b ≡ ltb i turns → b ≡ true → i < turns
goes_on test held = ltb-true _ _ (sym test ∙ held)

pub goes_out : {i turns : ℕ} {b : Bool} → b ≡ ltb i turns → b ≡ false → turns ≤ i
goes_out test failed = ltb-false _ _ (sym test ∙ failed)

module _ {P A : Type 0} (give : State P → ℕ → List ℕ → Result (State P)) (told : Result (State P) → A) where
  abbrev on : Day → List P → State P
  on d t = record { day = d; table = t }

  -- the run that plan p comes to from here, and that the rest of it comes to the same
  abbrev pub whole_from : Plan → (list : List ℕ) → Day → List P → List A → (pages : List ℕ) → RunResult (State P) A
  whole_from p list d t answers pages = onward give told p.page (take p.turns list) 0 (on d t) answers pages

  abbrev pub Goes : Plan → (list : List ℕ) → RunResult (State P) A → Reached → List P → List A → (pages : List ℕ) → Type 0
  Goes p list whole at t answers pages = Going give told p list whole at (on at.day t) answers pages

  module _ {p : Plan} {list : List ℕ} {whole : RunResult (State P) A} {at : Reached} {t : List P} {answers : List A}
      {pages : List ℕ} (g : Goes p list whole at t answers pages) (more : at.turns < p.turns) where
    pub goes_inside : (at.turns < length list) × (at.turns < length answers) × (at.words + p.page ≤ length pages)
    goes_inside = next_inside give told p list _ at (on at.day t) answers pages g more

    abbrev turn : ℕ → Result (State P)
    turn d = give (on at.day t) d (take p.page (drop at.words pages))

    -- after the turn of process d
    pub goes_next : (d : ℕ) (at' : Reached) (t' : List P) (answers' : List A) (pages' : List ℕ) → d ≡ get_or list at.turns 0 →
        at' ≡ reached_at (turn d).state.day (at.turns + 1) (at.words + p.page) → t' ≡ (turn d).state.table →
        answers' ≡ set answers at.turns (told (turn d)) → pages' ≡ laid_from at.words p.page (turn d).page pages →
        length pages' ≡ length pages → Goes p list whole at' t' answers' pages'
    goes_next d at' t' answers' pages' d-is at-is t-is answers-are pages-are long =
        let lie = pages-are ∙ ap (λ e. laid_from at.words p.page (turn e).page pages) d-is in
        subst (λ (z : Reached × List P × List A × List ℕ). Goes p list whole z.0 z.1 z.2 z.3)
        (λ i. (
          sym (at-is ∙ ap (λ e. reached_at (turn e).state.day (at.turns + 1) (at.words + p.page)) d-is) i,
          sym (t-is ∙ ap (λ e. (turn e).state.table) d-is) i,
          sym (answers-are ∙ ap (λ e. set answers at.turns (told (turn e))) d-is) i,
          sym lie i,
        ))
        (going_next give told p list _ at (on at.day t) answers pages g more _ (ap length (sym lie) ∙ long))

  -- a run of pages of so many words
  module _ (page : ℕ) (d : Day) (t : List P) (list : List ℕ) (answers : List A) (pages : List ℕ) where
    abbrev refused : Option Refusal
    refused = first_cause (run_causes d.count (length t) page (length list) (length answers) (length pages))

    abbrev pub plan : Result.Result Plan Refusal
    plan = plan_of page (length list) refused

    -- what the contract says, of a run that is refused
    pub goes_refused : (k : Refusal) → plan ≡ Err k →
        let r = run_unless give told page refused (on d t) list answers pages in
        (outcome_at d (Err k) ≡ run_outcome_of r) × (t ≡ r.state.table) × (answers ≡ r.answers) × (pages ≡ r.pages)
    goes_refused k e = rw (planned_refused page (length list) refused k e) (refl, refl, refl, refl)

    module _ (p : Plan) (at₀ : Reached) (planned : plan ≡ Ok p) (begun : at₀ ≡ reached_at d 0 0) where
      abbrev whole : RunResult (State P) A
      whole = whole_from p list at₀.day t answers pages

      given : (refused ≡ none) × (p ≡ plan_with (length list) page)
      given = planned_given page (length list) refused p planned

      pub goes_first : Goes p list whole at₀ t answers pages
      goes_first =
          subst (λ (z : Plan × Reached). Goes z.0 list (whole_from z.0 list z.1.day t answers pages) z.1 t answers
          pages) (λ i. (sym given.1 i, sym begun i))
          (run_begins give told page (on d t) list answers pages
          (plan_fits d.count (length t) page (length list) (length answers) (length pages) given.0) d)

      -- and of one that is given
      pub goes_last : (at : Reached) (t' : List P) (answers' : List A) (pages' : List ℕ) →
          Goes p list whole at t' answers' pages' → p.turns ≤ at.turns →
          let r = run_unless give told page refused (on d t) list answers pages in
          (outcome_at at.day (Ok tt) ≡ run_outcome_of r) × (t' ≡ r.state.table) × (answers' ≡ r.answers)
          × (pages' ≡ r.pages)
      goes_last at t' answers' pages' g last =
          let same = run_ends give told page (on d t) list answers pages at (on at.day t') answers' pages'
          (subst (λ (z : Plan × Reached). Goes z.0 list (whole_from z.0 list z.1.day t answers pages) at t' answers'
          pages') (λ i. (given.1 i, begun i)) g)
          (subst (λ z. z.turns ≤ at.turns) given.1 last)
          ∙ ap (λ k. run_unless give told page k (on d t) list answers pages) (sym given.0) in (
            ap run_outcome_of same,
            ap (λ r. r.state.table) same,
            ap (λ r. r.answers) same,
            ap (λ r. r.pages) same,
          )
