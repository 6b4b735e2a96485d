-- The turns of a plan are in the list, and have their places in both tables.
use Prim.Native.Nat.{ℕ, ◌*◌, ◌≤◌}
use native.Mathlib.Omega.{arith}
use mathlib.Core.Path.{◌≡◌, refl}
use mathlib.Core.Option.{Option, none, some}
use lib.Dec.{ltb}
use Rattle.std.specs.Prelude.{Ok, Err, MatchResult}
use Rattle.std.proofs.lemmas.Result.{MatchResult-at_ok, MatchResult-at_err}
use borrow.Author.Tests.{ltb-false}
use Rattle.snapshot.specs.declared.Refusal.{Refusal}
use Rattle.snapshot.specs.Refusals.{first_cause}
use Rattle.snapshot.specs.Runs.{run_causes}
use Rattle.snapshot.proofs.Booleans.{or_neither}
use Rattle.snapshot.proofs.Causes.{accepted_passes}
use Rattle.runs.specs.declared.Plan.{Plan}
use Rattle.runs.specs.Plans.{plan_with, plan_of}

-- so many turns fit so many in a list, places and words
pub record Fitting (page given turns places words : ℕ) : Type 0 where
  pub listed : given ≤ turns
  pub placed : given ≤ places
  pub laid : given * page ≤ words

-- what a plan, or none, tells of the refusal
pub planned_given : (page turns : ℕ) (k : Option Refusal) (p : Plan) → plan_of page turns k ≡ Ok p → (k ≡ none) × (p ≡ plan_with turns page)
planned_given page turns k p e =
    MatchResult-at_ok (λ x. (k ≡ none) × (x ≡ plan_with turns page)) (λ r. Unit {0}) p e (go k)
  where
    go : (k : Option Refusal) → MatchResult (plan_of page turns k) (λ x. (k ≡ none) × (x ≡ plan_with turns page)) (λ r. Unit {0})
    go none = (refl, refl)
    go (some r) = tt

pub planned_refused : (page turns : ℕ) (k : Option Refusal) (r : Refusal) → plan_of page turns k ≡ Err r → k ≡ some r
planned_refused page turns k r e = MatchResult-at_err (λ x. Unit {0}) (λ r. k ≡ some r) r e (go k)
  where
    go : (k : Option Refusal) → MatchResult (plan_of page turns k) (λ x. Unit {0}) (λ r. k ≡ some r)
    go none = tt
    go (some r) = refl

-- a run that is not refused
pub plan_fits : (count size page turns places words : ℕ) → first_cause (run_causes count size page turns places words) ≡ none →
    Fitting page turns turns places words
plan_fits count size page turns places words q =
    let passed = or_neither (ltb places turns) (ltb words (turns * page))
    (accepted_passes (run_causes count size page turns places words) q).1.1.0 in
    record {
      listed = omega arith;
      placed = ltb-false places turns passed.0;
      laid = ltb-false words (turns * page) passed.1;
    }
