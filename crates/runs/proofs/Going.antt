-- What the loop of a run carries from turn to turn, for every method.
use Prim.Native.Nat.{ℕ, ◌+◌, ◌*◌, ◌≤◌, ◌<◌}
use native.Mathlib.Nat.{zero-mul, mul-le-mul_right}
use native.Mathlib.Omega.{arith}
use mathlib.Core.Path.{◌≡◌, refl, sym, ◌∙◌, subst}
use mathlib.Core.List.{List}
use mathlib.Core.Option.{none}
use lib.ListN.{length, get_or, set, take, drop, length-set}
use lib.Seq.{length-take-le, get_or-take}
use Rattle.snapshot.specs.declared.Day.{Day}
use Rattle.snapshot.specs.Demand.{Result}
use Rattle.snapshot.specs.Runs.{RunResult, turns_from}
use Rattle.runs.specs.declared.Plan.{Plan}
use Rattle.runs.specs.declared.Reached.{Reached}
use Rattle.runs.specs.Plans.{plan_with, reached_at, laid_from}
use Rattle.runs.proofs.Onward.{onward, run_planned, onward_next, onward_last}
use Rattle.runs.proofs.Fitting.{Fitting}

module _ {S A : Type 0} (give : S → ℕ → List ℕ → Result S) (told : Result S → A) (plan : Plan) (list : List ℕ) where
  -- the turns that are left, on the state and the two tables as they stand, come to the whole run
  pub record Going (whole : RunResult S A) (at : Reached) (s : S) (answers : List A) (pages : List ℕ) : Type 0 where
    pub goes_to : onward give told plan.page (take plan.turns list) at.turns s answers pages ≡ whole
    pub words : at.words ≡ at.turns * plan.page
    pub few : at.turns ≤ plan.turns
    pub fits : Fitting plan.page plan.turns (length list) (length answers) (length pages)

  module _ (whole : RunResult S A) (at : Reached) (s : S) (answers : List A) (pages : List ℕ)
      (g : Going whole at s answers pages) where
    -- the next turn has its process, its place and its words
    pub next_inside : at.turns < plan.turns →
        (at.turns < length list) × (at.turns < length answers) × (at.words + plan.page ≤ length pages)
    next_inside l =
        let f = g.fits in
        let listed = f.listed in
        let placed = f.placed in
        let laid = f.laid in
        let w = g.words in
        let more : (at.turns + 1) * plan.page ≤ plan.turns * plan.page = mul-le-mul_right plan.page (omega (arith, l)) in
        (omega (arith, l, listed), omega (arith, l, placed), omega (arith, more, laid, w))

    -- after it
    pub going_next : at.turns < plan.turns → (day : Day) →
        let r = give s (get_or list at.turns 0) (take plan.page (drop at.words pages)) in
        let pages' = laid_from at.words plan.page r.page pages in
        length pages' ≡ length pages →
        Going whole (reached_at day (at.turns + 1) (at.words + plan.page)) r.state (set answers at.turns (told r)) pages'
    going_next l day long =
        let ds = take plan.turns list in
        let i = at.turns in
        let f = g.fits in
        let size : length ds ≡ plan.turns = length-take-le plan.turns list f.listed in
        let Next : ℕ → ℕ → Type 0 = λ j d.
        (let r = give s d (take plan.page (drop j pages)) in
        let pages' = laid_from j plan.page r.page pages in
        length pages' ≡ length pages →
        onward give told plan.page ds i s answers pages
        ≡ onward give told plan.page ds (i + 1) r.state (set answers i (told r)) pages') in
        let first : Next (i * plan.page) (get_or ds i 0) = onward_next give told plan.page ds i s answers pages
        (omega (arith, l, size)) (subst (λ m. m ≤ length answers) (sym size) f.placed)
        (subst (λ m. m * plan.page ≤ length pages) (sym size) f.laid) in
        let second : Next at.words (get_or list i 0) =
        subst (Next at.words) (get_or-take plan.turns list i 0 l)
        (subst (λ j. Next j (get_or ds i 0)) (sym g.words) first) in
        let w = g.words in
        let r = give s (get_or list i 0) (take plan.page (drop at.words pages)) in
        record {
          goes_to = sym (second long) ∙ g.goes_to;
          words = omega (arith, w);
          few = omega (arith, l);
          fits = record {
            listed = f.listed;
            placed = subst (λ m. plan.turns ≤ m) (sym (length-set answers i (told r))) f.placed;
            laid = subst (λ m. plan.turns * plan.page ≤ m) (sym long) f.laid;
          };
        }

    -- no turn is left
    pub going_last : plan.turns ≤ at.turns → record { state = s; refusal = none; answers = answers; pages = pages } ≡ whole
    going_last l =
        let size : length (take plan.turns list) ≡ plan.turns = length-take-le plan.turns list g.fits.listed in
        sym (onward_last give told plan.page (take plan.turns list) at.turns s answers pages (omega (arith, l, size)))
        ∙ g.goes_to

-- a run from its beginning to its end
module _ {S A : Type 0} (give : S → ℕ → List ℕ → Result S) (told : Result S → A) (page : ℕ)
    (s : S) (list : List ℕ) (answers : List A) (pages : List ℕ) where
  abbrev pub plan_here : Plan
  plan_here = plan_with (length list) page

  abbrev pub whole_run : RunResult S A
  whole_run = onward give told page (take (length list) list) 0 s answers pages

  pub run_begins : Fitting page (length list) (length list) (length answers) (length pages) → (day : Day) →
      Going give told plan_here list whole_run (reached_at day 0 0) s answers pages
  run_begins f day =
      record { goes_to = refl; words = sym (zero-mul page); few = omega arith; fits = f }

  pub run_ends : (at : Reached) (s' : S) (answers' : List A) (pages' : List ℕ) →
      Going give told plan_here list whole_run at s' answers' pages' → length list ≤ at.turns →
      record { state = s'; refusal = none; answers = answers'; pages = pages' } ≡ turns_from give told page s list answers pages
  run_ends at s' answers' pages' g l =
      going_last give told plan_here list whole_run at s' answers' pages' g l ∙ sym (run_planned give told page s list answers pages)
