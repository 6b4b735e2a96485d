-- What is laid of a quarter: the line of all its answers, although only the first are kept.
use Prim.Native.Nat.{ℕ, ◌≤◌, ◌<◌}
use native.Mathlib.Omega.{arith}
use mathlib.Core.Path.{◌≡◌, refl, sym, ap, ◌∙◌, subst}
use mathlib.Core.Bool.{Bool, true, false, cond}
use mathlib.Core.List.{List, [], map}
use lib.ListN.{length, take}
use Rattle.figures.specs.Figures.{answer_in, reckoned}
use Rattle.figures.proofs.Claims.{first_enough}
use Rattle.gathering.specs.Gathered.{Gathered, sums_with_all}
use Rattle.gathering.specs.Laps.{gathered}
use Rattle.gathering.proofs.Kept.{held_in, Holds, with_all}
use Rattle.figurelines.specs.FigureText.{reckoning_text}
use Rattle.streams.specs.Input.{Incoming}
use Rattle.std.specs.Prelude.{Option, Some, None, is_some, IfSome}
use Rattle.quarters.specs.Days.{all_whole, answers_of, IsQuarter}
use Rattle.day_figures.specs.Runs.{line_of, written_of}

module _ (desks : ℕ) (ds : List Incoming) (before rows : List (List ℕ)) (q : Option ℕ) (is : IsQuarter ds before rows q)
    (room : 65535 < length before) where
  -- before any answer
  abbrev empty : Gathered
  empty = gathered before 0

  gathers : Holds empty (sums_with_all empty (answers_of ds)) (answers_of ds)
  gathers = with_all empty (answers_of ds) (omega arith)

  pub quarter_fits : IfSome q (λ count. count ≤ length rows)
  quarter_fits = go q is.held
    where
      go : (q : Option ℕ) → IfSome q (λ count. gathered rows count ≡ sums_with_all empty (answers_of ds)) →
          IfSome q (λ count. count ≤ length rows)
      go None held = tt
      go (Some count) held = subst (λ g. g.count ≤ length g.rows) (sym held) gathers.few

  pub line_is : line_of desks rows q ≡ written_of desks ds
  line_is = go q is.held ∙ ap (λ w. cond w (reckoning_text desks (reckoned desks (answers_of ds))) []) is.whole
    where
      go : (q : Option ℕ) → IfSome q (λ count. gathered rows count ≡ sums_with_all empty (answers_of ds)) →
          line_of desks rows q ≡ cond (is_some q) (reckoning_text desks (reckoned desks (answers_of ds))) []
      go (Some count) held =
          ap (λ xs. reckoning_text desks (reckoned desks xs)) (ap held_in held ∙ gathers.holds)
          ∙ ap (reckoning_text desks) (first_enough desks (length before) (answers_of ds) room)
      go None held = refl
