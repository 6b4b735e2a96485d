-- A lap of the code: what is still to be gathered from where it stands stays what the whole file gives (`gathers`), and so does how the
-- file ends (`ends`); and each lap leaves fewer (`less`).
use Prim.Native.Nat.{ℕ, suc, ◌-◌, ◌≤◌, ◌<◌}
use native.Mathlib.Omega.{arith}
use mathlib.Core.Path.{◌≡◌, refl, sym, ap, ap₂, ◌∙◌, subst}
use mathlib.Core.Bool.{true, false, cond}
use mathlib.Core.List.{List, [], ◌∷◌, ◌++◌}
use lib.ListN.{length, drop, length-drop}
use lib.Seq.{drop-drop}
use Rattle.std.specs.Prelude.{Option}
use Rattle.snapshot.specs.declared.Refusal.{Refusal}
use Rattle.snapshot.specs.declared.Outcome.{Outcome}
use Rattle.dayfile.specs.Reader.{reading}
use Rattle.dayfile.specs.declared.Reading.{Reading}
use Rattle.dayfile.specs.declared.Reading.TheVariants.{Found, End, Refused}
use Rattle.dayfile.proofs.Reader.{found_consumes}
use Rattle.days.specs.Happenings.{Box, Happening, box_after, outcome_in, happening_in, file_on}
use Rattle.days.proofs.Files.{happen_on, file_unfold}
use Rattle.figures.specs.Figures.{PageAnswer}
use Rattle.packed_days.specs.Boxes.{box_in, IsAfter}
use Rattle.gathering.specs.declared.Progress.{Progress}
use Rattle.gathering.specs.Answers.{page_answers, answers_in, ended_by}
use Rattle.gathering.specs.Gathered.{Gathered, with_one, sums_with_all}
use Rattle.gathering.specs.Laps.{gathered, progress_past, IsLap}

-- ---- what is left

-- what is still to happen
abbrev pub rest_of : Progress → List (List ℕ) → (page bytes : List ℕ) → List Happening
rest_of s t page bytes = cond s.ended [] (file_on (box_in s.day t page) (drop s.at bytes))

-- what is gathered once it has, and by which refusal the file ends
abbrev pub gathers_from : Progress → List (List ℕ) → (page : List ℕ) → (rows : List (List ℕ)) → (bytes : List ℕ) → Gathered
gathers_from s t page rows bytes = sums_with_all (gathered rows s.count) (answers_in (rest_of s t page bytes))

abbrev pub ends_from : Progress → List (List ℕ) → (page bytes : List ℕ) → Option Refusal
ends_from s t page bytes = cond s.ended s.refusal (ended_by (rest_of s t page bytes))

-- a number of laps that are left at most
abbrev pub laps_left : Progress → ℕ → ℕ
laps_left s length = cond s.ended 0 (suc (length - s.at))

pub with_both : (g : Gathered) (xs ys : List PageAnswer) → sums_with_all g (xs ++ ys) ≡ sums_with_all (sums_with_all g xs) ys
with_both g [] ys = refl
with_both g (a ∷ xs) ys = with_both (with_one g a) xs ys

-- ---- a lap

-- what a lap keeps
pub record Kept (bytes : List ℕ) (s : Progress) (t : List (List ℕ)) (page : List ℕ) (rows : List (List ℕ)) (s' : Progress)
    (t' : List (List ℕ)) (page' : List ℕ) (rows' : List (List ℕ)) : Type 0 where
  pub gathers : gathers_from s' t' page' rows' bytes ≡ gathers_from s t page rows bytes
  pub ends : ends_from s' t' page' bytes ≡ ends_from s t page bytes
  pub within : s'.at ≤ length bytes
  pub less : laps_left s' (length bytes) < laps_left s (length bytes)

module _ (s : Progress) (bytes : List ℕ) (t : List (List ℕ)) (page : List ℕ) (rows : List (List ℕ)) (going : s.ended ≡ false)
    (inside : s.at ≤ length bytes) where
  abbrev b : Box
  b = box_in s.day t page

  abbrev left : List ℕ
  left = drop s.at bytes

  -- what happens from here, where x stands next
  rest_is : (x : Reading) → x ≡ reading left → rest_of s t page bytes ≡ happen_on file_on b left x
  rest_is x q = ap (λ e. cond e [] (file_on b left)) going ∙ file_unfold b left ∙ ap (happen_on file_on b left) (sym q)

  ends_are : ends_from s t page bytes ≡ ended_by (rest_of s t page bytes)
  ends_are = ap (λ e. cond e s.refusal (ended_by (rest_of s t page bytes))) going

  laps_are : laps_left s (length bytes) ≡ suc (length bytes - s.at)
  laps_are = ap (λ e. cond e 0 (suc (length bytes - s.at))) going

  -- what is gathered in the end, where what is left to happen is known
  abbrev gathers_of : List Happening → Gathered
  gathers_of hs = sums_with_all (gathered rows s.count) (answers_in hs)

  module _ (o : Outcome) (t' : List (List ℕ)) (page' : List ℕ) (rows' : List (List ℕ)) (count : ℕ)
      (put : gathered rows' count ≡ sums_with_all (gathered rows s.count) (page_answers o.day.count o.answer)) where
    -- of the outcome of what was read
    put_of : (x : Reading) → o ≡ outcome_in b x →
        gathered rows' count ≡ sums_with_all (gathered rows s.count) (page_answers (outcome_in b x).day.count (outcome_in b x).answer)
    put_of x is = put ∙ ap (λ o. sums_with_all (gathered rows s.count) (page_answers o.day.count o.answer)) is

    kept : (x : Reading) → x ≡ reading left → o ≡ outcome_in b x → IsAfter x b o.day t' page' →
        Kept bytes s t page rows (progress_past s x o.day count) t' page' rows'
    unfolding progress_past
    kept (Found r next) q is after =
        let h = happening_in b (Found r next) in
        let here = rest_is (Found r next) q in
        let took = found_consumes left r next (sym q) in
        let long = length-drop s.at bytes in
        let laps = laps_are in
        let further = ap₂ file_on after.box (sym (drop-drop next s.at bytes)) in
        let later = answers_in (file_on (box_after b (Found r next)) (drop next left)) in
        record {
          gathers = ap₂ (λ g hs. sums_with_all g (answers_in hs)) (put_of (Found r next) is) further
              ∙ sym (with_both (gathered rows s.count) (page_answers h.outcome.day.count h.outcome.answer) later)
              ∙ ap gathers_of (sym here);
          ends = ap ended_by further ∙ ap ended_by (sym here) ∙ sym ends_are;
          within = omega (arith, took, long, inside);
          less = omega (arith, took, long, inside, laps);
        }
    kept End q is after =
        let laps = laps_are in
        record {
          gathers = put_of End is ∙ ap gathers_of (sym (rest_is End q));
          ends = ap ended_by (sym (rest_is End q)) ∙ sym ends_are;
          within = inside;
          less = omega (arith, laps);
        }
    kept (Refused k) q is after =
        let laps = laps_are in
        record {
          gathers = put_of (Refused k) is ∙ ap gathers_of (sym (rest_is (Refused k) q));
          ends = ap ended_by (sym (rest_is (Refused k) q)) ∙ sym ends_are;
          within = inside;
          less = omega (arith, laps);
        }

  pub lap_keeps : {s' : Progress} {t' : List (List ℕ)} {page' : List ℕ} {rows' : List (List ℕ)} →
      IsLap s bytes t page rows s' t' page' rows' → Kept bytes s t page rows s' t' page' rows'
  lap_keeps {t' = t'} {page'} {rows'} lap =
      subst (λ p. Kept bytes s t page rows p t' page' rows') (sym lap.progress)
      (kept lap.outcome t' page' rows' lap.count lap.gather lap.found lap.read lap.happened lap.after)

-- ---- where all is done

module _ (s : Progress) (t : List (List ℕ)) (page : List ℕ) (rows : List (List ℕ)) (bytes : List ℕ) (done : s.ended ≡ true) where
  pub all_gathered : gathers_from s t page rows bytes ≡ gathered rows s.count
  all_gathered =
      let left = file_on (box_in s.day t page) (drop s.at bytes) in
      ap (λ e. sums_with_all (gathered rows s.count) (answers_in (cond e [] left))) done

  pub all_ended : ends_from s t page bytes ≡ s.refusal
  all_ended = ap (λ e. cond e s.refusal (ended_by (rest_of s t page bytes))) done
