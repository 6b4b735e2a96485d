-- A pass of the code, one record at a time: what is still to happen in the file, noted from where the code stands, stays what the
-- whole pass notes (`lap_done`), and each lap leaves fewer (`lap_fewer`).
use Prim.Native.Nat.{ℕ, suc, ◌+◌, ◌-◌, ◌≤◌, ◌<◌}
use native.Mathlib.Omega.{arith}
use mathlib.Core.Path.{◌≡◌, refl, sym, ap, ◌∙◌, subst}
use mathlib.Core.Bool.{true, false, cond}
use mathlib.Core.List.{List, [], ◌++◌}
use lib.ListN.{length, take, drop, replicate, length-drop}
use lib.Seq.{take_all, drop-drop}
use Rattle.snapshot.specs.declared.Answer.{Answer}
use Rattle.snapshot.specs.declared.Answer.TheVariants.{Refused, Opened, Called, Read, Page, Written}
use Rattle.snapshot.specs.declared.Day.{Day}
use Rattle.snapshot.specs.declared.Outcome.{Outcome}
use Rattle.dayfile.specs.Reader.{reading}
use Rattle.dayfile.specs.declared.Reading.{Reading}
use Rattle.dayfile.specs.declared.Reading.TheVariants.{Found, End, Refused as Broken}
use Rattle.unbounded.specs.declared.Process.{Process}
use Rattle.unbounded.specs.Processes.{zero_process}
use Rattle.days.specs.Asking.{request_of, lent_to, asked_outcome, asked_table, asked_page}
use Rattle.days.specs.Happenings.{Box, Happening, file_on, day_after}
use Rattle.days.proofs.Files.{happen_on, file_unfold}
use Rattle.places.specs.Answers.{words_after, count_after, book_after}
use Rattle.book.specs.declared.notes.Notes.{Notes}
use Rattle.book.specs.Passes.{blank_notes, next_after, Consumes, notes_past, book_past, Noted, notes, Passed}

-- what the code has at the start of a lap
pub record Lap : Type 0 where
  pub notes : Notes
  pub table : List Process
  pub page : List ℕ
  pub book : List (List ℕ)

abbrev box_in : Lap → Box
box_in t = record { day = t.notes.day; table = t.table; page = t.page }

abbrev noted_in : Lap → Noted
noted_in t = record { words = t.notes.words; count = t.notes.count; book = t.book }

-- what is still to happen in the file
abbrev ahead : Lap → List ℕ → List Happening
ahead t bytes = cond t.notes.ended [] (file_on (box_in t) (drop t.notes.at bytes))

-- the day at the end of the file, and all that is noted of it
abbrev pub outcome_from : Lap → List ℕ → Day × Noted
outcome_from t bytes = (day_after t.notes.day (ahead t bytes), notes (noted_in t) (ahead t bytes))

pub record Ready (t : Lap) (bytes : List ℕ) : Type 0 where
  pub within : t.notes.at ≤ t.notes.end
  pub end_is : t.notes.end ≡ length bytes
  pub few : t.notes.count ≤ t.notes.at

-- how many laps there can still be
abbrev pub laps_left : Notes → ℕ
laps_left s = cond s.ended 0 (suc (s.end - s.at))

-- ---- a lap in which x is read

module _ (t : Lap) (x : Reading) where
  abbrev pub lap_lent : ℕ
  lap_lent = lent_to t.notes.day (request_of x)

  abbrev pub lap_outcome : Outcome
  lap_outcome = asked_outcome t.notes.day (take lap_lent t.table) t.page x

  abbrev pub lap_records : List Process
  lap_records = asked_table t.notes.day (take lap_lent t.table) t.page x

  abbrev pub next_lap : Lap
  next_lap =
      let page = asked_page t.notes.day (take lap_lent t.table) t.page x in
      record {
        notes = notes_past t.notes x lap_outcome;
        table = lap_records ++ drop lap_lent t.table;
        page = page;
        book = book_past t.notes x lap_outcome (take lap_outcome.day.count page) t.book;
      }

count_one : (k : ℕ) (a : Answer) → count_after k a ≤ k + 1
unfolding count_after
count_one k (Refused r) = omega arith
count_one k Opened = omega arith
count_one k Called = omega arith
count_one k Read = omega arith
count_one k (Page lender at turns) = omega arith
count_one k (Written turns) = omega arith

module _ (t : Lap) (bytes : List ℕ) (r : Ready t bytes) where
  pub lap_ready : (x : Reading) → Consumes x t.notes → Ready (next_lap t x) bytes
  unfolding notes_past
  lap_ready (Found y k) takes =
      let f = takes y k refl in
      let c = count_one t.notes.count (lap_outcome t (Found y k)).answer in
      let few = r.few in
      record { within = f.1; end_is = r.end_is; few = omega (arith, f, c, few) }
  lap_ready End takes = record { within = r.within; end_is = r.end_is; few = r.few }
  lap_ready (Broken k) takes = record { within = r.within; end_is = r.end_is; few = r.few }

  pub lap_fewer : (x : Reading) → Consumes x t.notes → t.notes.ended ≡ false → laps_left (next_lap t x).notes < laps_left t.notes
  unfolding notes_past
  lap_fewer (Found y k) takes q =
      let f = takes y k refl in
      subst (λ b. suc (t.notes.end - (t.notes.at + k)) < cond b 0 (suc (t.notes.end - t.notes.at))) (sym q) (omega (arith, f))
  lap_fewer End takes q = subst (λ b. 0 < cond b 0 (suc (t.notes.end - t.notes.at))) (sym q) (omega arith)
  lap_fewer (Broken k) takes q = subst (λ b. 0 < cond b 0 (suc (t.notes.end - t.notes.at))) (sym q) (omega arith)

  -- the rest of the file, where x is read first
  rest_is : take (t.notes.end - t.notes.at) (drop t.notes.at bytes) ≡ drop t.notes.at bytes
  rest_is = let e = r.end_is in take_all (t.notes.end - t.notes.at) (drop t.notes.at bytes) (simp length-drop (omega (arith, e)))

  ahead_is : (x : Reading) → x ≡ next_after t.notes bytes → t.notes.ended ≡ false →
      ahead t bytes ≡ happen_on file_on (box_in t) (drop t.notes.at bytes) x
  unfolding next_after
  ahead_is x is q =
      ap (λ b. cond b [] (file_on (box_in t) (drop t.notes.at bytes))) q ∙ file_unfold (box_in t) (drop t.notes.at bytes)
      ∙ ap (happen_on file_on (box_in t) (drop t.notes.at bytes)) (sym (is ∙ ap reading rest_is))

  next_outcome : (x : Reading) → (
    day_after t.notes.day (happen_on file_on (box_in t) (drop t.notes.at bytes) x),
    notes (noted_in t) (happen_on file_on (box_in t) (drop t.notes.at bytes) x),
  ) ≡ outcome_from (next_lap t x) bytes
  unfolding notes_past book_past words_after count_after book_after
  next_outcome (Found y k) =
      ap (λ l. (
        day_after (next_lap t (Found y k)).notes.day (file_on (box_in (next_lap t (Found y k))) l),
        notes (noted_in (next_lap t (Found y k)))
            (file_on (box_in (next_lap t (Found y k))) l),
      )) (drop-drop k t.notes.at bytes)
  next_outcome End = refl
  next_outcome (Broken k) = refl

  pub lap_done : (x : Reading) → x ≡ next_after t.notes bytes → t.notes.ended ≡ false →
      outcome_from t bytes ≡ outcome_from (next_lap t x) bytes
  lap_done x is q =
      ap (λ l. (day_after t.notes.day l, notes (noted_in t) l)) (ahead_is x is q) ∙ next_outcome x

-- ---- all laps

pub no_lap : (t : Lap) (bytes : List ℕ) → t.notes.ended ≡ true → outcome_from t bytes ≡ (t.notes.day, noted_in t)
no_lap t bytes q =
    ap (λ b. let l = cond b [] (file_on (box_in t) (drop t.notes.at bytes)) in (day_after t.notes.day l, notes (noted_in t) l)) q

module _ (bytes page : List ℕ) (book : List (List ℕ)) where
  -- the first
  abbrev pub first_lap : Lap
  first_lap = record { notes = blank_notes (length bytes); table = replicate 8 zero_process; page = page; book = book }

  pub first_ready : Ready first_lap bytes
  first_ready = record { within = omega arith; end_is = refl; few = omega arith }

  pub all_passed : (t : Lap) → outcome_from first_lap bytes ≡ outcome_from t bytes → t.notes.ended ≡ true →
      Passed t.notes bytes page book t.book
  all_passed t q halts =
      let e = sym (q ∙ no_lap t bytes halts) in
      record { day = ap (λ z. z.0) e; count = ap (λ z. z.1.count) e; book = ap (λ z. z.1.book) e }
