-- A pass of the program: there is room for what its parts come to (`room_enough`), and these are handed to the system (`passed`). What is
-- handed to it by passes one after the other are the parts of the file (`Ahead`).
use Prim.Native.Nat.{ℕ, ◌*◌, ◌≤◌, ◌<◌}
use native.Mathlib.Decide.{dec_lt}
use native.Mathlib.Omega.{arith}
use mathlib.Core.Path.{◌≡◌, refl, sym, ap, ◌∙◌, subst}
use mathlib.Core.Logic.{by_cases}
use mathlib.Core.Bool.{Bool, true, false, true≢false}
use mathlib.Core.List.{List, [], ◌∷◌, ◌++◌, map}
use lib.ListN.{length, take, drop, length-map, drop_of_length-le}
use lib.Seq.{sets, take_at}
use Rattle.dayfile.specs.Pieces.{pieces_up_to, pieces}
use Rattle.packed_days.specs.Boxes.{box_in}
use Rattle.mending.specs.Mending.{Part, judged, kept_of, Drop, drops_of}
use Rattle.mender.specs.declared.Progress.{Progress}
use Rattle.mender.specs.Results.{row_of}
use Rattle.mender.specs.Passes.{stage, IsPassUpTo}
use Rattle.mender.proofs.Passing.{drops_few}
use Rattle.mender.proofs.Rooms.{pass_short, front_stored}
use Rattle.mendlines.specs.DropText.{drop_text, rows_text, drops_text}
use Rattle.streams.specs.System.{IsSent}
use Rattle.day_mend.specs.declared.Stand.{Stand}
use Rattle.day_mend.specs.Runs.{Tells, IsWritten, Writes, over, stops, goes_on, parts_from, IsPassed}

-- the first places of an output that was stored from its first place on
stored_front : {A : Type 0} (xs output after : List A) (n : ℕ) → after ≡ sets output 0 xs → n ≡ length xs → length xs ≤ length output →
    take n after ≡ xs
stored_front xs output after n is long fits =
    ap (take n) (is ∙ front_stored xs output fits) ∙ take_at xs (drop (length xs) output) n (sym long)

-- the text of rows is that of their drops
rows_text_lem : (ds : List Drop) → rows_text (map row_of ds) ≡ drops_text ds
rows_text_lem [] = refl
rows_text_lem (d ∷ ds) = ap (λ t. drop_text d ++ t) (rows_text_lem ds)

module _ (file : List ℕ) (s : Stand) (t : List (List ℕ)) (page room : List ℕ) (rows : List (List ℕ)) (p : Progress)
    (t' : List (List ℕ)) (page' room' : List ℕ) (rows' : List (List ℕ)) (more : s.at < length file)
    (is : IsPassUpTo file 1024 (stage (record { day = s.day; at = s.at; kept = 0; drops = 0 }) t page room rows)
    (stage p t' page' room' rows'))
    (wide : length room ≡ 10240) (many : length rows ≡ 1024) where
  abbrev done : List Part
  done = is.pass.done

  abbrev drops : List Drop
  drops = drops_of s.at done

  -- how much it comes to
  few : (p.kept ≡ length (kept_of done)) × (p.drops ≡ length drops) × (length (kept_of done) ≤ 10 * 1024) × (length drops ≤ 1024)
  few =
      let k = is.pass.kept in let d = is.pass.drops in
      let short = pass_short is.pass in let many = drops_few s.at done in
      let count = is.pass.counted in let most = is.few in
      (omega arith, omega arith, omega arith, omega arith)

  pub room_enough : (p.kept ≤ 10240) × (p.drops ≤ 1024)
  room_enough = let f = few in (omega arith, omega arith)

  kept_front : take p.kept room' ≡ kept_of done
  kept_front =
      let f = few in
      stored_front (kept_of done) room room' p.kept is.pass.room f.0 (omega arith)

  lines_front : rows_text (take p.drops rows') ≡ drops_text drops
  lines_front =
      let f = few in
      let long = length-map drops row_of in
      ap rows_text (stored_front (map row_of drops) rows rows' p.drops is.pass.rows (f.1 ∙ sym long) (omega arith))
      ∙ rows_text_lem drops

  further : s.at < p.at
  further =
      by_cases (dec_lt p.at (length file)) (λ l. let all = is.all l in let on = is.pass.onward in omega arith) (λ l. omega arith)

  pub passed : (went told : Bool) → IsWritten (take p.kept room') (rows_text (take p.drops rows')) s.wrote.told went told →
      IsPassed file s t page (record { day = p.day; at = p.at; wrote = record { went = went; told = told } }) t' page'
  passed went told written =
      record {
        done = done;
        parts = is.pass.parts;
        moved = is.pass.moved;
        further = further;
        within = is.pass.within;
        written = subst (λ ls. IsWritten (kept_of done) ls s.wrote.told went told) lines_front
            (subst (λ ks. IsWritten ks (rows_text (take p.drops rows')) s.wrote.told went told) kept_front written);
        long = is.pass.long;
      }

-- ---- passes one after the other

-- where all was taken so far, what is handed on of the parts that are left is what is handed on of all; else that is known
abbrev pub Ahead : (all : List Part) → (at : ℕ) → (left : List Part) → (going telling : Bool) → Type 0
Ahead all at left true telling = (went told : Bool) → Writes at telling left went told → Writes 0 true all went told
Ahead all at left false telling = Writes 0 true all false telling

module _ (file : List ℕ) (all : List Part) (s : Stand) (t : List (List ℕ)) (page : List ℕ)
    (ahead : Ahead all s.at (parts_from file s t page) s.wrote.went s.wrote.told) where
  -- where standard output did not take all
  pub all_stopped : s.wrote.went ≡ false → Writes 0 true all s.wrote.went s.wrote.told
  all_stopped q =
      subst (λ b. Writes 0 true all b s.wrote.told) (sym q) (subst (λ b. Ahead all s.at (parts_from file s t page) b s.wrote.told) q ahead)

  module _ (going : s.wrote.went ≡ true) where
    on : Ahead all s.at (parts_from file s t page) true s.wrote.told
    on = subst (λ b. Ahead all s.at (parts_from file s t page) b s.wrote.told) going ahead

    pub goes_ahead : (p : Stand) (t' : List (List ℕ)) (page' : List ℕ) → IsPassed file s t page p t' page' →
        Ahead all p.at (parts_from file p t' page') p.wrote.went p.wrote.told
    goes_ahead p t' page' is = go p.wrote.went is.written
      where
        go : (b : Bool) → IsWritten (kept_of is.done) (drops_text (drops_of s.at is.done)) s.wrote.told b p.wrote.told →
            Ahead all p.at (parts_from file p t' page') b p.wrote.told
        go true w =
            λ went told later.
            on went told (subst (λ ps. Writes s.at s.wrote.told ps went told) (sym is.parts)
            (goes_on is.done w.0 w.1 (subst (λ a. Writes a p.wrote.told (parts_from file p t' page') went told) is.moved later)))
        go false w =
            subst (Writes 0 true all false) (sym w.1) (on false s.wrote.told
            (subst (λ ps. Writes s.at s.wrote.told ps false s.wrote.told) (sym is.parts)
            (stops is.done (parts_from file p t' page') w.0)))

    -- at the end of the file
    pub all_passed : length file ≤ s.at → Writes 0 true all s.wrote.went s.wrote.told
    unfolding pieces pieces_up_to
    all_passed end =
        let none = ap (λ bs. judged (box_in s.day t page) (pieces bs)) (drop_of_length-le file {i = s.at} end) in
        subst (λ b. Writes 0 true all b s.wrote.told) (sym going)
        (on true s.wrote.told (subst (λ ps. Writes s.at s.wrote.told ps true s.wrote.told) (sym none) over))

-- ---- lines

pub untold : (telling : Bool) (lines : List ℕ) → telling ≡ false → Tells telling lines false
untold true lines q = absurd (true≢false q)
untold false lines q = refl

pub told_by : (telling : Bool) (lines : List ℕ) (told : Bool) → telling ≡ true → IsSent lines told → Tells telling lines told
told_by true lines told q sent = sent
told_by false lines told q sent = absurd (true≢false (sym q))

-- ---- nothing

pub none_written : (parts : List Part) (went told : Bool) → parts ≡ [] → went ≡ true → told ≡ true → Writes 0 true parts went told
none_written parts went told q w t =
    subst (λ ps. Writes 0 true ps went told) (sym q)
    (subst (λ b. Writes 0 true [] b told) (sym w) (subst (Writes 0 true [] true) (sym t) over))
