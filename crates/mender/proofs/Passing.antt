-- A piece that is judged and kept or dropped is a pass of one part (`keeps_piece`, `drops_piece`), passes one after the other are one
-- (`pass_then`), and a pass to the end of a file, from its beginning on, is the whole (`all_done`).
use Prim.Native.Nat.{ℕ, ◌+◌, ◌-◌, ◌≤◌, ◌<◌}
use native.Mathlib.Omega.{arith}
use native.Mathlib.Nat.{le_refl}
use mathlib.Core.Path.{◌≡◌, refl, sym, ap, ap₂, ◌∙◌}
use mathlib.Core.List.{List, [], ◌∷◌, ◌++◌, map, append_assoc, append-nil, map-append}
use mathlib.Core.Option.{Option, none, some}
use lib.ListN.{length, take, drop, set, length-append, length-drop, length-map, drop_of_length-le}
use lib.Seq.{sets, length-take-le, drop-drop, take-add}
use Rattle.snapshot.specs.Refusals.{number_of}
use Rattle.snapshot.specs.declared.Refusal.{Refusal}
use Rattle.snapshot.specs.declared.Refusal.TheVariants.{CountRange, ProcessRange, Busy, Idle, DayFull, LentSize, CutShort}
use Rattle.snapshot.specs.declared.Refusal.TheVariants.{UnknownKind, WrongLength, OpenState, CannotArise, RoomShort, TableShort}
use Rattle.snapshot.specs.declared.Refusal.TheVariants.{NoPage, TooMany}
use Rattle.snapshot.proofs.Lists.{sum_append, sets_then}
use Rattle.dayfile.specs.declared.Reading.{Reading}
use Rattle.dayfile.specs.Pieces.{Piece, first_piece_of, pieces_up_to, pieces}
use Rattle.dayfile.proofs.Pieces.{span_fits, first_piece}
use Rattle.days.specs.Happenings.{Box, outcome_in, box_after}
use Rattle.packed_rows.specs.Rows.{LongRows}
use Rattle.packed_days.specs.Boxes.{box_in}
use Rattle.mending.specs.declared.Judged.{Judged}
use Rattle.mender.specs.declared.Progress.{Progress}
use Rattle.mending.specs.Claims.{box_past}
use Rattle.mending.specs.Judging.{number_if, IsJudged}
use Rattle.mending.specs.Mending.{refusal_by, Part, judged, bytes_kept, kept_of, drop_by, drops_of}
use Rattle.mender.specs.Results.{row_of}
use Rattle.mender.specs.Passes.{Steady, Stage, stage, pieces_left, box_of, parts_left, bytes_in, IsPass}

-- ---- lists of parts

pub kept_append : (ps qs : List Part) → kept_of (ps ++ qs) ≡ kept_of ps ++ kept_of qs
kept_append [] qs = refl
kept_append (p ∷ ps) qs =
    ap (λ bs. bytes_kept p.refusal p.bytes ++ bs) (kept_append ps qs)
    ∙ sym (append_assoc (bytes_kept p.refusal p.bytes) (kept_of ps) (kept_of qs))

pub drops_append : (at : ℕ) (ps qs : List Part) → drops_of at (ps ++ qs) ≡ drops_of at ps ++ drops_of (at + bytes_in ps) qs
drops_append at [] qs = let e : at ≡ at + 0 = omega arith in ap (λ i. drops_of i qs) e
drops_append at (p ∷ ps) qs =
    let n = length p.bytes in
    let e : at + n + bytes_in ps ≡ at + (n + bytes_in ps) = omega arith in
    ap (λ ds. drop_by at n p.refusal ++ ds) (drops_append (at + n) ps qs ∙ ap (λ i. drops_of (at + n) ps ++ drops_of i qs) e)
    ∙ sym (append_assoc (drop_by at n p.refusal) (drops_of (at + n) ps) (drops_of (at + (n + bytes_in ps)) qs))

-- no more bytes are kept than there are, and no more parts dropped
kept_few : (ps : List Part) → length (kept_of ps) ≤ bytes_in ps
kept_few [] = le_refl 0
kept_few (p ∷ ps) = go p.refusal (kept_few ps)
  where
    go : (k : Option Refusal) → length (kept_of ps) ≤ bytes_in ps →
        length (bytes_kept k p.bytes ++ kept_of ps) ≤ length p.bytes + bytes_in ps
    go none l = simp length-append (omega arith)
    go (some k) l = omega arith

pub drops_few : (at : ℕ) (ps : List Part) → length (drops_of at ps) ≤ length ps
drops_few at [] = le_refl 0
drops_few at (p ∷ ps) = go p.refusal (drops_few (at + length p.bytes) ps)
  where
    go : (k : Option Refusal) → length (drops_of (at + length p.bytes) ps) ≤ length ps →
        length (drop_by at (length p.bytes) k ++ drops_of (at + length p.bytes) ps) ≤ length (p ∷ ps)
    go none l = omega arith
    go (some k) l = omega arith

-- ---- a piece

module _ {at : ℕ} {file : List ℕ} {b : Box} {j : Judged} {t : List (List ℕ)} {page : List ℕ} (is : IsJudged at file b j t page)
    (more : at < length file) where
  pub piece_fits : (0 < j.span) × (at + j.span ≤ length file)
  piece_fits =
      let l = length-drop at file in
      let fits = span_fits (drop at file) is.found (sym is.read) (omega arith) in
      let size = is.sized in
      (omega arith, omega arith)

  -- its bytes
  abbrev pub piece : List ℕ
  piece = take j.span (drop at file)

  pub piece_long : length piece ≡ j.span
  piece_long =
      let l = length-drop at file in
      let fits = piece_fits in
      length-take-le j.span (drop at file) (omega arith)

  -- the pieces of what is left are this one, and those of what is behind it
  piece_next : pieces (drop at file) ≡ first_piece_of (drop at file) is.found ∷ pieces (drop (at + j.span) file)
  piece_next =
      let l = length-drop at file in
      let bs = drop at file in
      first_piece bs is.found (sym is.read) (omega arith)
      ∙ ap (λ n. first_piece_of bs is.found ∷ pieces (drop n bs)) (sym is.sized)
      ∙ ap (λ cs. first_piece_of bs is.found ∷ pieces cs) (drop-drop j.span at file)

  -- and so are its parts
  piece_first : judged b (pieces (drop at file)) ≡
      record { bytes = piece; refusal = refusal_by is.found (outcome_in b is.found) } ∷ judged (box_in j.day t page) (pieces (drop (at + j.span) file))
  piece_first =
      let l = length-drop at file in
      let bs = drop at file in
      let size = sym is.sized in
      let box = sym is.after.box in
      ap (judged b) (first_piece bs is.found (sym is.read) (omega arith))
      ∙ (λ i. record { bytes = take (size i) bs; refusal = refusal_by is.found (outcome_in b is.found) } ∷ judged (box i) (pieces (drop (size i) bs)))
      ∙ ap (λ cs. record { bytes = piece; refusal = refusal_by is.found (outcome_in b is.found) } ∷ judged (box_in j.day t page) (pieces cs))
      (drop-drop j.span at file)

-- all between its ends, as the code finds it
pub between : (at n : ℕ) (l : List ℕ) → take (at + n - at) (drop at l) ≡ take n (drop at l)
between at n l = let e : at + n - at ≡ n = omega arith in ap (λ k. take k (drop at l)) e

-- every refusal has a number
number_some : (k : Refusal) → 0 < number_of k
number_some CountRange = omega arith
number_some ProcessRange = omega arith
number_some Busy = omega arith
number_some Idle = omega arith
number_some DayFull = omega arith
number_some LentSize = omega arith
number_some CutShort = omega arith
number_some UnknownKind = omega arith
number_some WrongLength = omega arith
number_some OpenState = omega arith
number_some CannotArise = omega arith
number_some RoomShort = omega arith
number_some TableShort = omega arith
number_some NoPage = omega arith
number_some TooMany = omega arith

number_none : (k : Option Refusal) → number_if k ≡ 0 → k ≡ none
number_none none q = refl
number_none (some k) q = absurd (let Some-number = number_some k in omega arith)

-- ---- a pass of one part

module _ (file : List ℕ) (s : Progress) (t : List (List ℕ)) (page room : List ℕ) (rows : List (List ℕ)) (j : Judged)
    (t' : List (List ℕ)) (page' : List ℕ) (is : IsJudged s.at file (box_in s.day t page) j t' page') (more : s.at < length file)
  where
    abbrev bs : List ℕ
    bs = take j.span (drop s.at file)

    -- the progress behind the piece, with these counts
    abbrev behind : (kept drops : ℕ) → Progress
    behind kept drops = record { day = j.day; at = s.at + j.span; kept = kept; drops = drops }

    -- what is kept of a piece, and its drop, go into the next places
    one_part : (k : Option Refusal) → refusal_by is.found (outcome_in (box_in s.day t page) is.found) ≡ k → (kept drops : ℕ) (room' : List ℕ) (rows' : List (List ℕ)) →
        kept ≡ s.kept + length (bytes_kept k bs) → room' ≡ sets room s.kept (bytes_kept k bs) →
        drops ≡ s.drops + length (drop_by s.at j.span k) → rows' ≡ sets rows s.drops (map row_of (drop_by s.at j.span k)) →
        IsPass file 1 (stage s t page room rows) (stage (behind kept drops) t' page' room' rows')
    one_part k q kept drops room' rows' kept_is room-is drops-is rows_is =
        let fits = piece_fits is more in
        let long = piece_long is more in
        let b = box_in s.day t page in
        let pieces_are = piece_next is more in
        let part : Part = record { bytes = bs; refusal = k } in
        let kept-one : kept_of (part ∷ []) ≡ bytes_kept k bs = append-nil (bytes_kept k bs) in
        let drops-one : drops_of s.at (part ∷ []) ≡ drop_by s.at j.span k =
        append-nil (drop_by s.at (length bs) k) ∙ ap (λ n. drop_by s.at n k) long in
        record {
          done = part ∷ [];
          counted = refl;
          rest = sym (ap (drop 1) pieces_are);
          box = is.after.box ∙ sym (ap (λ ps. box_past b (map (λ p. p.reading) (take 1 ps))) pieces_are);
          parts = piece_first is more
              ∙ ap (λ o. record { bytes = bs; refusal = o } ∷ parts_left file (stage (behind kept drops) t' page' room' rows')) q;
          moved = omega arith;
          onward = omega arith;
          within = fits.1;
          kept = kept_is ∙ ap (λ l. s.kept + length l) (sym kept-one);
          room = room-is ∙ ap (sets room s.kept) (sym kept-one);
          drops = drops-is ∙ ap (λ l. s.drops + length l) (sym drops-one);
          rows = rows_is ∙ ap (λ l. sets rows s.drops (map row_of l)) (sym drops-one);
          long = is.after.long;
        }

    -- the refusal of the piece, if it has one
    abbrev refusal : Option Refusal
    refusal = refusal_by is.found (outcome_in (box_in s.day t page) is.found)

    pub keeps_piece : j.number ≡ 0 → (room' : List ℕ) →
        room' ≡ sets room s.kept (take (s.at + j.span - s.at) (drop s.at file)) →
        IsPass file 1 (stage s t page room rows) (stage (behind (s.kept + j.span) s.drops) t' page' room' rows)
    keeps_piece zero room' laid =
        one_part none (number_none refusal (sym is.numbered ∙ zero)) (s.kept + j.span) s.drops room' rows
        (ap (λ n. s.kept + n) (sym (piece_long is more))) (laid ∙ ap (sets room s.kept) (between s.at j.span file)) (omega arith) refl

    pub drops_piece : (j.number ≡ 0 → ⊥) → (rows' : List (List ℕ)) → rows' ≡ set rows s.drops (s.at ∷ j.span ∷ j.number ∷ []) →
        IsPass file 1 (stage s t page room rows) (stage (behind s.kept (s.drops + 1)) t' page' room rows')
    drops_piece number rows' put = go refusal refl
      where
        go : (k : Option Refusal) → refusal_by is.found (outcome_in (box_in s.day t page) is.found) ≡ k →
            IsPass file 1 (stage s t page room rows)
            (stage (record { day = j.day; at = s.at + j.span; kept = s.kept; drops = s.drops + 1 }) t' page' room rows')
        go none q = absurd (number (is.numbered ∙ ap number_if q))
        go (some k) q =
            one_part (some k) q s.kept (s.drops + 1) room rows' (omega arith) refl refl
            (put ∙ ap (λ n. set rows s.drops (s.at ∷ j.span ∷ n ∷ [])) (is.numbered ∙ ap number_if q))

-- ---- several

-- what is held once some were read, and then others
past_append : (b : Box) (xs ys : List Reading) → box_past b (xs ++ ys) ≡ box_past (box_past b xs) ys
past_append b [] ys = refl
past_append b (x ∷ xs) ys = past_append (box_after b x) xs ys

abbrev readings_of : List Piece → List Reading
readings_of ps = map (λ p. p.reading) ps

module _ {file : List ℕ} where
  pub pass_none : {w : Stage} → w.progress.at ≤ length file → LongRows w.table → IsPass file 0 w w
  pass_none within long =
      record {
        done = [];
        counted = refl;
        rest = refl;
        box = refl;
        parts = refl;
        moved = omega arith;
        onward = omega arith;
        within = within;
        kept = omega arith;
        room = refl;
        drops = omega arith;
        rows = refl;
        long = long;
      }

  pub pass_then : {i j : ℕ} {u v w : Stage} → IsPass file i u v → IsPass file j v w → IsPass file (i + j) u w
  pass_then {i} {j} {u} {v} {w} p q =
      let a = u.progress.at in
      let moved : v.progress.at ≡ a + bytes_in p.done = p.moved in
      let sum = sum_append (λ (x : Part). length x.bytes) p.done q.done in
      let kept = kept_append p.done q.done in
      let both = length-append (kept_of p.done) (kept_of q.done) in
      let dropping : drops_of a (p.done ++ q.done) ≡ drops_of a p.done ++ drops_of v.progress.at q.done =
      drops_append a p.done q.done ∙ ap (λ k. drops_of a p.done ++ drops_of k q.done) (sym moved) in
      let drops = length-append (drops_of a p.done) (drops_of v.progress.at q.done) in
      let rowsOne = map row_of (drops_of a p.done) in
      let rowsTwo = map row_of (drops_of v.progress.at q.done) in
      record {
        done = p.done ++ q.done;
        counted = length-append p.done q.done ∙ ap₂ ◌+◌ p.counted q.counted;
        rest = q.rest ∙ ap (drop j) p.rest ∙ drop-drop j i (pieces_left file u);
        box = q.box
            ∙ ap₂ (λ b ps. box_past b (readings_of (take j ps))) p.box p.rest
            ∙ sym (past_append (box_of u) (readings_of (take i (pieces_left file u))) _)
            ∙ sym (ap (box_past (box_of u)) (ap readings_of (take-add i j (pieces_left file u))
            ∙ map-append (λ (x : Piece). x.reading) (take i (pieces_left file u)) _));
        parts = p.parts ∙ ap (λ ps. p.done ++ ps) q.parts ∙ sym (append_assoc p.done q.done (parts_left file w));
        moved = let m = q.moved in omega arith;
        onward = let m = p.onward in let n = q.onward in omega arith;
        within = q.within;
        kept = let m = p.kept in let n = q.kept in let l = ap length kept in omega arith;
        room = q.room
            ∙ ap₂ (λ r k. sets r k (kept_of q.done)) p.room p.kept
            ∙ sets_then u.room u.progress.kept (kept_of p.done) (kept_of q.done)
            ∙ ap (sets u.room u.progress.kept) (sym kept);
        drops = let m = p.drops in let n = q.drops in let l = ap length dropping in omega arith;
        rows = q.rows
            ∙ ap₂ (λ r k. sets r k rowsTwo) p.rows
            (p.drops ∙ ap (λ k. u.progress.drops + k) (sym (length-map (drops_of a p.done) row_of)))
            ∙ sets_then u.rows u.progress.drops rowsOne rowsTwo
            ∙ ap (sets u.rows u.progress.drops)
            (sym (map-append row_of (drops_of a p.done) (drops_of v.progress.at q.done)) ∙ sym (ap (map row_of) dropping));
        long = q.long;
      }

  -- the counts stay below the place
  pub pass_steady : {count : ℕ} {w v : Stage} → IsPass file count w v → Steady w.progress → Steady v.progress
  pass_steady {count} {w} p steady =
      let l = kept_few p.done in
      let m = drops_few w.progress.at p.done in
      let a = steady.kept in let b = steady.drops in let c = p.moved in let d = p.onward in
      let e = p.kept in let f = p.drops in let g = p.counted in
      record { kept = omega arith; drops = omega arith }

-- at the end of the file nothing is left
pub none_left : (file : List ℕ) (w : Stage) → length file ≤ w.progress.at → parts_left file w ≡ []
unfolding pieces pieces_up_to
none_left file w end =
    let b = box_in w.progress.day w.table w.page in
    ap (λ bs. judged b (pieces bs)) (drop_of_length-le file {i = w.progress.at} end)
