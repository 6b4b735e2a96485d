-- Two rooms that are sure to be enough (`room_sure`), how much a pass keeps at most (`pass_short`), what a pass over a whole file leaves in
-- two rooms (`whole_run`), and what mending answers and leaves by it.
use Prim.Native.Nat.{ℕ, ◌+◌, ◌*◌, ◌/◌, ◌≤◌, ◌<◌}
use native.Mathlib.Omega.{arith}
use native.Mathlib.Decide.{dec_lt}
use mathlib.Core.Path.{◌≡◌, sym, ap, ap₂, ◌∙◌, subst}
use mathlib.Core.Logic.{⊎_elim, by_cases}
use mathlib.Core.Bool.{Bool, true, false, cond, not, ◌||◌}
use mathlib.Core.List.{List, [], ◌∷◌, ◌++◌, map, append-nil}
use mathlib.Core.Option.{Option, none, some}
use lib.Dec.{leb, ltb}
use lib.ListN.{length, length-append, length-map, drop, replicate}
use lib.Seq.{sets, sets-eq}
use borrow.Author.Tests.{ltb-false, lt-ltb, le-ltb, lt-leb, le-leb}
use Rattle.snapshot.specs.Lists.{All}
use Rattle.snapshot.specs.declared.Refusal.{Refusal}
use Rattle.snapshot.specs.declared.Refusal.TheVariants.{RoomShort}
use Rattle.snapshot.proofs.Booleans.{or_neither}
use Rattle.dayfile.specs.declared.Reading.TheVariants.{Found, Refused as Broken}
use Rattle.dayfile.specs.Pieces.{Piece, pieces}
use Rattle.dayfile.proofs.Reader.{found_short}
use Rattle.dayfile.proofs.Pieces.{Sized, Cuts, over, found, broken, pieces_cut}
use Rattle.days.specs.Happenings.{Box, blank_box, box_after, outcome_in}
use Rattle.packed_days.specs.Boxes.{box_in}
use Rattle.packed_days.proofs.Blank.{blank_words, blank_box_lem}
use Rattle.mender.specs.declared.Progress.{Progress}
use Rattle.std.specs.Prelude.{Ok, Err}
use Rattle.mending.specs.Mending.{refusal_by, Part, judged, parts_of, bytes_kept, kept_of, Drop, drop_by, drops_of, mended, dropped}
use Rattle.mender.specs.Results.{row_of, lacks_room, mending_of, at_front, kept_with, rows_with}
use Rattle.mender.specs.Passes.{blank_progress, Stage, stage, parts_left, IsPass, IsPassUpTo, IsRun}
use Rattle.mender.proofs.Passing.{none_left}

-- ---- each byte is kept or dropped, and each drop but the last has two bytes at least

record Few (file kept : List ℕ) (drops : List Drop) : Type 0 where
  bytes : length kept ≤ length file
  rows : 2 * length drops ≤ length file + 1

more_part : (at : ℕ) (p rest : List ℕ) → Sized p rest → (k : Option Refusal) {kept : List ℕ} {drops : List Drop} → Few rest kept drops →
    Few (p ++ rest) (bytes_kept k p ++ kept) (drop_by at (length p) k ++ drops)
more_part at p rest size none few =
    let l = few.bytes in let m = few.rows in
    record { bytes = simp length-append (omega arith); rows = simp length-append (omega arith) }
more_part at p rest size (some k) few =
    let l = few.bytes in let m = few.rows in
    record {
      bytes = simp length-append (omega arith);
      rows = simp length-append (⊎_elim (λ n. omega arith) (λ n. omega arith) size.1);
    }

parts_few : (b : Box) (at : ℕ) {file : List ℕ} {ps : List Piece} → Cuts file ps → Few file (kept_of (judged b ps)) (drops_of at (judged b ps))
parts_few b at over = record { bytes = omega arith; rows = omega arith }
parts_few b at (found p {r} {bs} size alone c) =
    let x = Found r (length p) in
    more_part at p bs size (refusal_by x (outcome_in b x)) (parts_few (box_after b x) (at + length p) c)
parts_few b at (broken p {k} {bs} size q c) =
    more_part at p bs size (some k) (parts_few (box_after b (Broken k)) (at + length p) c)

pub room_sure : (file : List ℕ) (room rows : ℕ) → length file ≤ room → length file / 2 < rows → lacks_room file room rows ≡ false
unfolding lacks_room parts_of
room_sure file room rows wide many =
    let few = parts_few blank_box 0 (pieces_cut file) in
    let l = few.bytes in let m = few.rows in
    let kept : length (mended file) ≤ room = omega arith in
    let drops : length (dropped file) ≤ rows = omega arith in
    ap₂ ◌||◌ (le-ltb room (length (mended file)) kept) (le-ltb rows (length (dropped file)) drops)

-- ---- what is kept of a part has ten bytes at most

abbrev Short : Part → Type 0
Short p = length (bytes_kept p.refusal p.bytes) ≤ 10

short_kept : (k : Option Refusal) (p : List ℕ) → length p ≤ 10 → length (bytes_kept k p) ≤ 10
short_kept none p l = l
short_kept (some k) p l = omega arith

short_parts : (b : Box) {file : List ℕ} {ps : List Piece} → Cuts file ps → All Short (judged b ps)
short_parts b over = tt
short_parts b (found p {r} size alone c) =
    let x = Found r (length p) in
    (short_kept (refusal_by x (outcome_in b x)) p (found_short (p ++ []) r (length p) (alone [])), short_parts (box_after b x) c)
short_parts b (broken p {k} size q c) = (omega arith, short_parts (box_after b (Broken k)) c)

-- of so many parts, ten times as many: the first of parts that are short
front_short : (ps qs : List Part) → All Short (ps ++ qs) → length (kept_of ps) ≤ 10 * length ps
front_short [] qs short = omega arith
front_short (p ∷ ps) qs short =
    let here = short.0 in
    let later = front_short ps qs short.1 in
    simp length-append (omega arith)

pub pass_short : {file : List ℕ} {count : ℕ} {w v : Stage} (p : IsPass file count w v) → length (kept_of p.done) ≤ 10 * count
pass_short {file} {count} {w} {v} p =
    let b = box_in w.progress.day w.table w.page in
    let short = subst (All Short) p.parts (short_parts b (pieces_cut (drop w.progress.at file))) in
    subst (λ n. length (kept_of p.done) ≤ 10 * n) p.counted (front_short p.done (parts_left file v) short)

-- ---- a pass over a whole file

module _ (file : List ℕ) (room room' : List ℕ) (rows rows' : List (List ℕ)) (s : Progress) (t : List (List ℕ)) (page : List ℕ)
    (is : IsPassUpTo file (length file) (stage blank_progress blank_words (replicate 16 0) room rows) (stage s t page room' rows'))
  where
    at_end : length file ≤ s.at
    at_end = let p = is.pass.onward in by_cases (dec_lt s.at (length file)) (λ m. let all = is.all m in omega arith) (λ m. omega arith)

    all_parts : is.pass.done ≡ parts_of file
    unfolding parts_of
    all_parts =
        sym (append-nil is.pass.done)
        ∙ ap (λ ps. is.pass.done ++ ps) (sym (none_left file (stage s t page room' rows') at_end))
        ∙ sym is.pass.parts
        ∙ ap (λ b. judged b (pieces file)) blank_box_lem

    pub whole_run : IsRun file s × (room' ≡ sets room 0 (mended file)) × (rows' ≡ sets rows 0 (map row_of (dropped file)))
    whole_run =
        let p = is.pass in (
          record {
            kept = let e = ap (λ ps. length (kept_of ps)) all_parts in let k = p.kept in omega arith;
            drops = let e = ap (λ ps. length (drops_of 0 ps)) all_parts in let k = p.drops in omega arith;
          },
          p.room ∙ ap (λ ps. sets room 0 (kept_of ps)) all_parts,
          p.rows ∙ ap (λ ps. sets rows 0 (map row_of (drops_of 0 ps))) all_parts,
        )

-- ---- whether what was counted has room

not_above : (a b : ℕ) → leb a b ≡ not (ltb b a)
not_above a b =
    by_cases (dec_lt b a) (λ l. lt-leb a b l ∙ sym (ap not (lt-ltb b a l))) (λ l. le-leb a b (omega arith) ∙ sym (ap not (le-ltb b a (omega arith))))

module _ (file : List ℕ) (places rows : ℕ) (s : Progress) (is : IsRun file s) where
  pub bytes_fit : s.kept ≤ places → leb s.drops rows ≡ not (lacks_room file places rows)
  unfolding lacks_room
  bytes_fit fit =
      let kept = le-ltb places (length (mended file)) (subst (λ n. n ≤ places) is.kept fit) in
      not_above s.drops rows
      ∙ ap (λ n. not (ltb rows n)) is.drops
      ∙ ap (λ b. not (b || ltb rows (length (dropped file)))) (sym kept)

  pub bytes_lack : places < s.kept → leb s.kept places ≡ not (lacks_room file places rows)
  unfolding lacks_room
  bytes_lack lack =
      let kept = lt-ltb places (length (mended file)) (subst (λ n. places < n) is.kept lack) in
      lt-leb s.kept places lack ∙ ap (λ b. not (b || ltb rows (length (dropped file)))) (sym kept)

-- ---- what is answered and left

-- stores from the first place on, where there are as many places
pub front_stored : {A : Type 0} (xs output : List A) → length xs ≤ length output → sets output 0 xs ≡ at_front xs output
front_stored xs output l =
    let e : 0 + length xs ≡ length xs = omega arith in
    sets-eq xs output 0 (omega arith) ∙ ap (λ n. xs ++ drop n output) e

module _ (file room : List ℕ) (rows : List (List ℕ)) where
  abbrev lacks : Bool
  lacks = lacks_room file (length room) (length rows)

  pub refused_whole : lacks ≡ true → (mending_of file (length room) (length rows) ≡ Err RoomShort)
      × (kept_with file room (length rows) ≡ room) × (rows_with file (length room) rows ≡ rows)
  refused_whole q = (
    ap (λ b. cond b (Err RoomShort) (Ok (record { kept = length (mended file); drops = length (dropped file) }))) q,
    ap (λ b. cond b room (at_front (mended file) room)) q,
    ap (λ b. cond b rows (at_front (map row_of (dropped file)) rows)) q,
  )

  module _ (q : lacks ≡ false) where
    fits : (length (mended file) ≤ length room) × (length (dropped file) ≤ length rows)
    unfolding lacks_room
    fits =
        let both = or_neither (ltb (length room) (length (mended file))) (ltb (length rows) (length (dropped file))) q in
        (ltb-false _ _ both.0, ltb-false _ _ both.1)

    pub written_all : (mending_of file (length room) (length rows) ≡ Ok (record { kept = length (mended file); drops = length (dropped file) }))
        × (kept_with file room (length rows) ≡ sets room 0 (mended file))
        × (rows_with file (length room) rows ≡ sets rows 0 (map row_of (dropped file)))
    written_all =
        let many = length-map (dropped file) row_of in
        let few = fits in (
          ap (λ b. cond b (Err RoomShort) (Ok (record { kept = length (mended file); drops = length (dropped file) }))) q,
          ap (λ b. cond b room (at_front (mended file) room)) q ∙ sym (front_stored (mended file) room few.0),
          ap (λ b. cond b rows (at_front (map row_of (dropped file)) rows)) q
              ∙ sym (front_stored (map row_of (dropped file)) rows (omega arith)),
        )
