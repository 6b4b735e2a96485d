-- Every file is mended as is claimed (`day_mended`), and one that runs without refusal stays as it is (`whole_kept`).
use Prim.Native.Nat.{ℕ, suc, ◌+◌, ◌<◌}
use native.Mathlib.Omega.{arith}
use mathlib.Core.Path.{◌≡◌, refl, sym, ap, ap₂, ◌∙◌, subst}
use mathlib.Core.Bool.{cond, not}
use mathlib.Core.List.{List, [], ◌∷◌, ◌++◌, map}
use mathlib.Core.Option.{Option, none, some, none-ne-some}
use lib.ListN.{length}
use lib.Seq.{drop_at}
use Rattle.snapshot.specs.Lists.{All}
use Rattle.snapshot.specs.Refusals.{number_of}
use Rattle.snapshot.specs.Demand.{refusal_of}
use Rattle.snapshot.specs.Replies.{reply_of}
use Rattle.snapshot.specs.declared.Refusal.{Refusal}
use Rattle.snapshot.specs.declared.Answer.{Answer}
use Rattle.snapshot.specs.declared.Answer.TheVariants as Answers
use Rattle.snapshot.specs.declared.Outcome.{Outcome}
use Rattle.snapshot.specs.declared.Request.{Request}
use Rattle.admission.specs.Checks.{is_refusal}
use Rattle.dayfile.specs.declared.Reading.{Reading}
use Rattle.dayfile.specs.declared.Reading.TheVariants.{Found, End, Refused}
use Rattle.dayfile.specs.Reader.{reading, reader_reply}
use Rattle.dayfile.specs.Files.{read_on, readings_up_to, readings}
use Rattle.dayfile.specs.Pieces.{Piece, pieces}
use Rattle.dayfile.proofs.Files.{readings_unfold}
use Rattle.dayfile.proofs.Pieces.{Cuts, over, found, broken, pieces_cut}
use Rattle.days.specs.Happenings.{Box, blank_box, box_after, outcome_in, Happening, happening_in, happenings, file_on, day_of}
use Rattle.days.proofs.Boxes.{unread_stays, answered_stays}
use Rattle.mending.specs.Mending.{refusal_by, judged, parts_of, bytes_kept, kept_of, Drop, drop_by, drops_of, mended, dropped}
use Rattle.mending.specs.Claims.{Partition, number_by, numbers_in, read_through, run_of, refusal_in, accepted, box_past, Mends}
use Rattle.mending.specs.Claims as Claims

-- ---- what is read is read again

-- a record in front is read first, and then what is behind it
found_first : (p : List ℕ) (r : Request) → ((rest : List ℕ) → reading (p ++ rest) ≡ Found r (length p)) → (rest : List ℕ) →
    readings (p ++ rest) ≡ Found r (length p) ∷ readings rest
found_first p r alone rest =
    readings_unfold (p ++ rest)
    ∙ ap (read_on readings (p ++ rest)) (alone rest)
    ∙ ap (λ bs. Found r (length p) ∷ readings bs) (drop_at p rest (length p) refl)

-- what the reader refused ends a file
broken_first : (bs : List ℕ) (k : Refusal) → reading bs ≡ Refused k → readings bs ≡ Refused k ∷ []
broken_first bs k q = readings_unfold bs ∙ ap (read_on readings bs) q

-- what is dropped leaves the box as it was
dropped_stays : (b : Box) (x : Reading) (k : Refusal) → refusal_by x (outcome_in b x) ≡ some k → box_after b x ≡ b
dropped_stays b (Found r next) k q = answered_stays b r next k q
dropped_stays b End k q = unread_stays b End tt
dropped_stays b (Refused j) k q = unread_stays b (Refused j) tt

-- ---- kept and dropped bytes

keeps_all : (p : List ℕ) {at : ℕ} {file kept : List ℕ} {drops : List Drop} → Partition (at + length p) file kept drops →
    Partition at (p ++ file) (p ++ kept) drops
keeps_all [] {at} {file} {kept} {drops} h = let e : at + 0 ≡ at = omega arith in subst (λ i. Partition i file kept drops) e h
keeps_all (byte ∷ p) {at} {file} {kept} {drops} h =
    let e : at + suc (length p) ≡ suc at + length p = omega arith in
    Claims.keeps (keeps_all p (subst (λ i. Partition i file kept drops) e h))

-- a piece, and what is kept and dropped of those behind it
part_of : (at : ℕ) (p : List ℕ) → 0 < length p → {file kept : List ℕ} {drops : List Drop} → (k : Option Refusal) →
    Partition (at + length p) file kept drops → Partition at (p ++ file) (bytes_kept k p ++ kept) (drop_by at (length p) k ++ drops)
part_of at p l none h = keeps_all p h
part_of at p l (some k) h = Claims.loses p l h

together : (b : Box) (at : ℕ) {file : List ℕ} {ps : List Piece} → Cuts file ps →
    Partition at file (kept_of (judged b ps)) (drops_of at (judged b ps))
together b at over = Claims.over
together b at (found p {r} l alone c) =
    let x = Found r (length p) in
    part_of at p l.0 (refusal_by x (outcome_in b x)) (together (box_after b x) (at + length p) c)
together b at (broken p {k} l q c) = part_of at p l.0 (some k) (together (box_after b (Refused k)) (at + length p) c)

-- ---- what is kept runs as it ran

-- the readings of pieces
abbrev readings_in : List Piece → List Reading
readings_in ps = map (λ p. p.reading) ps

-- what is kept is read as the records that were not refused
abbrev kept_readings : Box → List Piece → List Reading
kept_readings b [] = []
kept_readings b (p ∷ ps) =
    cond (not (is_refusal (refusal_by p.reading (outcome_in b p.reading)))) (p.reading ∷ kept_readings (box_after b p.reading) ps)
    (kept_readings (box_after b p.reading) ps)

kept_read : (b : Box) {file : List ℕ} {ps : List Piece} → Cuts file ps → readings (kept_of (judged b ps)) ≡ kept_readings b ps
unfolding readings_up_to readings
kept_read b over = refl
kept_read b (found p {r} {ps = ps} l alone c) = go (refusal_by x (outcome_in b x)) (kept_read (box_after b x) c)
  where
    x : Reading
    x = Found r (length p)

    go : (k : Option Refusal) → readings (kept_of (judged (box_after b x) ps)) ≡ kept_readings (box_after b x) ps →
        readings (bytes_kept k p ++ kept_of (judged (box_after b x) ps))
        ≡ cond (not (is_refusal k)) (x ∷ kept_readings (box_after b x) ps) (kept_readings (box_after b x) ps)
    go none h = found_first p r alone _ ∙ ap (λ xs. x ∷ xs) h
    go (some k) h = h
kept_read b (broken p {k} l q c) = kept_read (box_after b (Refused k)) c

-- what happens by what is kept is what happened and was accepted; and the box is the same then
kept_happens : (b : Box) (ps : List Piece) → happenings b (kept_readings b ps) ≡ accepted (happenings b (readings_in ps))
kept_happens b [] = refl
kept_happens b (p ∷ ps) = go (refusal_by x (outcome_in b x)) refl (kept_happens (box_after b x) ps)
  where
    x : Reading
    x = p.reading

    later : List Happening
    later = accepted (happenings (box_after b x) (readings_in ps))

    go : (k : Option Refusal) → refusal_by x (outcome_in b x) ≡ k → happenings (box_after b x) (kept_readings (box_after b x) ps) ≡ later →
        happenings b (cond (not (is_refusal k)) (x ∷ kept_readings (box_after b x) ps) (kept_readings (box_after b x) ps))
        ≡ cond (not (is_refusal k)) (happening_in b x ∷ later) later
    go none q h = ap (λ hs. happening_in b x ∷ hs) h
    go (some k) q h =
        ap (λ c. happenings c (kept_readings (box_after b x) ps)) (sym (dropped_stays b x k q)) ∙ h

kept_ends : (b : Box) (ps : List Piece) → box_past b (kept_readings b ps) ≡ box_past b (readings_in ps)
kept_ends b [] = refl
kept_ends b (p ∷ ps) = go (refusal_by x (outcome_in b x)) refl (kept_ends (box_after b x) ps)
  where
    x : Reading
    x = p.reading

    go : (k : Option Refusal) → refusal_by x (outcome_in b x) ≡ k →
        box_past (box_after b x) (kept_readings (box_after b x) ps) ≡ box_past (box_after b x) (readings_in ps) →
        box_past b (cond (not (is_refusal k)) (x ∷ kept_readings (box_after b x) ps) (kept_readings (box_after b x) ps))
        ≡ box_past (box_after b x) (readings_in ps)
    go none q h = h
    go (some k) q h = ap (λ c. box_past c (kept_readings (box_after b x) ps)) (sym (dropped_stays b x k q)) ∙ h

-- none of them is refused
abbrev Unrefused : List Happening → Type 0
Unrefused hs = All (λ h. refusal_in h ≡ none) hs

accepted_unrefused : (hs : List Happening) → Unrefused (accepted hs)
accepted_unrefused [] = tt
accepted_unrefused (h ∷ hs) = go (refusal_in h) refl (accepted_unrefused hs)
  where
    go : (k : Option Refusal) → refusal_in h ≡ k → Unrefused (accepted hs) → Unrefused (cond (not (is_refusal k)) (h ∷ accepted hs) (accepted hs))
    go none q later = (q, later)
    go (some k) q later = later

-- ---- the numbers of refusals

abbrev numbers_of : Option Refusal → List ℕ
numbers_of none = []
numbers_of (some k) = number_of k ∷ []

-- what is printed is the number of the refusal
number_is : (x : Reading) (o : Outcome) → number_by (reader_reply x) (reply_of [] o.answer) ≡ numbers_of (refusal_by x o)
number_is (Found r next) o = go o.answer
  where
    go : (a : Answer) → number_by (reader_reply (Found r next)) (reply_of [] a) ≡ numbers_of (refusal_of a)
    go (Answers.Refused k) = refl
    go Answers.Opened = refl
    go Answers.Called = refl
    go Answers.Read = refl
    go (Answers.Page lender at turns) = refl
    go (Answers.Written turns) = refl
number_is End o = refl
number_is (Refused k) o = refl

drops_numbered : (b : Box) (at : ℕ) (ps : List Piece) →
    map (λ d. d.number) (drops_of at (judged b ps)) ≡ numbers_in (happenings b (readings_in ps))
drops_numbered b at [] = refl
drops_numbered b at (p ∷ ps) =
    let x = p.reading in
    go (refusal_by x (outcome_in b x)) (drops_of (at + length p.bytes) (judged (box_after b x) ps))
    ∙ ap₂ (λ ns ms. ns ++ ms) (sym (number_is x (outcome_in b x))) (drops_numbered (box_after b x) (at + length p.bytes) ps)
  where
    go : (k : Option Refusal) (ds : List Drop) →
        map (λ d. d.number) (drop_by at (length p.bytes) k ++ ds) ≡ numbers_of k ++ map (λ d. d.number) ds
    go none ds = refl
    go (some k) ds = refl

none_numbered : (hs : List Happening) → Unrefused hs → numbers_in hs ≡ []
none_numbered [] u = refl
none_numbered (h ∷ hs) u =
    ap₂ (λ ns ms. ns ++ ms) (number_is h.reading h.outcome ∙ ap numbers_of u.0) (none_numbered hs u.1)

numbered_none : (hs : List Happening) → numbers_in hs ≡ [] → Unrefused hs
numbered_none [] q = tt
numbered_none (h ∷ hs) q =
    let here = ap (λ ns. ns ++ numbers_in hs) (number_is h.reading h.outcome) in
    go (refusal_in h) refl (sym here ∙ q) (numbered_none hs)
  where
    go : (k : Option Refusal) → refusal_in h ≡ k → numbers_of k ++ numbers_in hs ≡ [] → (numbers_in hs ≡ [] → Unrefused hs) → Unrefused (h ∷ hs)
    go none e q later = (e, later q)
    go (some k) e q later = absurd (let l = ap length q in omega arith)

-- ---- a file that runs without refusal

-- where a piece is not refused, and all behind it stays, all stays
stays_whole : (at : ℕ) (p : List ℕ) {file kept : List ℕ} {drops : List Drop} (k : Option Refusal) → k ≡ none →
    (kept ≡ file) × (drops ≡ []) → (bytes_kept k p ++ kept ≡ p ++ file) × (drop_by at (length p) k ++ drops ≡ [])
stays_whole at p none q h = (ap (λ bs. p ++ bs) h.0, h.1)
stays_whole at p (some k) q h = absurd (none-ne-some k (sym q))

unrefused_stays : (b : Box) (at : ℕ) {file : List ℕ} {ps : List Piece} → Cuts file ps → Unrefused (file_on b file) →
    (kept_of (judged b ps) ≡ file) × (drops_of at (judged b ps) ≡ [])
unrefused_stays b at over u = (refl, refl)
unrefused_stays b at (found p {r} {bs} l alone c) u =
    let x = Found r (length p) in
    let runs = subst Unrefused (ap (happenings b) (found_first p r alone bs)) u in
    stays_whole at p (refusal_by x (outcome_in b x)) runs.0 (unrefused_stays (box_after b x) (at + length p) c runs.1)
unrefused_stays b at (broken p {k} {bs} l q c) u =
    absurd (none-ne-some k (sym (subst Unrefused (ap (happenings b) (broken_first (p ++ bs) k q)) u).0))

-- ---- the claims

pub whole_kept : (file : List ℕ) → numbers_in (day_of file) ≡ [] → (mended file ≡ file) × (dropped file ≡ [])
unfolding parts_of day_of
whole_kept file q = unrefused_stays blank_box 0 (pieces_cut file) (numbered_none (day_of file) q)

pub day_mended : (file : List ℕ) → Mends file
unfolding parts_of day_of
day_mended file =
    let read = kept_read blank_box (pieces_cut file) in
    let same = ap (happenings blank_box) read ∙ kept_happens blank_box (pieces file) in
    let runs = ap numbers_in same ∙ none_numbered (accepted (run_of file)) (accepted_unrefused (run_of file)) in
    record {
      together = together blank_box 0 (pieces_cut file);
      numbers = drops_numbered blank_box 0 (pieces file);
      unrefused = runs;
      same = same;
      ends = ap (box_past blank_box) read ∙ kept_ends blank_box (pieces file);
      again = whole_kept (mended file) runs;
    }
