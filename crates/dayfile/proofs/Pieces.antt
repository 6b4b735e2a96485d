-- The pieces of a file: none is empty, each record among them is read by itself, whatever follows it, and together they are the file
-- (`pieces_cut`). `pieces` is the first piece and then those of the rest (`pieces_unfold`).
use Prim.Native.Nat.{ℕ, zero, suc, ◌+◌, ◌≤◌, ◌<◌, min}
use native.Mathlib.Omega.{arith}
use native.Mathlib.Nat.{not-suc-le-zero, le_refl, min-le_right, le-min, min-eq_right}
use native.Mathlib.Decide.{dec_lt}
use mathlib.Core.Path.{◌≡◌, refl, sym, ap, ◌∙◌, subst}
use mathlib.Core.Logic.{◌⊎◌, inl, inr, ⊎_elim, by_cases}
use mathlib.Core.Bool.{Bool, true, false, cond}
use mathlib.Core.List.{List, [], ◌∷◌, ◌++◌}
use lib.ListN.{length, take, drop, length-drop, take-append-drop}
use lib.Seq.{length-take-le}
use lib.Dec.{eqb}
use denote.Enum.Bare.{sameb}
use Rattle.snapshot.specs.contracts.Refusal.{the_type}
use Rattle.snapshot.specs.Refusals.{number_of}
use Rattle.snapshot.specs.declared.Refusal.{Refusal}
use Rattle.snapshot.specs.declared.Refusal.TheVariants.{CountRange, ProcessRange, Busy, Idle, DayFull, LentSize, CutShort, UnknownKind, WrongLength}
use Rattle.snapshot.specs.declared.Refusal.TheVariants.{OpenState, CannotArise, RoomShort, TableShort, NoPage, TooMany}
use Rattle.snapshot.specs.declared.Request.{Request}
use Rattle.dayfile.specs.declared.Reading.{Reading}
use Rattle.dayfile.specs.declared.Reading.TheVariants.{Found, End, Refused}
use Rattle.dayfile.specs.Reader.{length_in, reading}
use Rattle.dayfile.specs.Pieces.{span_of, Piece, first_piece_of, cut_on, pieces_up_to, pieces}
use Rattle.dayfile.proofs.Reader.{found_consumes, refused_some, end_empty}
use Rattle.dayfile.proofs.Prefix.{found_alone}
use Rattle.dayfile.proofs.Counted.{counted_unfold}

-- ---- the bytes of a piece

-- what is passed over where the reader refuses: two bytes at least, or all that is left
refused_span : (bs : List ℕ) (k : Refusal) → 0 < length bs →
    let n = span_of bs (Refused k) in (0 < n) × (n ≤ length bs) × ((1 < n) ⊎ (n ≡ length bs))
unfolding span_of
refused_span bs k l = go (eqb (number_of k) 7)
  where
    two : (1 < min (2 + length_in bs) (length bs)) ⊎ (min (2 + length_in bs) (length bs) ≡ length bs)
    two =
        by_cases (dec_lt 1 (length bs)) (λ m. inl (le-min {k = 2} {a = (2 + length_in bs)} {b = length bs} (omega arith) m))
        (λ m. inr (min-eq_right (omega arith)))

    go : (b : Bool) → let n = cond b (length bs) (min (2 + length_in bs) (length bs)) in
        (0 < n) × (n ≤ length bs) × ((1 < n) ⊎ (n ≡ length bs))
    go true = (l, le_refl (length bs), inr refl)
    go false = (
      le-min {k = 1} {a = (2 + length_in bs)} {b = length bs} (omega arith) l,
      min-le_right (2 + length_in bs) (length bs),
      two,
    )

-- as the code finds them: all of them after 7, else as many as are said, if they are there
-- 7 is the number of this refusal alone
seven : (k : Refusal) → sameb the_type k CutShort ≡ eqb (number_of k) 7
seven CountRange = refl
seven ProcessRange = refl
seven Busy = refl
seven Idle = refl
seven DayFull = refl
seven LentSize = refl
seven CutShort = refl
seven UnknownKind = refl
seven WrongLength = refl
seven OpenState = refl
seven CannotArise = refl
seven RoomShort = refl
seven TableShort = refl
seven NoPage = refl
seven TooMany = refl

-- what is passed over, by whether the refusal is that one
pub span_if : (bs : List ℕ) (k : Refusal) (b : Bool) → b ≡ sameb the_type k CutShort →
    cond b (length bs) (min (2 + length_in bs) (length bs)) ≡ span_of bs (Refused k)
unfolding span_of
span_if bs k b e = ap (λ b. cond b (length bs) (min (2 + length_in bs) (length bs))) (e ∙ seven k)

-- what was read takes some of the bytes, and no more than are left
pub span_fits : (bs : List ℕ) (x : Reading) → reading bs ≡ x → 0 < length bs → (0 < span_of bs x) × (span_of bs x ≤ length bs)
unfolding span_of
span_fits bs (Found r next) q some = let c = found_consumes bs r next q in (omega arith, c.1)
span_fits bs End q some = absurd (let e = ap length (end_empty bs q) in omega arith)
span_fits bs (Refused k) q some = let s = refused_span bs k some in (s.0, s.1)

-- ---- a file is its first piece and the rest

abbrev next_pieces : (List ℕ → List Piece) → List ℕ → List Piece
next_pieces rest bs = cut_on rest bs (reading bs)

shorter_cut : (f g : List ℕ → List Piece) (bs : List ℕ) → ((after : List ℕ) → length after < length bs → f after ≡ g after) →
    next_pieces f bs ≡ next_pieces g bs
shorter_cut f g bs h = go (reading bs) refl
  where
    go : (x : Reading) → reading bs ≡ x → cut_on f bs x ≡ cut_on g bs x
    go (Found r next) q =
        let c = found_consumes bs r next q in
        ap (λ ps. first_piece_of bs (Found r next) ∷ ps) (h (drop next bs) (simp length-drop (omega arith)))
    go End q = refl
    go (Refused k) q =
        let some = refused_some bs k q in
        let s = refused_span bs k some in
        ap (λ ps. first_piece_of bs (Refused k) ∷ ps) (h (drop (span_of bs (Refused k)) bs) (simp length-drop (omega arith)))

nothing_cut : (f : List ℕ → List Piece) → next_pieces f [] ≡ []
unfolding reading
nothing_cut f = refl

pub pieces_unfold : (bs : List ℕ) → pieces bs ≡ cut_on pieces bs (reading bs)
unfolding pieces_up_to pieces
pieces_unfold = counted_unfold next_pieces shorter_cut nothing_cut pieces_up_to (λ bs. refl) (λ most bs. refl)

-- where there are bytes, there is a first piece
pub first_piece : (bs : List ℕ) (x : Reading) → reading bs ≡ x → 0 < length bs →
    pieces bs ≡ first_piece_of bs x ∷ pieces (drop (span_of bs x) bs)
unfolding span_of
first_piece bs (Found r next) q l = pieces_unfold bs ∙ ap (cut_on pieces bs) q
first_piece bs End q l = absurd (let e = ap length (end_empty bs q) in omega arith)
first_piece bs (Refused k) q l = pieces_unfold bs ∙ ap (cut_on pieces bs) q

-- ---- the pieces are the file

-- a piece has two bytes at least, but the last one may have one
abbrev pub Sized : (piece rest : List ℕ) → Type 0
Sized p bs = (0 < length p) × ((1 < length p) ⊎ (length bs ≡ 0))

-- a file, and pieces of which it is laid together: each is what the reader answered there, and a record is found whatever follows it
pub data Cuts : List ℕ → List Piece → Type 0 where
  over : Cuts [] []
  found : (p : List ℕ) {r : Request} {bs : List ℕ} {ps : List Piece} → Sized p bs →
      ((rest : List ℕ) → reading (p ++ rest) ≡ Found r (length p)) → Cuts bs ps →
      Cuts (p ++ bs) (record { bytes = p; reading = Found r (length p) } ∷ ps)
  broken : (p : List ℕ) {k : Refusal} {bs : List ℕ} {ps : List Piece} → Sized p bs → reading (p ++ bs) ≡ Refused k → Cuts bs ps →
      Cuts (p ++ bs) (record { bytes = p; reading = Refused k } ∷ ps)

-- a piece that the reader found at the front of a file, and the rest
first_found : (bs : List ℕ) (r : Request) (next : ℕ) → reading bs ≡ Found r next → (ps : List Piece) → Cuts (drop next bs) ps →
    Cuts bs (first_piece_of bs (Found r next) ∷ ps)
unfolding span_of
first_found bs r next q ps c =
    let took = found_consumes bs r next q in
    let p = take next bs in
    let long : length p ≡ next = length-take-le next bs took.1 in
    let again : reading (p ++ drop next bs) ≡ Found r (length p) = ap reading (take-append-drop next bs) ∙ q ∙ ap (Found r) (sym long) in
    subst (λ cs. Cuts cs (first_piece_of bs (Found r next) ∷ ps)) (take-append-drop next bs)
    (subst (λ n. Cuts (p ++ drop next bs) (record { bytes = p; reading = Found r n } ∷ ps)) long
    (found p (omega arith, inl (omega arith)) (λ rest. found_alone p (drop next bs) rest r again) c))

first_broken : (bs : List ℕ) (k : Refusal) → reading bs ≡ Refused k → (ps : List Piece) → Cuts (drop (span_of bs (Refused k)) bs) ps →
    Cuts bs (first_piece_of bs (Refused k) ∷ ps)
first_broken bs k q ps c =
    let n = span_of bs (Refused k) in
    let fits = refused_span bs k (refused_some bs k q) in
    let long = length-take-le n bs fits.1 in
    let rest = length-drop n bs in
    let sized : (1 < length (take n bs)) ⊎ (length (drop n bs) ≡ 0) = ⊎_elim (λ m. inl (omega arith)) (λ m. inr (omega arith)) fits.2 in
    subst (λ cs. Cuts cs (first_piece_of bs (Refused k) ∷ ps)) (take-append-drop n bs)
    (broken (take n bs) (omega arith, sized) (ap reading (take-append-drop n bs) ∙ q) c)

pub pieces_cut : (bs : List ℕ) → Cuts bs (pieces bs)
pieces_cut bs = go (suc (length bs)) bs (le_refl (suc (length bs)))
  where
    first : (bs : List ℕ) → ((after : List ℕ) → length after < length bs → Cuts after (pieces after)) → (x : Reading) → reading bs ≡ x →
        Cuts bs (cut_on pieces bs x)
    first bs later (Found r next) q =
        let took = found_consumes bs r next q in
        first_found bs r next q (pieces (drop next bs)) (later (drop next bs) (simp length-drop (omega arith)))
    first bs later End q = subst (λ cs. Cuts cs []) (sym (end_empty bs q)) over
    first bs later (Refused k) q =
        let n = span_of bs (Refused k) in
        let some = refused_some bs k q in
        let fits = refused_span bs k some in
        first_broken bs k q (pieces (drop n bs)) (later (drop n bs) (simp length-drop (omega arith)))

    go : (most : ℕ) (bs : List ℕ) → length bs < most → Cuts bs (pieces bs)
    go zero bs l = absurd (not-suc-le-zero l)
    go (suc most) bs l =
        subst (Cuts bs) (sym (pieces_unfold bs)) (first bs (λ after s. go most after (omega arith)) (reading bs) refl)
