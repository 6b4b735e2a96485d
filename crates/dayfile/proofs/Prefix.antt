-- The reader does not look past the ten bytes of the longest record: of ten and more it reads the same, whatever follows them
-- (`reading_prefix`). Nor does it look past a record: one that was found is found in its own bytes, whatever follows them
-- (`found_alone`).
use Prim.Native.Nat.{ℕ, zero, suc, ◌+◌, ◌*◌, ◌≤◌}
use native.Mathlib.Omega.{arith}
use mathlib.Core.Path.{◌≡◌, refl, sym, ap, ap₂, ◌∙◌}
use mathlib.Core.Bool.{Bool, true, false, cond, not, ◌||◌}
use mathlib.Core.List.{List, [], ◌∷◌, ◌++◌}
use mathlib.Core.Option.{Option, none, some}
use lib.ListN.{length, length-append, get_or-append}
use lib.Dec.{eqb, ltb}
use borrow.Author.Tests.{ltb-false, le-ltb, eqb-true, ne_eqb, not-false}
use Rattle.snapshot.specs.Refusals.{Cause, first_cause}
use Rattle.snapshot.specs.declared.Refusal.{Refusal}
use Rattle.snapshot.specs.declared.Refusal.TheVariants.{CutShort, UnknownKind, WrongLength}
use Rattle.snapshot.specs.declared.Request.{Request}
use Rattle.snapshot.specs.declared.Request.TheVariants.{Open, Update, Scan, Turn}
use Rattle.dayfile.specs.declared.Reading.{Reading}
use Rattle.dayfile.specs.declared.Reading.TheVariants.{Found, Refused}
use Rattle.dayfile.specs.Layout.{number_at, length_of}
use Rattle.dayfile.specs.Reader.{length_in, kind_in, reading_causes, record_of, reading_by, reading}
use Rattle.dayfile.proofs.Reader.{neither, finds_whole, found_is, found_consumes}

-- ---- what is read by the length, the kind and the record alone

abbrev kind_causes : (len kind : ℕ) → List Cause
kind_causes len kind = (eqb (length_of kind) 0, UnknownKind) ∷ (not (eqb len (length_of kind)), WrongLength) ∷ []

abbrev length_causes : (len kind : ℕ) → List Cause
length_causes len kind = (ltb len 4 || ltb 8 len, WrongLength) ∷ kind_causes len kind

abbrev judged : (len : ℕ) → Request → Option Refusal → Reading
judged len r none = Found r (2 + len)
judged len r (some k) = Refused k

module _ (bs : List ℕ) (h : 10 ≤ length bs) where
  -- no record of a right length is cut short
  causes_settled : first_cause (reading_causes bs) ≡ first_cause (length_causes (length_in bs) (kind_in bs))
  causes_settled = rw (ne_eqb (length bs) 1 (λ e. omega arith)) (go (ltb (length_in bs) 4 || ltb 8 (length_in bs)) refl)
    where
      rest : Option Refusal
      rest = first_cause (kind_causes (length_in bs) (kind_in bs))

      go : (b : Bool) → (ltb (length_in bs) 4 || ltb 8 (length_in bs)) ≡ b →
          cond b (some WrongLength) (cond (ltb (length bs) (2 + length_in bs)) (some CutShort) rest) ≡ cond b (some WrongLength) rest
      go true q = refl
      go false q =
          let l = ltb-false 8 (length_in bs) (neither (ltb (length_in bs) 4) (ltb 8 (length_in bs)) q).1 in
          rw (le-ltb (length bs) (2 + length_in bs) (omega arith))

  reading_judged : reading bs ≡ judged (length_in bs) (record_of bs (kind_in bs)) (first_cause (length_causes (length_in bs) (kind_in bs)))
  unfolding reading
  reading_judged =
      rw (ne_eqb (length bs) 0 (λ e. omega arith))
      (by_option (first_cause (reading_causes bs)) ∙ ap (judged (length_in bs) (record_of bs (kind_in bs))) causes_settled)
    where
      by_option : (o : Option Refusal) → reading_by bs o ≡ judged (length_in bs) (record_of bs (kind_in bs)) o
      by_option none = refl
      by_option (some k) = refl

-- ---- these stand in the first ten bytes

module _ (a b : List ℕ) where
  same_number : (k at : ℕ) → at + k ≤ length a → number_at k (a ++ b) at ≡ number_at k a at
  same_number zero at h = refl
  same_number (suc k) at h =
      ap₂ (λ x y. x + 256 * y) (get_or-append a b 0 at (omega arith)) (same_number k (at + 1) (omega arith))

  -- of the records only an update has its word behind the first six bytes
  same_record : (kind : ℕ) → 6 ≤ length a → (eqb kind 2 ≡ true → 10 ≤ length a) → record_of (a ++ b) kind ≡ record_of a kind
  unfolding record_of
  same_record kind h more = go (eqb kind 2) more
    where
      first : number_at 2 (a ++ b) 4 ≡ number_at 2 a 4
      first = same_number 2 4 (omega arith)

      go : (t : Bool) → (t ≡ true → 10 ≤ length a) →
          cond (eqb kind 1) (Open (number_at 2 (a ++ b) 4)) (cond t (Update (number_at 2 (a ++ b) 4) (number_at 4 (a ++ b) 6))
          (cond (eqb kind 3) (Scan (number_at 2 (a ++ b) 4)) (Turn (number_at 2 (a ++ b) 4))))
          ≡ cond (eqb kind 1) (Open (number_at 2 a 4)) (cond t (Update (number_at 2 a 4) (number_at 4 a 6))
          (cond (eqb kind 3) (Scan (number_at 2 a 4)) (Turn (number_at 2 a 4))))
      go true long = let l = long refl in rw (first, same_number 4 6 (omega arith))
      go false long = rw first

  pub reading_prefix : 10 ≤ length a → reading (a ++ b) ≡ reading a
  reading_prefix h =
      let by : ℕ → ℕ → Reading = λ len kind. judged len (record_of a kind) (first_cause (length_causes len kind)) in
      let causes = first_cause (length_causes (length_in (a ++ b)) (kind_in (a ++ b))) in
      let long = length-append a b in
      reading_judged (a ++ b) (omega arith)
      ∙ ap (λ r. judged (length_in (a ++ b)) r causes) (same_record (kind_in (a ++ b)) (omega arith) (λ q. h))
      ∙ ap₂ by (same_number 2 0 (omega arith)) (same_number 2 2 (omega arith))
      ∙ sym (reading_judged a h)

-- a record that was found is found in its own bytes
module _ (a b c : List ℕ) (r : Request) (q : reading (a ++ b) ≡ Found r (length a)) where
  pub found_alone : reading (a ++ c) ≡ Found r (length a)
  unfolding length_of
  found_alone =
      let is = found_is (a ++ b) r (length a) q in
      let six = (found_consumes (a ++ b) r (length a) q).0 in
      let size = neither (ltb (length_in (a ++ b)) 4) (ltb 8 (length_in (a ++ b))) is.0.1.0 in
      let low = ltb-false (length_in (a ++ b)) 4 size.0 in
      let high = ltb-false 8 (length_in (a ++ b)) size.1 in
      let end = is.2 in
      let same_length : length_in (a ++ c) ≡ length_in (a ++ b) = same_number a c 2 0 (omega arith) ∙ sym (same_number a b 2 0 (omega arith)) in
      let same_kind : kind_in (a ++ c) ≡ kind_in (a ++ b) = same_number a c 2 2 (omega arith) ∙ sym (same_number a b 2 2 (omega arith)) in
      let known : length_of (kind_in (a ++ b)) ≡ length_in (a ++ b) = sym (eqb-true _ _ (not-false _ is.0.1.1.1.1.0)) in
      let word : eqb (kind_in (a ++ b)) 2 ≡ true → 10 ≤ length a =
      λ two. (let eight : 8 ≡ length_in (a ++ b) = ap length_of (sym (eqb-true (kind_in (a ++ b)) 2 two)) ∙ known in omega arith) in
      let record_is : record_of (a ++ c) (kind_in (a ++ b)) ≡ r =
      same_record a c (kind_in (a ++ b)) six word ∙ sym (same_record a b (kind_in (a ++ b)) six word) ∙ sym is.1 in
      let whole = length-append a c in
      finds_whole (a ++ c) (omega arith) (omega arith) (omega arith) (ap length_of same_kind ∙ known ∙ sym same_length)
      ∙ ap₂ Found (ap (record_of (a ++ c)) same_kind ∙ record_is) (omega arith)
