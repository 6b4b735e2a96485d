-- When `reading` finds a record, and what a record that was found says of the bytes.
use Prim.Native.Nat.{ℕ, zero, suc, ◌+◌, ◌≤◌, ◌<◌}
use native.Mathlib.Omega.{arith}
use mathlib.Core.Path.{◌≡◌, refl}
use mathlib.Core.Bool.{Bool, true, false, cond, ◌||◌, true≢false}
use mathlib.Core.List.{List, [], ◌∷◌}
use mathlib.Core.Option.{Option, none, some}
use lib.ListN.{length}
use lib.Dec.{eqb, ltb}
use borrow.Author.Tests.{ltb-false, le-ltb, eq-eqb, ne_eqb}
use Rattle.snapshot.specs.declared.Refusal.{Refusal}
use Rattle.snapshot.specs.Refusals.{first_cause}
use Rattle.snapshot.proofs.Causes.{Passes, accepted_passes}
use Rattle.snapshot.specs.declared.Request.{Request}
use Rattle.dayfile.specs.declared.Reading.TheVariants.{Found, End, Refused}
use Rattle.dayfile.specs.Layout.{length_of}
use Rattle.dayfile.specs.Reader.{length_in, kind_in, reading_causes, record_of, reading_by, reading}

pub neither : (a b : Bool) → a || b ≡ false → (a ≡ false) × (b ≡ false)
neither true b q = absurd (true≢false q)
neither false b q = (refl, q)

module _ (bs : List ℕ) where
  -- a whole record of a known kind is found
  pub finds_whole : 4 ≤ length_in bs → length_in bs ≤ 8 → 2 + length_in bs ≤ length bs → length_of (kind_in bs) ≡ length_in bs →
      reading bs ≡ Found (record_of bs (kind_in bs)) (2 + length_in bs)
  unfolding reading
  finds_whole low high whole known =
      simp (
        ne_eqb (length bs) 0 (λ e. omega arith),
        ne_eqb (length bs) 1 (λ e. omega arith),
        le-ltb (length_in bs) 4 low,
        le-ltb 8 (length_in bs) high,
        le-ltb (length bs) (2 + length_in bs) whole,
        ne_eqb (length_of (kind_in bs)) 0 (λ e. omega arith),
        eq-eqb (length_in bs) (length_of (kind_in bs)) (omega arith),
      )

  -- a record that is found passes every cause, is the record of its kind, and ends where its length says
  pub found_is : (r : Request) (next : ℕ) → reading bs ≡ Found r next →
      Passes (reading_causes bs) × (r ≡ record_of bs (kind_in bs)) × (next ≡ 2 + length_in bs)
  unfolding reading
  found_is r next = go (eqb (length bs) 0) (first_cause (reading_causes bs)) (accepted_passes (reading_causes bs))
    where
      go : (b : Bool) (o : Option Refusal) → (o ≡ none → Passes (reading_causes bs)) → cond b End (reading_by bs o) ≡ Found r next →
          Passes (reading_causes bs) × (r ≡ record_of bs (kind_in bs)) × (next ≡ 2 + length_in bs)
      go true o p h = let z : ◌≡◌ {A = ℕ} 0 1 = cc in absurd (omega arith)
      go false none p h = (p refl, cc, cc)
      go false (some k) p h = let z : ◌≡◌ {A = ℕ} 0 1 = cc in absurd (omega arith)

  -- and takes at least six bytes, and no more than are left
  pub found_consumes : (r : Request) (next : ℕ) → reading bs ≡ Found r next → (6 ≤ next) × (next ≤ length bs)
  found_consumes r next q =
      let is = found_is r next q in
      let long : 4 ≤ length_in bs = ltb-false (length_in bs) 4 (neither (ltb (length_in bs) 4) (ltb 8 (length_in bs)) is.0.1.0).0 in
      let whole : 2 + length_in bs ≤ length bs = ltb-false (length bs) (2 + length_in bs) is.0.1.1.0 in
      let end : next ≡ 2 + length_in bs = is.2 in
      (omega arith, omega arith)

  pub found_short : (r : Request) (next : ℕ) → reading bs ≡ Found r next → next ≤ 10
  found_short r next q =
      let is = found_is r next q in
      let short = ltb-false 8 (length_in bs) (neither (ltb (length_in bs) 4) (ltb 8 (length_in bs)) is.0.1.0).1 in
      let end : next ≡ 2 + length_in bs = is.2 in
      omega (arith, short, end)

  -- where there is a refusal, there are bytes
  pub refused_some : (k : Refusal) → reading bs ≡ Refused k → 0 < length bs
  unfolding reading
  refused_some k q = go (length bs) q
    where
      go : (n : ℕ) → cond (eqb n 0) End (reading_by bs (first_cause (reading_causes bs))) ≡ Refused k → 0 < n
      go zero q = let z : ◌≡◌ {A = ℕ} 0 1 = cc in absurd (omega arith)
      go (suc n) q = omega arith

-- and where there is the end, there are none
pub end_empty : (bs : List ℕ) → reading bs ≡ End → bs ≡ []
unfolding reading
end_empty [] q = refl
end_empty (b ∷ bs) q = go (eqb (length (b ∷ bs)) 0) (first_cause (reading_causes (b ∷ bs))) (ne_eqb (length (b ∷ bs)) 0 (λ e. omega arith)) q
  where
    go : (t : Bool) (o : Option Refusal) → t ≡ false → cond t End (reading_by (b ∷ bs) o) ≡ End → b ∷ bs ≡ []
    go true o n q = absurd (true≢false n)
    go false none n q = let z : ◌≡◌ {A = ℕ} 0 1 = cc in absurd (omega arith)
    go false (some k) n q = let z : ◌≡◌ {A = ℕ} 0 1 = cc in absurd (omega arith)
