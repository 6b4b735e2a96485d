-- Putting a place among others, from the end: where it belongs, and making room for it; and a word of the first n.
use Prim.Native.Nat.{ℕ, zero, suc, ◌+◌, ◌-◌, ◌≤◌, ◌<◌, min}
use native.Mathlib.Omega.{arith}
use native.Mathlib.Decide.{dec_lt}
use mathlib.Core.Path.{◌≡◌, refl, sym, ap, ap₂, ◌∙◌, subst}
use mathlib.Core.Logic.{by_cases}
use mathlib.Core.Bool.{Bool, true, false, cond}
use mathlib.Core.List.{List, [], ◌∷◌, ◌++◌, append_assoc}
use lib.Dec.{leb}
use lib.ListN.{length, get_or, set, take, drop, replicate, length-append, length-drop, get_or-append, get_or-replicate}
use lib.Seq.{ext_get_or, get_or-drop, get_or-append_right, take-take, take-append-le, drop_at, set_split, length-take-le, get_or-take}
use borrow.Author.Tests.{le-leb, lt-leb}
use Rattle.std.specs.List.{copy_within}
use Rattle.std.proofs.lemmas.Slice.{between_is}
use Rattle.snapshot.proofs.Lists.{get_d_each}
use Rattle.places.specs.Places.{eight, spot_in, put_in}

-- ---- where it belongs

module _ (k : ℕ) (book : List (List ℕ)) where
  -- the number of the place below i
  abbrev below : ℕ → ℕ
  below i = get_or (get_or book (i - 1) []) 0 0

  pub spot_here : (i : ℕ) → 0 < i → below i ≤ k → spot_in k book i ≡ i
  spot_here zero z q = refl
  spot_here (suc i) z q =
      let e : suc i - 1 ≡ i = omega arith in
      ap (λ b. cond b (suc i) (spot_in k book i)) (le-leb _ k (subst (λ j. get_or (get_or book j []) 0 0 ≤ k) e q))

  pub spot_passed : (i : ℕ) → 0 < i → k < below i → spot_in k book i ≡ spot_in k book (i - 1)
  spot_passed zero z q = refl
  spot_passed (suc i) z q =
      let e : suc i - 1 ≡ i = omega arith in
      ap (λ b. cond b (suc i) (spot_in k book i)) (lt-leb _ k (subst (λ j. k < get_or (get_or book j []) 0 0) e q))
      ∙ ap (spot_in k book) (sym e)

-- ---- making room

module _ (old : List (List ℕ)) (count : ℕ) (fits : count < length old) where
  -- the places from i up to count moved up by one, and one stored where there is room for it
  pub stored : (i : ℕ) (place : List ℕ) → i ≤ count →
      set (copy_within old i count (i + 1)) i place ≡ take i old ++ (place ∷ drop i (take count old)) ++ drop (count + 1) old
  stored i place l =
      let behind : i + 1 + (count - i) ≡ count + 1 = omega (arith, l) in
      let rest = drop i (take count old) ++ drop (count + 1) old in
      let long = length-take-le (i + 1) old (omega (arith, l, fits)) in
      (λ t. set (take (i + 1) old ++ between_is old i count t ++ drop (behind t) old) i place)
      ∙ ap (λ x. set x i place) (append_assoc (take (i + 1) old) (drop i (take count old)) (drop (count + 1) old))
      ∙ set_split (take (i + 1) old ++ rest) i place (simp length-append (omega (arith, long)))
      ∙ ap₂ {C = List (List ℕ)} (λ x y. x ++ place ∷ y)
      (take-append-le i (take (i + 1) old) rest (omega (arith, long)) ∙ take-take i (i + 1) old (omega arith))
      (drop_at (take (i + 1) old) rest (suc i) (long ∙ (let f : i + 1 ≡ suc i = omega arith in f)))
      ∙ sym (append_assoc (take i old) (place ∷ drop i (take count old)) (drop (count + 1) old))

-- ---- a word of the first n, or 0

pub word_past_n : (n i : ℕ) (ws : List ℕ) → n ≤ i → get_or (take n ws) i 0 ≡ 0
word_past_n zero i ws l = refl
word_past_n (suc n) i [] l = refl
word_past_n (suc n) zero (w ∷ ws) l = absurd (omega (arith, l))
word_past_n (suc n) (suc i) (w ∷ ws) l = word_past_n n i ws (omega (arith, l))

pub word_past_end : (n i : ℕ) (ws : List ℕ) → length ws ≤ i → get_or (take n ws) i 0 ≡ 0
word_past_end zero i ws l = refl
word_past_end (suc n) i [] l = refl
word_past_end (suc n) zero (w ∷ ws) l = absurd (omega (arith, l))
word_past_end (suc n) (suc i) (w ∷ ws) l = word_past_end n i ws (omega (arith, l))

word_past : (n i : ℕ) (ws : List ℕ) → min n (length ws) ≤ i → get_or (take n ws) i 0 ≡ 0
word_past n i ws h = by_cases (dec_lt i n) (λ l. word_past_end n i ws (omega (arith, h, l))) (λ l. word_past_n n i ws (omega (arith, l)))

-- the first n of eight words, and zeros behind them
pub eight_shown : (n : ℕ) (ws : List ℕ) → let k = min (min n 8) (length ws) in take k ws ++ drop k (replicate 8 0) ≡ eight (take n ws)
eight_shown n ws = go (min (min n 8) (length ws)) refl
  where
    go : (k : ℕ) → min (min n 8) (length ws) ≡ k → take k ws ++ drop k (replicate 8 0) ≡ eight (take n ws)
    go k e =
        let long = length-take-le k ws (omega (arith, e)) in
        let all : length (take k ws ++ drop k (replicate 8 0)) ≡ 8 = simp (length-append, length-drop) (omega (arith, long, e)) in
        ext_get_or 0 (take k ws ++ drop k (replicate 8 0)) (eight (take n ws)) all
        (λ i l.
        let below : i < 8 = omega (arith, l, all) in
        by_cases (dec_lt i k)
        (λ h. get_or-append (take k ws) (drop k (replicate 8 0)) 0 i (omega (arith, long, h))
        ∙ get_or-take k ws i 0 h ∙ sym (get_or-take n ws i 0 (omega (arith, e, h))))
        (λ h. get_or-append_right (take k ws) (drop k (replicate 8 0)) i 0 (omega (arith, long, h))
        ∙ get_or-drop k (replicate 8 0) (i - length (take k ws)) 0
        ∙ get_or-replicate 8 (k + (i - length (take k ws))) 0 0 (omega (arith, long, h, below))
        ∙ sym (word_past n i ws (omega (arith, e, h, below))))
        ∙ sym (get_d_each 8 (λ i. get_or (take n ws) i 0) i 0 below))

-- ---- the whole of `put_in`

pub spot_few : (k : ℕ) (book : List (List ℕ)) (i : ℕ) → spot_in k book i ≤ i
spot_few k book zero = omega arith
spot_few k book (suc i) = go (leb (get_or (get_or book i []) 0 0) k) (spot_few k book i)
  where
    go : (b : Bool) → spot_in k book i ≤ i → cond b (suc i) (spot_in k book i) ≤ suc i
    go true l = omega arith
    go false l = omega (arith, l)

module _ (place : List ℕ) (count : ℕ) (book : List (List ℕ)) where
  pub put_nowhere : length book ≤ count → book ≡ put_in place count book
  unfolding put_in
  put_nowhere l = sym (rw (le-leb (length book) count l))

  pub put_there : (i : ℕ) (after : List (List ℕ)) → count < length book → i ≡ spot_in (get_or place 0 0) book count →
      after ≡ copy_within book i count (i + 1) → set after i place ≡ put_in place count book
  unfolding put_in
  put_there i after l e q =
      ap₂ (λ x j. set x j place) (q ∙ ap (λ j. copy_within book j count (j + 1)) e) e
      ∙ stored book count l (spot_in (get_or place 0 0) book count) place (spot_few (get_or place 0 0) book count)
      ∙ sym (rw (lt-leb (length book) count l))
