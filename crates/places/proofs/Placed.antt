-- A place put in a book whose first places ascend stands where `place` has it (`put_placed`).
use Prim.Native.Nat.{ℕ, zero, suc, ◌+◌, ◌≤◌, ◌<◌}
use native.Mathlib.Omega.{arith}
use native.Mathlib.Decide.{ℕ_discrete}
use mathlib.Core.Path.{◌≡◌, refl, sym, ap, ap₂, ◌∙◌, subst}
use mathlib.Core.Logic.{by_cases}
use mathlib.Core.Bool.{Bool, true, false, cond}
use mathlib.Core.List.{List, [], ◌∷◌, ◌++◌}
use lib.Dec.{leb}
use lib.ListN.{length, get_or, take, drop, length-append, get_or-append}
use lib.Seq.{take-append-le, take-append_seam, drop-append-add}
use borrow.Author.Tests.{leb-true, leb-false, le-leb, lt-leb}
use Rattle.snapshot.specs.Lists.{All, Pairs, place}
use Rattle.places.specs.Places.{spot_in, put_in}
use Rattle.places.proofs.Spots.{spot_few}

-- the number of a place
abbrev pub first : List ℕ → ℕ
first p = get_or p 0 0

abbrev pub Up : List ℕ → List ℕ → Type 0
Up p q = first p ≤ first q

all_at : (P : List ℕ → Type 0) (l : List (List ℕ)) → All P l → (i : ℕ) → i < length l → P (get_or l i [])
all_at P [] h i l = absurd (omega (arith, l))
all_at P (x ∷ xs) h zero l = h.0
all_at P (x ∷ xs) h (suc i) l = all_at P xs h.1 i (omega (arith, l))

up_at : (l : List (List ℕ)) → Pairs Up l → (m i : ℕ) → m ≤ i → i < length l → first (get_or l m []) ≤ first (get_or l i [])
up_at [] h m i q l = absurd (omega (arith, l))
up_at (x ∷ xs) h zero zero q l = omega arith
up_at (x ∷ xs) h zero (suc i) q l = all_at (Up x) xs h.0 i (omega (arith, l))
up_at (x ∷ xs) h (suc m) zero q l = absurd (omega (arith, q))
up_at (x ∷ xs) h (suc m) (suc i) q l = up_at xs h.1 m i (omega (arith, q)) (omega (arith, l))

-- p placed at i
place_at : (p : List ℕ) (l : List (List ℕ)) (i : ℕ) → i ≤ length l → ((m : ℕ) → m < i → first (get_or l m []) ≤ first p) →
    ((m : ℕ) → i ≤ m → m < length l → first p < first (get_or l m [])) → take i l ++ (p ∷ drop i l) ≡ place first p l
place_at p [] zero q low high = refl
place_at p [] (suc i) q low high = absurd (omega (arith, q))
place_at p (x ∷ l) zero q low high =
    sym (ap (λ b. cond b (x ∷ place first p l) (p ∷ x ∷ l)) (lt-leb (first x) (first p) (high 0 (omega arith) (omega arith))))
place_at p (x ∷ l) (suc i) q low high =
    ap {B = List (List ℕ)} (λ k. x ∷ k) (place_at p l i (omega (arith, q)) (λ m r. low (suc m) (omega (arith, r)))
    (λ m r s. high (suc m) (omega (arith, r)) (omega (arith, s))))
    ∙ sym (ap (λ b. cond b (x ∷ place first p l) (p ∷ x ∷ l)) (le-leb (first x) (first p) (low 0 (omega arith))))

module _ (k : ℕ) (book : List (List ℕ)) where
  spot_low : (i : ℕ) → ((m j : ℕ) → m ≤ j → j < i → first (get_or book m []) ≤ first (get_or book j [])) → (m : ℕ) → m < spot_in k book i →
      first (get_or book m []) ≤ k
  spot_low zero up m = λ l. absurd (omega (arith, l))
  spot_low (suc i) up m = go (leb (first (get_or book i [])) k) refl (spot_low i (λ a b p q. up a b p (omega (arith, q))) m)
    where
      go : (b : Bool) → leb (first (get_or book i [])) k ≡ b → (m < spot_in k book i → first (get_or book m []) ≤ k) →
          m < cond b (suc i) (spot_in k book i) → first (get_or book m []) ≤ k
      go true e f l =
          let a = up m i (omega (arith, l)) (omega arith) in
          let b = leb-true (first (get_or book i [])) k e in
          omega (arith, a, b)
      go false e f l = f l

  spot_high : (i m : ℕ) → spot_in k book i ≤ m → m < i → k < first (get_or book m [])
  spot_high zero m = λ l r. absurd (omega (arith, r))
  spot_high (suc i) m = go (leb (first (get_or book i [])) k) refl (spot_high i m)
    where
      go : (b : Bool) → leb (first (get_or book i [])) k ≡ b → (spot_in k book i ≤ m → m < i → k < first (get_or book m [])) →
          cond b (suc i) (spot_in k book i) ≤ m → m < suc i → k < first (get_or book m [])
      go true e f l r = absurd (omega (arith, l, r))
      go false e f l r =
          by_cases (ℕ_discrete m i)
          (λ q. subst (λ j. k < first (get_or book j [])) (sym q) (leb-false (first (get_or book i [])) k e))
          (λ q. f l (omega (arith, r, q)))

-- a place is put in a book whose first places are these
pub put_placed : (p : List ℕ) (l rest : List (List ℕ)) → Pairs Up l → 0 < length rest →
    put_in p (length l) (l ++ rest) ≡ place first p l ++ drop 1 rest
unfolding put_in
put_placed p l rest up some-room =
    let i = spot_in (first p) (l ++ rest) (length l) in
    let few = spot_few (first p) (l ++ rest) (length l) in
    ap (λ b. cond b (l ++ rest) (take i (l ++ rest) ++ (p ∷ drop i (take (length l) (l ++ rest))) ++ drop (length l + 1) (l ++ rest)))
    (lt-leb (length (l ++ rest)) (length l) (simp length-append (omega (arith, some-room))))
    ∙ ap₂ {C = List (List ℕ)} (λ x y. x ++ y)
    (ap₂ {C = List (List ℕ)} (λ x y. x ++ (p ∷ drop i y)) (take-append-le i l rest few) (take-append_seam l rest)
    ∙ place_at p l i few
    (λ m q. subst (λ x. first x ≤ first p) (get_or-append l rest [] m (omega (arith, q, few)))
    (spot_low (first p) (l ++ rest) (length l) (λ a b r s. rising a b r s) m q))
    (λ m q r. subst (λ x. first p < first x) (get_or-append l rest [] m r) (spot_high (first p) (l ++ rest) (length l) m q r)))
    (drop-append-add l rest 1)
  where
    rising : (a b : ℕ) → a ≤ b → b < length l → first (get_or (l ++ rest) a []) ≤ first (get_or (l ++ rest) b [])
    rising a b r s =
        subst (λ x. first x ≤ first (get_or (l ++ rest) b [])) (sym (get_or-append l rest [] a (omega (arith, r, s))))
        (subst (λ x. first (get_or l a []) ≤ first x) (sym (get_or-append l rest [] b s)) (up_at l up a b r s))
