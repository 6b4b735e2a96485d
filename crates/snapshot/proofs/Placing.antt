-- Laws of what is said of all elements or pairs of a list, of keeping some, and of placing an element by its number.
use Prim.Native.Nat.{ℕ, ◌≤◌, ◌<◌}
use native.Mathlib.Omega.{arith}
use mathlib.Core.Path.{◌≡◌, refl, sym, ap, ◌∙◌}
use mathlib.Core.Bool.{Bool, true, false, cond}
use mathlib.Core.List.{List, [], ◌∷◌, ◌++◌, map}
use mathlib.Core.List.Permᴰ
use mathlib.Core.List.{Permᴰ}
use lib.Dec.{leb}
use borrow.Author.Tests.{leb-true, leb-false, le-leb, lt-leb}
use Rattle.snapshot.specs.Lists.{keep, All, Pairs, place, places}

-- ---- all elements, and all pairs

module _ {A : Type 0} where
  pub all_of : (P : A → Type 0) → ((x : A) → P x) → (l : List A) → All P l
  all_of P f [] = tt
  all_of P f (x ∷ l) = (f x, all_of P f l)

  pub all_imp : (P Q : A → Type 0) → ((x : A) → P x → Q x) → (l : List A) → All P l → All Q l
  all_imp P Q f [] h = tt
  all_imp P Q f (x ∷ l) h = (f x h.0, all_imp P Q f l h.1)

  pub all_both : (P Q R : A → Type 0) → ((x : A) → P x → Q x → R x) → (l : List A) → All P l → All Q l → All R l
  all_both P Q R f [] h k = tt
  all_both P Q R f (x ∷ l) h k = (f x h.0 k.0, all_both P Q R f l h.1 k.1)

  pub all_append : (P : A → Type 0) (l m : List A) → All P l → All P m → All P (l ++ m)
  all_append P [] m h k = k
  all_append P (x ∷ l) m h k = (h.0, all_append P l m h.1 k)

  pub pairs_imp : (P : A → Type 0) (R S : A → A → Type 0) → ((x y : A) → P x → P y → R x y → S x y) → (l : List A) → All P l →
      Pairs R l → Pairs S l
  pairs_imp P R S f [] h k = tt
  pairs_imp P R S f (x ∷ l) h k =
      (all_both P (R x) (S x) (λ y p r. f x y h.0 p r) l h.1 k.0, pairs_imp P R S f l h.1 k.1)

  -- one more at the end
  pub pairs_last : (R : A → A → Type 0) (l : List A) (x : A) → Pairs R l → All (λ y. R y x) l → Pairs R (l ++ (x ∷ []))
  pairs_last R [] x h k = (tt, tt)
  pairs_last R (y ∷ l) x h k = (all_append (R y) l (x ∷ []) h.0 (k.0, tt), pairs_last R l x h.1 k.1)

  pub keep_append : (f : A → Bool) (l m : List A) → keep f (l ++ m) ≡ keep f l ++ keep f m
  keep_append f [] m = refl
  keep_append f (x ∷ l) m = go (f x) (keep_append f l m)
    where
      go : (b : Bool) → keep f (l ++ m) ≡ keep f l ++ keep f m →
          cond b (x ∷ keep f (l ++ m)) (keep f (l ++ m)) ≡ cond b (x ∷ keep f l) (keep f l) ++ keep f m
      go true q = ap {B = List A} (λ k. x ∷ k) q
      go false q = q

  pub all_keep : (P : A → Type 0) (f : A → Bool) (l : List A) → All P l → All P (keep f l)
  all_keep P f [] h = tt
  all_keep P f (x ∷ l) h = go (f x) (all_keep P f l h.1)
    where
      go : (b : Bool) → All P (keep f l) → All P (cond b (x ∷ keep f l) (keep f l))
      go true k = (h.0, k)
      go false k = k

-- ---- placing x

module _ {A : Type 0} (number : A → ℕ) (x : A) where
  -- in ascending order
  abbrev Up : A → A → Type 0
  Up y z = number y ≤ number z

  pub place_last : (l : List A) → All (λ y. number y ≤ number x) l → place number x l ≡ l ++ (x ∷ [])
  place_last [] h = refl
  place_last (y ∷ l) h =
      ap (λ b. cond b (y ∷ place number x l) (x ∷ y ∷ l)) (le-leb (number y) (number x) h.0)
      ∙ ap {B = List A} (λ k. y ∷ k) (place_last l h.1)

  pub place_first : (l : List A) → All (λ y. number x < number y) l → place number x l ≡ x ∷ l
  place_first [] h = refl
  place_first (y ∷ l) h = ap (λ b. cond b (y ∷ place number x l) (x ∷ y ∷ l)) (lt-leb (number y) (number x) h.0)

  -- x stands behind y, or before it
  pub place_cases : (P : List A → Type 0) (y : A) (l : List A) → (number y ≤ number x → P (y ∷ place number x l)) →
      (number x < number y → P (x ∷ y ∷ l)) → P (place number x (y ∷ l))
  place_cases P y l behind before = go (leb (number y) (number x)) refl
    where
      go : (b : Bool) → leb (number y) (number x) ≡ b → P (cond b (y ∷ place number x l) (x ∷ y ∷ l))
      go true q = behind (leb-true (number y) (number x) q)
      go false q = before (leb-false (number y) (number x) q)

  pub all_place : (P : A → Type 0) (l : List A) → All P l → P x → All P (place number x l)
  all_place P [] h p = (p, tt)
  all_place P (y ∷ l) h p = place_cases (All P) y l (λ q. (h.0, all_place P l h.1 p)) (λ q. (p, h))

  -- what stands behind something that is above x is above x too
  above : (y : A) (l : List A) → All (Up y) l → number x < number y → All (λ z. number x < number z) l
  above y l h q = all_imp (Up y) (λ z. number x < number z) (λ z p. omega (arith, p, q)) l h

  pub pairs_place : (R : A → A → Type 0) (l : List A) → Pairs Up l → Pairs R l → All (λ y. number y ≤ number x → R y x) l →
      All (λ y. number x < number y → R x y) l → Pairs R (place number x l)
  pairs_place R [] up h low high = (tt, tt)
  pairs_place R (y ∷ l) up h low high =
      place_cases (Pairs R) y l
      (λ q. (all_place (R y) l h.0 (low.0 q), pairs_place R l up.1 h.1 low.1 high.1))
      (λ q. (
        (
          high.0 q,
          all_both (λ z. number x < number z) (λ z. number x < number z → R x z) (R x) (λ z p f. f p) l
              (above y l up.0 q) high.1,
        ),
        h,
      ))

  pub up_place : (l : List A) → Pairs Up l → Pairs Up (place number x l)
  up_place l up =
      pairs_place Up l up up (all_of (λ y. number y ≤ number x → Up y x) (λ y p. p) l)
      (all_of (λ y. number x < number y → Up x y) (λ y p. omega (arith, p)) l)

  pub place_perm : (l : List A) → Permᴰ (place number x l) (x ∷ l)
  place_perm [] = Permᴰ.refl (x ∷ [])
  place_perm (y ∷ l) =
      place_cases (λ k. Permᴰ k (x ∷ y ∷ l)) y l
      (λ q. Permᴰ.trans (Permᴰ.cons refl (place_perm l)) (Permᴰ.swap refl refl))
      (λ q. Permᴰ.refl (x ∷ y ∷ l))

  -- keeping some
  module _ (f : A → Bool) where
    pub keep_place_out : f x ≡ false → (l : List A) → keep f (place number x l) ≡ keep f l
    keep_place_out q [] = ap (λ b. cond b (x ∷ []) []) q
    keep_place_out q (y ∷ l) =
        place_cases (λ k. keep f k ≡ keep f (y ∷ l)) y l
        (λ r. ap (λ k. cond (f y) (y ∷ k) k) (keep_place_out q l))
        (λ r. ap (λ b. cond b (x ∷ keep f (y ∷ l)) (keep f (y ∷ l))) q)

    behind : (b : Bool) (y : A) (l : List A) → number y ≤ number x →
        cond b (y ∷ place number x l) (place number x l) ≡ place number x (cond b (y ∷ l) l)
    behind true y l q = sym (ap (λ c. cond c (y ∷ place number x l) (x ∷ y ∷ l)) (le-leb (number y) (number x) q))
    behind false y l q = refl

    pub keep_place_in : f x ≡ true → (l : List A) → Pairs Up l → keep f (place number x l) ≡ place number x (keep f l)
    keep_place_in q [] up = ap (λ b. cond b (x ∷ []) []) q
    keep_place_in q (y ∷ l) up =
        place_cases (λ k. keep f k ≡ place number x (keep f (y ∷ l))) y l
        (λ r. ap (λ k. cond (f y) (y ∷ k) k) (keep_place_in q l up.1) ∙ behind (f y) y (keep f l) r)
        (λ r. ap (λ b. cond b (x ∷ keep f (y ∷ l)) (keep f (y ∷ l))) q
        ∙ sym (place_first (keep f (y ∷ l)) (all_keep (λ z. number x < number z) f (y ∷ l) (r, above y l up.0 r))))

pub map_place : {A B : Type 0} (f : A → B) (number : B → ℕ) (x : A) (l : List A) →
    map f (place (λ a. number (f a)) x l) ≡ place number (f x) (map f l)
map_place f number x [] = refl
map_place {B = B} f number x (y ∷ l) = go (leb (number (f y)) (number (f x))) (map_place f number x l)
  where
    go : (b : Bool) → map f (place (λ a. number (f a)) x l) ≡ place number (f x) (map f l) →
        map f (cond b (y ∷ place (λ a. number (f a)) x l) (x ∷ y ∷ l)) ≡
        cond b (f y ∷ place number (f x) (map f l)) (f x ∷ f y ∷ map f l)
    go true q = ap {B = List B} (λ k. f y ∷ k) q
    go false q = refl

-- ---- placing several

module _ {A : Type 0} (number : A → ℕ) where
  pub places_append : (xs ys l : List A) → places number (xs ++ ys) l ≡ places number ys (places number xs l)
  places_append [] ys l = refl
  places_append (x ∷ xs) ys l = places_append xs ys (place number x l)

  pub places_perm : (xs l : List A) → Permᴰ (places number xs l) (xs ++ l)
  places_perm [] l = Permᴰ.refl l
  places_perm (x ∷ xs) l =
      Permᴰ.trans (places_perm xs (place number x l))
      (Permᴰ.trans (Permᴰ.append_left xs (place_perm number x l)) (Permᴰ.middle x xs l))
